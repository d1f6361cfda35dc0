-- The laws of slices on 02's example, whose log is fed in two batches of a record each.
use Rattle.std.specs.Prelude.{Ok}
use Rattle.std.proofs.Common.{◌≡◌, ℕ, ◌*◌, ◌≤◌, true, List, [], ◌∷◌, ◌++◌, length, replicate, sym, refl, arith}
use mathlib.Core.Option.{some}
use lib.ListN.{length-replicate}
use Rattle.rules.specs.declared.Post.{Post}
use Rattle.rules.specs.After.{free_post, stamp_in, aged_to, silent_in, late_after, any_findings, with_counts, after_tick}
use Rattle.log_numbers.specs.Number.{read_groups}
use Rattle.log_records.specs.Reading.{length_part, identifier_part, channel_part, time_part, record_at, read_from, log_of, records_in}
use Rattle.log_records.specs.Record.{tick}
use Rattle.log_records.specs.Pieces.{piece_of}
use Rattle.log_read.proofs.Scans.{log_at}
use Rattle.text_numbers.specs.Numbers.{glyph_of, digits_in, numeral}
use Rattle.text_pen.specs.Pens.{text_of}
use Rattle.watch_rules.specs.declared.Table.{Table}
use Rattle.watch_rules.specs.Table.{post_count, empty_table, place_of, place_named, some_place, place_in, heard_of, feed_at, feed_of, is_other, set_up_of}
use Rattle.rule_limits.specs.Limits.{limits_fit}
use Rattle.batch.specs.batch_rules.specs.Batch.{is_whole, why_batch}
use Rattle.playing_line.specs.Lines.{line_room, refused_words, line_of}
use Rattle.playing_answers.specs.Texts.{word_line}
use Rattle.playing_nights.specs.declared.Replay.{Replay}
use Rattle.playing_nights.specs.Fed.{fed_with, lines_from}
use Rattle.playing_nights.specs.Call.{fresh, set_up_in}
use Rattle.playing_nights.specs.Night.{Wanted, prepared_from, night_of, set_ups_from}
use Rattle.playing_nights.specs.Readings.{set_up, ticks}
use Rattle.playing_batches.specs.Batched.{fed_on, lines_on, why_not, batched_of, lines_of}
use Rattle.playing_batches.specs.Slices.{Slice, in_slices}
use Rattle.playing_batches.proofs.Fours.{four_bytes}
use Rattle.playing_batches.proofs.Singly.{place_kept, place_low, line_of_word, lines_short}
use Rattle.playing_batches.proofs.Slices.{counted, slice_records, batched_lines, batched_night}

abbrev posts : List Wanted
posts = set_up 0 2 ∷ []

-- five bytes, four places for answers, and fifty bytes for lines
abbrev slice : Slice
slice = (5, 4, replicate 50 0)

abbrev two : List Slice
two = slice ∷ slice ∷ []

-- "1 0 A0", "2 - R1"
abbrev told : List ℕ
told = 49 ∷ 32 ∷ 48 ∷ 32 ∷ 65 ∷ 48 ∷ 10 ∷ 50 ∷ 32 ∷ 45 ∷ 32 ∷ 82 ∷ 49 ∷ 10 ∷ []

pub two_told : in_slices two (set_ups_from fresh posts) ticks 0 ≡ some told
unfolding in_slices batched_of lines_of why_not why_batch is_whole fed_on lines_on set_ups_from set_up_in line_of refused_words text_of numeral digits_in glyph_of set_up_of is_other limits_fit place_of place_named some_place place_in feed_of feed_at heard_of with_counts after_tick any_findings silent_in late_after stamp_in aged_to records_in read_from record_at time_part channel_part identifier_part length_part read_groups
two_told = refl

none_left : records_in (log_at ticks 10) ≡ []
unfolding records_in read_from
none_left = refl

-- the lines of the night are what the two calls wrote
pub night_told : text_of (night_of (prepared_from empty_table posts) (log_of ticks)).lines ≡ told
night_told = sym (batched_night two posts ticks told (omega arith) two_told none_left)

-- ---- the other laws there

abbrev prepared : Replay
prepared = set_ups_from fresh posts

-- two records in ten bytes
pub two_records : 4 * length (records_in (log_of ticks)) ≤ 10
two_records = four_bytes ticks

whole_five : is_whole (log_of (piece_of ticks 0 5)) ≡ true
unfolding is_whole read_from record_at time_part channel_part identifier_part length_part read_groups
whole_five = refl

pub ticks_apart : records_in (log_at ticks 0) ≡ records_in (log_of (piece_of ticks 0 5)) ++ records_in (log_at ticks 5)
ticks_apart = slice_records ticks 0 5 whole_five

none_before : prepared.count ≡ 0
unfolding set_ups_from set_up_in set_up_of is_other limits_fit place_of
none_before = refl

pub ticks_counted : lines_on prepared (records_in (log_of ticks)) ≡ lines_from prepared.table prepared.count (records_in (log_of ticks))
ticks_counted = counted (records_in (log_of ticks)) prepared (omega (arith, none_before, two_records))

pub ticks_lines : told ≡ text_of (lines_from prepared.table prepared.count (records_in (log_of ticks)))
ticks_lines = batched_lines two prepared ticks told (omega (arith, none_before)) two_told none_left

pub ticks_short : length (text_of (lines_on fresh (records_in (log_of ticks)))) ≤ line_room * length (records_in (log_of ticks))
ticks_short = lines_short (records_in (log_of ticks)) fresh (λ c. omega (arith, place_low empty_table.posts c, length-replicate {A = Post} post_count free_post))

-- "1 0 A0"
pub found_line : word_line 1 0 0 ≡ line_of 1 0 (Ok 0)
found_line = line_of_word 1 0 (Ok 0) (omega arith)

pub tick_place : (t : Table) → place_of (fed_with t (tick 300 2)).table.posts 2 ≡ place_of t.posts 2
tick_place t = place_kept t (tick 300 2) 2
