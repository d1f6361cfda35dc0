-- The laws of pieces on 02's example, whose log is read in two: the second record is cut by the first piece and whole in the second. And the premises of the
-- other laws of nights and calls, met there.
use Rattle.std.specs.Prelude.{Err}
use mathlib.Core.Path.{◌≡◌, refl, ap}
use mathlib.Core.Logic.{inl}
use mathlib.Core.Option.{some}
use mathlib.Core.List.{List, [], ◌∷◌}
use mathlib.Core.Bool.{false}
use Prim.Native.Nat.{ℕ, zero, suc, ◌<◌, ◌≤◌}
use native.Mathlib.Omega.{arith}
use lib.ListN.{length, take, drop, replicate}
use Rattle.rules.specs.After.{stamp_in, aged_to, silent_in, late_after, any_findings, with_counts, after_tick}
use Rattle.log_numbers.specs.Number.{groups, read_groups}
use Rattle.log_records.specs.Record.{Rec, tick, AllLoggable, record_bytes, log_bytes}
use Rattle.log_records.specs.Reading.{length_part, identifier_part, channel_part, time_part, record_at, log_of, wholly}
use Rattle.text_numbers.specs.Numbers.{glyph_of, digits_in, numeral}
use Rattle.text_pen.specs.Pens.{text_of}
use Rattle.watch_rules.specs.Run.{Request, setUp, run, accepted}
use Rattle.watch_rules.proofs.Demand.{run_kept}
use Rattle.watch_rules.specs.Table.{empty_table, place_of, place_named, some_place, place_in, heard_of, feed_at, feed_of, is_other, set_up_of}
use Rattle.rule_limits.specs.declared.PlainLimits.{PlainLimits}
use Rattle.rule_limits.specs.Limits.{limits_fit}
use Rattle.playing_nights.specs.declared.Replay.{Replay}
use Rattle.playing_nights.specs.declared.Course.TheVariants.{Records}
use Rattle.playing_nights.specs.declared.Unprepared.TheVariants.{Late}
use Rattle.playing_nights.specs.declared.Next.{Next}
use Rattle.playing_nights.specs.declared.Played.TheVariants.{Line, End, Cut, Short}
use Rattle.playing_nights.specs.Answers.{is_line}
use Rattle.playing_line.specs.Lines.{line_room, refused_words, line_of, AllShort}
use Rattle.playing_nights.specs.Call.{Prepared, fresh, set_up_in, line_call, call_of, next_line, buffer_after}
use Rattle.playing_nights.specs.Fed.{line_for, line01}
use Rattle.playing_nights.specs.Night.{Wanted, set_ups_from, run_of, prepared_from, night_of, prepared01, night01}
use Rattle.playing_nights.specs.Pieces.{Piece, AllRoomy, in_pieces}
use Rattle.playing_nights.specs.Readings.{set_up, ticks, told}
use Rattle.log_records.specs.Pieces.{piece_of}
use Rattle.playing_nights.proofs.Pieces.{line_in_piece}
use Rattle.playing_nights.proofs.Pieced.{night_in_pieces}
use Rattle.playing_nights.proofs.Roomy.{pieces_reach}
use Rattle.playing_nights.proofs.Nights.{lines, lines_cut}
use Rattle.playing_nights.proofs.Afresh.{line_01, night_01}
use Rattle.playing_nights.proofs.Shorts.{lines_short}
use Rattle.playing_nights.proofs.Calls.{short_first, no_line, behind_line, line_lies, after_line, set_up_late}

abbrev posts : List Wanted
posts = set_up 0 2 ∷ []

abbrev one : List Request
one = setUp 0 2 (record { voltage = 10000; charge = 10000; discharge = 10000; silence = 500; sensor = 0; interface = 0 }) ∷ []

abbrev buffer : List ℕ
buffer = replicate line_room 0

-- ---- the second record's call

abbrev after_one : Replay
after_one = (next_line (set_ups_from fresh posts) ticks 0 line_room).replay

-- the first seven bytes show a cut, which is theirs alone
pub cut_by_piece : (next_line after_one (piece_of ticks 0 7) 5 line_room).answer ≡ Cut 5
unfolding set_ups_from set_up_in call_of line_call set_up_of is_other limits_fit place_of place_named some_place place_in feed_of feed_at heard_of with_counts after_tick record_at time_part channel_part identifier_part length_part read_groups
cut_by_piece = refl

-- "2 - R1", and the next byte is the log's
pub second_line : ((next_line after_one ticks 5 line_room).answer ≡ Line 7 10) × (take 7 (buffer_after after_one ticks 5 buffer) ≡ 50 ∷ 32 ∷ 45 ∷ 32 ∷ 82 ∷ 49 ∷ 10 ∷ [])
unfolding set_ups_from set_up_in call_of line_call line_of refused_words text_of numeral digits_in glyph_of set_up_of is_other limits_fit place_of place_named some_place place_in feed_of feed_at heard_of with_counts after_tick any_findings silent_in late_after stamp_in aged_to record_at time_part channel_part identifier_part length_part read_groups
second_line =
    let x = line_in_piece after_one ticks 5 5 0 buffer (inl refl) in
    (ap (λ (n : Next). n.answer) x.0, ap (take 7) x.1)

-- ---- the whole night

-- seven bytes for the first record; the same for the second, in vain; five bytes from it on; and a piece behind the last byte
abbrev two : List Piece
two = (0, 7) ∷ (5, 7) ∷ (0, 5) ∷ (0, 7) ∷ []

pub two_told : in_pieces two (set_ups_from fresh posts) ticks 0 buffer ≡ some (record { lines = told; ending = End })
unfolding in_pieces set_ups_from set_up_in call_of line_call line_of refused_words text_of numeral digits_in glyph_of set_up_of is_other limits_fit place_of place_named some_place place_in feed_of feed_at heard_of with_counts after_tick any_findings silent_in late_after stamp_in aged_to record_at time_part channel_part identifier_part length_part read_groups
two_told = refl

pub night_told : run_of posts ticks buffer ≡ record { lines = told; ending = End }
night_told = night_in_pieces two posts ticks buffer (record { lines = told; ending = End }) two_told

-- eleven pieces of 20 bytes, one more than the log has bytes
roomy : (n : ℕ) → AllRoomy (replicate n (0, 20))
roomy zero = tt
roomy (suc n) = (omega arith, roomy n)

pub eleven_reach : in_pieces (replicate 11 (0, 20)) (set_ups_from fresh posts) ticks 0 buffer ≡ some (run_of posts ticks buffer)
eleven_reach = pieces_reach (replicate 11 (0, 20)) posts ticks buffer (roomy 11) (omega arith)

-- ---- the records fed singly, by 01's rules, and after a cut

-- a line after the one set-up
pub line_by_the_rules : (n : ℕ) (x : Rec) → line_for (run one) n x ≡ line01 (accepted one) n x
line_by_the_rules n x = line_01 (run one) (accepted one) (run_kept one) n x

pub fed_singly : run_of posts ticks buffer ≡ night_of (prepared_from empty_table posts) (log_of ticks)
fed_singly = lines posts ticks buffer (omega arith) (omega arith)

pub by_the_rules : run_of posts ticks buffer ≡ night01 (prepared01 [] posts) (log_of ticks)
by_the_rules = night_01 posts ticks buffer (omega arith) (omega arith)

pub all_short : AllShort (run_of posts ticks buffer).lines
all_short = lines_short posts ticks buffer (omega arith) (omega arith)

abbrev both : List Rec
both = tick 300 2 ∷ tick 300 3 ∷ []

loggable : AllLoggable both
loggable = ((omega arith, omega arith), ((omega arith, omega arith), tt))

-- seven bytes of it
pub cut_at_7 : run_of posts (take 7 (log_bytes both)) buffer ≡ night_of (prepared_from empty_table posts) (wholly 0 7 both)
unfolding log_bytes record_bytes groups
cut_at_7 = lines_cut posts both 7 buffer loggable (omega arith) (omega arith) (omega arith)

-- ---- calls

-- 39 bytes are no line buffer
pub eight_first : (next_line after_one ticks 5 39).answer ≡ Short
eight_first = ap (λ (n : Next). n.answer) (short_first after_one ticks 5 (replicate 39 0) (omega arith)).0

-- behind the log's end nothing changes
none : is_line (next_line fresh [] 0 line_room).answer ≡ false
unfolding call_of
none = refl

pub nothing_changes : (next_line fresh [] 0 line_room).replay ≡ fresh
nothing_changes = (no_line fresh [] 0 buffer none).0

-- the second record's line leaves the buffer behind its seven bytes; and a set-up comes late
pub behind_the_line : drop 7 (buffer_after after_one ticks 5 buffer) ≡ drop 7 buffer
behind_the_line = behind_line after_one ticks 5 buffer 7 10 second_line.0

pub next_lies : (5 < 10) × (10 ≤ length ticks)
next_lies = line_lies after_one ticks 5 buffer 7 10 second_line.0

pub then_records : (next_line after_one ticks 5 line_room).replay.course ≡ Records
then_records = after_line after_one ticks 5 buffer 7 10 second_line.0

pub too_late : (lim : PlainLimits) → (set_up_in (next_line after_one ticks 5 line_room).replay 1 4 lim).answer ≡ Err Late
too_late lim = ap (λ (p : Prepared). p.answer) (set_up_late after_one ticks 5 buffer 7 10 second_line.0 1 4 lim)
