-- 02, Req 05: its worked example, and each form of a line and of an ending, computed.
use Rattle.std.specs.Prelude.{◌≡◌, refl, List, [], ◌∷◌, ◌++◌, map, ℕ, replicate, Ok, Err}
use Rattle.refusals.specs.declared.Refusal.TheVariants.{ChannelFree, Earlier, NoLabel, LogChannel, NoSuchPost, ChannelTaken}
use Rattle.rule_limits.specs.declared.PlainLimits.{PlainLimits}
use Rattle.rules.specs.After.{stamp_in, aged_to, silent_in, late_after, any_findings, with_counts, after_tick}
use Rattle.log_numbers.specs.Number.{read_groups}
use Rattle.page_table.specs.Table.{rows, first_at}
use Rattle.page_interfaces.specs.Foreign.{is_foreign, judge_for}
use Rattle.log_records.specs.Reading.{length_part, identifier_part, channel_part, time_part, record_at}
use Rattle.text_numbers.specs.Numbers.{glyph_of, digits_in, numeral}
use Rattle.text_pen.specs.Pens.{text_of}
use Rattle.watch_rules.specs.Answer.{Answer}
use Rattle.watch_rules.specs.Table.{place_of, place_named, some_place, place_in, heard_of, feed_at, feed_of, is_other, set_up_of}
use Rattle.rule_limits.specs.Limits.{limits_fit}
use Rattle.playing_nights.specs.declared.Played.TheVariants.{End, Cut, Bad, SetUp, Short}
use Rattle.playing_line.specs.Lines.{line_room, refused_words, line_of}
use Rattle.playing_nights.specs.Call.{set_up_in, line_call, call_of}
use Rattle.playing_nights.specs.Night.{Wanted, Night, set_ups_from, calls_from, run_of}

-- ---- lines: count, post, answer, and the text

abbrev forms : List (ℕ × ℕ × Answer × List ℕ)
forms =
    -- "1 0 A0", "2 - R1", "3 0 R5 48", "4 7 R2", "10 3 A1027", "11 15 R2"
    (1, 0, Ok 0, 49 ∷ 32 ∷ 48 ∷ 32 ∷ 65 ∷ 48 ∷ 10 ∷ [])
    ∷ (2, 16, Err ChannelFree, 50 ∷ 32 ∷ 45 ∷ 32 ∷ 82 ∷ 49 ∷ 10 ∷ [])
    ∷ (3, 0, Err (NoLabel 48), 51 ∷ 32 ∷ 48 ∷ 32 ∷ 82 ∷ 53 ∷ 32 ∷ 52 ∷ 56 ∷ 10 ∷ [])
    ∷ (4, 7, Err Earlier, 52 ∷ 32 ∷ 55 ∷ 32 ∷ 82 ∷ 50 ∷ 10 ∷ [])
    ∷ (10, 3, Ok 1027, 49 ∷ 48 ∷ 32 ∷ 51 ∷ 32 ∷ 65 ∷ 49 ∷ 48 ∷ 50 ∷ 55 ∷ 10 ∷ [])
    ∷ (11, 15, Err Earlier, 49 ∷ 49 ∷ 32 ∷ 49 ∷ 53 ∷ 32 ∷ 82 ∷ 50 ∷ 10 ∷ [])
    ∷ []

pub line_forms : map (λ e. line_of e.0 e.1 e.2) forms ≡ map (λ e. e.3) forms
unfolding line_of refused_words text_of numeral digits_in glyph_of
line_forms = refl

-- ---- nights

-- of an interface by its number
abbrev limits : ℕ → PlainLimits
limits n = record { voltage = 5000; charge = 1000; discharge = 500; silence = 500; sensor = 0; interface = n }

abbrev pub set_up : ℕ → ℕ → Wanted
set_up i c = (i, c, limits 0)

abbrev older : ℕ → ℕ → Wanted
older i c = (i, c, limits 1)

-- "log AC 02 02 00 09 AC 02 03 00 09: lines "1 0 A0" and "2 - R1""
abbrev pub ticks : List ℕ
ticks = 0xac ∷ 0x02 ∷ 0x02 ∷ 0x00 ∷ 0x09 ∷ 0xac ∷ 0x02 ∷ 0x03 ∷ 0x00 ∷ 0x09 ∷ []

abbrev pub told : List (List ℕ)
told = (49 ∷ 32 ∷ 48 ∷ 32 ∷ 65 ∷ 48 ∷ 10 ∷ []) ∷ (50 ∷ 32 ∷ 45 ∷ 32 ∷ 82 ∷ 49 ∷ 10 ∷ []) ∷ []

-- a tick at 299
abbrev earlier_tick : List ℕ
earlier_tick = 0xab ∷ 0x02 ∷ 0x02 ∷ 0x00 ∷ 0x09 ∷ []

-- 000's Advantics_Controller_Status on channel 2, and 001's on channel 3
abbrev statuses : List ℕ
statuses = 0x00 ∷ 0x02 ∷ 0x81 ∷ 0xc0 ∷ 0x35 ∷ 0x01 ∷ 0x07 ∷ 0x00 ∷ 0x03 ∷ 0x93 ∷ 0x80 ∷ 0x34 ∷ 0x01 ∷ 0x07 ∷ []

-- "1 0 R29", "2 1 R29"
abbrev foreign : List (List ℕ)
foreign = (49 ∷ 32 ∷ 48 ∷ 32 ∷ 82 ∷ 50 ∷ 57 ∷ 10 ∷ []) ∷ (50 ∷ 32 ∷ 49 ∷ 32 ∷ 82 ∷ 50 ∷ 57 ∷ 10 ∷ []) ∷ []

-- set-ups, a log, the bytes of the line buffer, and the night
abbrev Case : Type 0
Case = List Wanted × List ℕ × ℕ × Night

abbrev cases : List Case
cases =
    -- "Post 0 on channel 2", and 02's log
    (set_up 0 2 ∷ [], ticks, line_room, record { lines = told; ending = End })
    -- "3 0 R2", and then a piece of a record that began at byte 15
    ∷ (set_up 0 2 ∷ [], ticks ++ (earlier_tick ++ (0xac ∷ [])), line_room, record { lines = told ++ ((51 ∷ 32 ∷ 48 ∷ 32 ∷ 82 ∷ 50 ∷ 10 ∷ []) ∷ []); ending = Cut 15 })
    -- channel 32 in a log: "the byte where that record began"
    ∷ (set_up 0 2 ∷ [], ticks ++ (0x00 ∷ 0x20 ∷ []), line_room, record { lines = told; ending = Bad LogChannel 10 })
    -- "a refused one ends the replay with its number and no line", also where a later one would be accepted
    ∷ (set_up 16 2 ∷ set_up 0 2 ∷ [], ticks, line_room, record { lines = []; ending = SetUp NoSuchPost })
    ∷ (set_up 0 2 ∷ set_up 1 2 ∷ [], ticks, line_room, record { lines = []; ending = SetUp ChannelTaken })
    -- "a line buffer under 40 bytes gets 8 first"
    ∷ (set_up 16 2 ∷ [], ticks, 39, record { lines = []; ending = Short })
    -- Req 13: "1 15 A0", "2 8 A0"
    ∷ (set_up 8 3 ∷ set_up 15 2 ∷ [], ticks, line_room, record { lines = (49 ∷ 32 ∷ 49 ∷ 53 ∷ 32 ∷ 65 ∷ 48 ∷ 10 ∷ []) ∷ (50 ∷ 32 ∷ 56 ∷ 32 ∷ 65 ∷ 48 ∷ 10 ∷ []) ∷ []; ending = End })
    -- Req 11: an older post and a newer one, each with the other's frame
    ∷ (older 0 2 ∷ set_up 1 3 ∷ [], statuses, line_room, record { lines = foreign; ending = End })
    ∷ []

pub readings : map (λ e. run_of e.0 e.1 (replicate e.2 0)) cases ≡ map (λ e. e.3) cases
unfolding calls_from set_ups_from set_up_in call_of line_call line_of refused_words text_of numeral digits_in glyph_of set_up_of is_other limits_fit place_of place_named some_place place_in feed_of feed_at heard_of with_counts after_tick any_findings silent_in late_after stamp_in aged_to record_at time_part channel_part identifier_part length_part read_groups judge_for is_foreign first_at rows
readings = refl
