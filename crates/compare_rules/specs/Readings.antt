-- 02, Req 10, computed: two lists of records, the numbers of the surplus of each, and the places of channels 0 to 2.
use Rattle.std.specs.Prelude.{◌≡◌, refl, true, false, List, [], ◌∷◌, map, ℕ}
use Rattle.log_records.specs.Record.{Rec, tick, frame}
use Rattle.compare_rules.specs.Records.{same, same_bytes}
use Rattle.compare_rules.specs.Surplus.{count_of, surplus_from, surplus_of}
use Rattle.compare_rules.specs.Places.{on_channel, differ, places_from}
use Rattle.log_numbers.specs.Number.{read_groups}
use Rattle.log_records.specs.Reading.{records_in, read_from, record_at, time_part, channel_part, identifier_part, length_part}
use Rattle.refusals.specs.declared.Refusal.TheVariants.{ShortBuffer, CompareLog, CompareRecords, CompareRoom}
use Rattle.compare_rules.specs.Compare.{Compared, listed_in, refused_for, broken_at, judged, compared_of}

abbrev a : Rec
a = tick 300 0

abbrev b : Rec
b = frame 300 1 true 438272 (1 ∷ [])

abbrev c : Rec
c = frame 300 1 true 438272 (2 ∷ [])

abbrev pub table : List ((List Rec × List Rec) × (List ℕ × (List ℕ × List ℕ)))
table =
    -- nothing against nothing, and a log against itself
    (([], []), ([], ([], 0 ∷ 0 ∷ 0 ∷ [])))
    ∷ ((a ∷ b ∷ a ∷ [], a ∷ b ∷ a ∷ []), ([], ([], 0 ∷ 0 ∷ 0 ∷ [])))
    -- three against one: the later repeats, 2 and 3, are the surplus
    ∷ ((a ∷ a ∷ a ∷ [], a ∷ []), (2 ∷ 3 ∷ [], ([], 2 ∷ 0 ∷ 0 ∷ [])))
    ∷ ((a ∷ [], a ∷ a ∷ a ∷ []), ([], (2 ∷ 3 ∷ [], 2 ∷ 0 ∷ 0 ∷ [])))
    -- numbers go over all channels, places within one
    ∷ ((a ∷ a ∷ b ∷ [], a ∷ a ∷ c ∷ []), (3 ∷ [], (3 ∷ [], 0 ∷ 1 ∷ 0 ∷ [])))
    -- another order of channels is no difference, another order within one is
    ∷ ((a ∷ b ∷ c ∷ [], b ∷ c ∷ a ∷ []), ([], ([], 0 ∷ 0 ∷ 0 ∷ [])))
    ∷ ((a ∷ b ∷ c ∷ [], a ∷ c ∷ b ∷ []), ([], ([], 0 ∷ 1 ∷ 0 ∷ [])))
    -- one part is another: time, channel, kind, form, identifier, payload
    ∷ ((tick 1 0 ∷ tick 2 1 ∷ [], tick 2 0 ∷ tick 2 2 ∷ []), (1 ∷ 2 ∷ [], (1 ∷ 2 ∷ [], 1 ∷ 1 ∷ 1 ∷ [])))
    ∷ ((tick 1 0 ∷ frame 1 0 true 5 [] ∷ frame 1 0 false 6 [] ∷ frame 1 0 false 5 (0 ∷ []) ∷ [], frame 1 0 false 5 [] ∷ []), (1 ∷ 2 ∷ 3 ∷ 4 ∷ [], (1 ∷ [], 1 ∷ 0 ∷ 0 ∷ [])))
    ∷ []

pub readings : map (λ e. (surplus_of e.0.0 e.0.1, (surplus_of e.0.1 e.0.0, places_from e.0.0 e.0.1 0 3))) table ≡ map (λ e. e.1) table
unfolding surplus_from count_of same same_bytes places_from differ on_channel
readings = refl

-- Logs as bytes, lists of x and y places, z places for the channels, and the answer. A good log is a tick at 300 on channel 2; a bad one has channel
-- 32 behind it, and one is cut.
abbrev good : List ℕ
good = 172 ∷ 2 ∷ 2 ∷ 0 ∷ 9 ∷ []

abbrev bad : List ℕ
bad = 172 ∷ 2 ∷ 2 ∷ 0 ∷ 9 ∷ 0 ∷ 32 ∷ []

abbrev short : List ℕ
short = 172 ∷ 2 ∷ 2 ∷ []

abbrev pub answers : List ((List ℕ × List ℕ) × ((ℕ × (ℕ × ℕ)) × Compared))
answers =
    ((good, good), ((512, (512, 32)), listed_in 0 0))
    ∷ ((good, []), ((512, (512, 33)), listed_in 1 0))
    -- 26, the first log first, and before short lists
    ∷ ((bad, short), ((0, (0, 0)), refused_for CompareLog 1 5))
    ∷ ((good, short), ((0, (0, 0)), refused_for CompareLog 2 0))
    -- 28, the first list first, and before the channels' places
    ∷ ((good, good), ((511, (511, 31)), refused_for CompareRoom 1 0))
    ∷ ((good, good), ((512, (511, 31)), refused_for CompareRoom 2 0))
    ∷ ((good, good), ((512, (512, 31)), refused_for ShortBuffer 0 0))
    ∷ []

pub answered : map (λ e. compared_of e.0.0 e.0.1 e.1.0.0 e.1.0.1.0 e.1.0.1.1) answers ≡ map (λ e. e.1.1) answers
unfolding compared_of broken_at records_in surplus_from count_of same read_from record_at time_part channel_part identifier_part length_part read_groups
answered = refl

-- 27 by the number of records, the first log first, and before short lists
pub many : map (λ (e : ℕ × ℕ). judged e.0 e.1 0 0 0 (listed_in 0 0)) ((513, 513) ∷ (512, 513) ∷ (512, 512) ∷ []) ≡ refused_for CompareRecords 1 0 ∷ refused_for CompareRecords 2 0 ∷ refused_for CompareRoom 1 0 ∷ []
many = refl
