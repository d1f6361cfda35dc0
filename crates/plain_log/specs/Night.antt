-- The night log over the C interface, in numbers and bytes alone.
use Rattle.std.specs.Prelude.{ℕ, cond, List, [], ◌∷◌, ◌++◌, leb, length, drop, Ok, Err}
use Rattle.refusals.specs.declared.Refusal.TheVariants.{ShortBuffer}
use Rattle.log_records.specs.declared.Entry.{Entry}
use Rattle.log_records.specs.declared.Found.{Found}
use Rattle.log_records.specs.declared.Found.TheVariants as found
use Rattle.log_write.specs.Logged.{Logged}
use Rattle.plain_words.specs.Words.{Outcome, answers, refuses, outcome_word}

-- ---- writing a record: the number of its bytes, or the refusal

abbrev pub logged_outcome : Logged → Outcome
logged_outcome (Ok n) = answers n
logged_outcome (Err w) = refuses w

abbrev pub logged_word : Logged → ℕ
logged_word w = outcome_word (logged_outcome w)

-- ---- what stands at a byte of a log

abbrev pub entry_count : ℕ
entry_count = 8

-- 1 for a tick; time, channel, identifier; 1 for an extended frame; the payload's first byte and its length; the next record's first byte
abbrev pub entry_numbers : Entry → List ℕ
entry_numbers e = cond e.tick 1 0 ∷ e.time ∷ e.channel ∷ e.id ∷ cond e.extended 1 0 ∷ e.start ∷ e.length ∷ e.next ∷ []

-- 0 a record, 1 the end, 2 a piece of a record, or the refusal; 8, judged last, where a record is found and the lent places are too few
abbrev pub found_outcome : Found → ℕ → Outcome
found_outcome (found.Record e) places = cond (leb entry_count places) (answers 0) (refuses ShortBuffer)
found_outcome found.End places = answers 1
found_outcome (found.Cut at) places = answers 2
found_outcome (found.Refused w at) places = refuses w

abbrev pub found_word : Found → ℕ → ℕ
found_word f places = outcome_word (found_outcome f places)

-- only a record that is handed out changes the lent numbers, and only the first of them
abbrev pub entry_left : Found → List ℕ → List ℕ
entry_left (found.Record e) ns = cond (leb entry_count (length ns)) (entry_numbers e ++ drop entry_count ns) ns
entry_left found.End ns = ns
entry_left (found.Cut at) ns = ns
entry_left (found.Refused w at) ns = ns
