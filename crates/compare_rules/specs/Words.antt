-- A comparison over the C interface: a word, 0 where it is accepted, and two numbers: how many stand in each list, or side and byte of what is
-- refused. Where there are fewer places for these two the call is refused with 8, before anything else, and nothing is written.
use Rattle.std.specs.Prelude.{ℕ, cond, List, [], ◌∷◌, ltb, length, Ok, Err}
use Rattle.std.proofs.lemmas.List.Edits.{sets}
use Rattle.refusals.specs.declared.Refusal.TheVariants.{ShortBuffer}
use Rattle.plain_words.specs.Words.{Outcome, answers, refuses, outcome_word}
use Rattle.compare_rules.specs.Compare.{Compared, compared_of}

abbrev pub outcome_of : Compared → Outcome
outcome_of (Ok x) = answers 0
outcome_of (Err e) = refuses e.why

abbrev pub numbers_of : Compared → List ℕ
numbers_of (Ok x) = x.first ∷ x.second ∷ []
numbers_of (Err e) = e.side ∷ e.at ∷ []

-- of two logs, and what is lent for their lists and places
abbrev pub compared_for : List ℕ → List ℕ → List ℕ → List ℕ → List ℕ → Compared
compared_for a b first second places = compared_of a b (length first) (length second) (length places)

-- k places for the two numbers
abbrev pub compared_outcome : ℕ → Compared → Outcome
compared_outcome k r = cond (ltb k 2) (refuses ShortBuffer) (outcome_of r)

abbrev pub compared_word : ℕ → Compared → ℕ
compared_word k r = outcome_word (compared_outcome k r)

-- what is lent stays where those places are too few
abbrev pub with_numbers : ℕ → List ℕ → List ℕ → List ℕ
with_numbers k new old = cond (ltb k 2) old new

abbrev pub numbers_after : Compared → List ℕ → List ℕ
numbers_after r numbers = with_numbers (length numbers) (sets numbers 0 (numbers_of r)) numbers
