-- How a log ends. desk.md: `CUT@BYTE`, `BAD R<n>@BYTE`, `SETUP R<n>`.
use Rattle.std.specs.Prelude.{ℕ, List, [], ◌∷◌, ◌++◌}
use Rattle.refusals.specs.declared.Refusal.{Refusal}
use Rattle.refusals.specs.Refusals.{number_of}
use Rattle.notation_answers.specs.Answers.{named_words}

-- "@", and the words CUT@, BAD R and SETUP R, as ASCII codes them
abbrev pub at_sign : List ℕ
at_sign = 64 ∷ []

abbrev pub cut_name : List ℕ
cut_name = 67 ∷ 85 ∷ 84 ∷ 64 ∷ []

abbrev pub bad_name : List ℕ
bad_name = 66 ∷ 65 ∷ 68 ∷ 32 ∷ 82 ∷ []

abbrev pub set_up_name : List ℕ
set_up_name = 83 ∷ 69 ∷ 84 ∷ 85 ∷ 80 ∷ 32 ∷ 82 ∷ []

abbrev pub cut_words : ℕ → List (List ℕ)
cut_words at = named_words cut_name at

abbrev pub bad_words : Refusal → ℕ → List (List ℕ)
bad_words why at = named_words bad_name (number_of why) ++ named_words at_sign at

abbrev pub set_up_words : Refusal → List (List ℕ)
set_up_words why = named_words set_up_name (number_of why)
