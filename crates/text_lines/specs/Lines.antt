-- A line's words and fields. desk.md: "Fields are separated by single spaces."
use Rattle.std.specs.Prelude.{ℕ, suc, ◌+◌, ◌-◌, ◌^◌, Bool, true, false, cond, List, [], ◌∷◌, leb, eqb, length, take, drop, Option, Some, None}
use Rattle.text_numbers.specs.Ascii.{space, letter_s, letter_x}
use Rattle.text_numbers.specs.Numbers.{number_of}

-- how many characters stand before the first `stop`, or before the end
unfoldable pub part_length : ℕ → List ℕ → ℕ
part_length stop [] = 0
part_length stop (c ∷ cs) = cond (eqb c stop) 0 (suc (part_length stop cs))

-- where the part that starts at `from` ends; past the line's end there is none, and it ends where it starts
unfoldable pub part_end : ℕ → List ℕ → ℕ → ℕ
part_end stop s from = from + part_length stop (drop from s)

-- a word ends at a space
abbrev pub word_end : List ℕ → ℕ → ℕ
word_end s from = part_end space s from

unfoldable pub word_at : List ℕ → ℕ → List ℕ
word_at s at = take (part_length space (drop at s)) (drop at s)

-- what was read of a field, with the place of the next one
abbrev pub as_field : {A : Type 0} → ℕ → Option A → Option (A × ℕ)
as_field next None = None
as_field next (Some n) = Some (n, next)

-- the field that starts at `at`: its word, read by `read`, and one past the space after it
abbrev pub field_by : {A : Type 0} → (List ℕ → Option A) → List ℕ → ℕ → Option (A × ℕ)
field_by read s at = cond (leb at (length s)) (as_field (word_end s at + 1) (read (word_at s at))) None

abbrev pub u32_max : ℕ
u32_max = 2 ^ 32 - 1

-- desk.md: `N` of 32 bits in base 10, `ID` in base 16
unfoldable pub field_of : ℕ → List ℕ → ℕ → Option (ℕ × ℕ)
field_of b s at = field_by (number_of b u32_max) s at

-- desk.md: "`x` / `s`: extended / standard frame"; whether it is the extended one
unfoldable pub form_of : List ℕ → Option Bool
form_of [] = None
form_of (c ∷ []) = cond (eqb c letter_x) (Some true) (cond (eqb c letter_s) (Some false) None)
form_of (c ∷ d ∷ cs) = None

unfoldable pub form_at : List ℕ → ℕ → Option (Bool × ℕ)
form_at s at = field_by form_of s at
