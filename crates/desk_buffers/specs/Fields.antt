-- A field that was read of a line, and where the next one starts. Where none was read, it stays where it was.
use Rattle.std.specs.Prelude.{ℕ, Option, Some, None}
use Rattle.notation_read.specs.declared.fields.Head.{Head}

abbrev pub number_in : Option (ℕ × ℕ) → Option ℕ
number_in None = None
number_in (Some (n, next)) = Some n

abbrev pub behind_number : ℕ → Option (ℕ × ℕ) → ℕ
behind_number at None = at
behind_number at (Some (n, next)) = next

abbrev pub behind_head : ℕ → Option Head → ℕ
behind_head at None = at
behind_head at (Some h) = h.next
