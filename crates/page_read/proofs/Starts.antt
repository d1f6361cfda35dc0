-- What `start_bit` answers at a fine row. Assumes nothing.
use mathlib.Core.Path.{◌≡◌, ◌∙◌}
use Prim.Native.Nat.{ℕ, ◌%◌}
use native.Mathlib.Nat.{mod-eq_of_lt}
use native.Mathlib.Omega.{arith}
use Rattle.page_search.specs.page_table.specs.declared.Row.{Row}
use Rattle.page_search.specs.page_table.specs.Table.{Fine}

pub start_row : (r : Row) → Fine r → (b : ℕ) → b ≡ r.start % 256 → b ≡ r.start
start_row r fine b e = e ∙ mod-eq_of_lt (omega arith)
