-- The rows of `page_charger` stand first in the table, and past its end stands none.
use Prim.Native.Nat.{ℕ, zero, suc, ◌<◌, ◌≤◌}
use native.Mathlib.Omega.{arith}
use mathlib.Core.Path.{◌≡◌, refl, sym}
use mathlib.Core.List.{List, [], ◌∷◌, ◌++◌}
use lib.ListN.{get_or, length, get_or-eq_default}
use Rattle.page_charger.specs.page_table.specs.Charger.{charger_count, charger_rows}
use Rattle.page_charger.specs.page_table.specs.Safety.{safety_rows}
use Rattle.page_charger.specs.page_table.specs.Older.{older_rows}
use Rattle.page_charger.specs.page_table.specs.Rest.{rest_rows}
use Rattle.page_charger.specs.page_table.specs.Table.{rows, row_count, no_row}
use Rattle.page_charger.specs.page_table.proofs.Rules.{rows_length}
use Rattle.page_charger.specs.Past.{past}

-- what stands in a list stands in a longer one that begins with it
get_d_front : {A : Type 0} (xs ys : List A) (i : ℕ) (d e : A) → i < length xs → get_or xs i d ≡ get_or (xs ++ ys) i e
get_d_front [] ys i d e h = absurd (omega (arith, h))
get_d_front (x ∷ xs) ys zero d e h = refl
get_d_front (x ∷ xs) ys (suc i) d e h = get_d_front xs ys i d e (omega (arith, h))

pub charger_row : (i : ℕ) → i < charger_count → get_or charger_rows i past ≡ get_or rows i no_row
unfolding rows
charger_row i h = get_d_front charger_rows (safety_rows ++ (older_rows ++ rest_rows)) i past no_row h

pub past_rows : (i : ℕ) → row_count ≤ i → no_row ≡ get_or rows i no_row
past_rows i h = sym (get_or-eq_default rows no_row (rw rows_length h))
