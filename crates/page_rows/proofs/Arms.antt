-- The arms of a table of rows: an arm's key is the place of its row.
use mathlib.Core.Path.{◌≡◌, ap}
use mathlib.Core.List.{List, ◌++◌}
use Prim.Native.Nat.{ℕ}
use lib.ListN.{get_or}
use Rattle.page_charger.specs.page_table.specs.declared.Row.{Row}
use Rattle.page_charger.specs.page_table.specs.Charger.{charger_rows}
use Rattle.page_charger.specs.page_table.specs.Safety.{safety_rows}
use Rattle.page_charger.specs.page_table.specs.Older.{older_rows}
use Rattle.page_charger.specs.page_table.specs.Rest.{rest_rows}
use Rattle.page_charger.specs.page_table.specs.Table.{rows, no_row}

abbrev all_rows : List Row
all_rows = charger_rows ++ (safety_rows ++ (older_rows ++ rest_rows))

pub row_of_key : (i k : ℕ) → i ≡ k → get_or rows i no_row ≡ get_or all_rows k no_row
unfolding rows
row_of_key i k e = ap (λ (j : ℕ). get_or rows j no_row) e
