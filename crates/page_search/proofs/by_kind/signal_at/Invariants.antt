-- The search among the kind's rows from row i on finds what the search of the whole table does. The measure is what is left of the table.
use Rattle.std.proofs.Common.{◌≡◌, ◌-◌, drop}
use Rattle.page_rows.specs.page_table.specs.Table.{rows, row_count, block, first_at, is_signal}
use Rattle.page_search.proofs.by_kind.signal_at.Given as goal

abbrev pub invariant-rows : goal.invariant-rows
invariant-rows l = first_at (is_signal l.kind l.start) l.i (block l.kind (drop l.i rows)) ≡ first_at (is_signal l.kind l.start) 0 rows

abbrev pub decreases-rows : goal.decreases-rows
decreases-rows l = row_count - l.i
