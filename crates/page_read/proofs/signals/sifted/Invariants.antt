-- The message's rows from row `i` on have the same first offence as those from `at` on, and `rest` with them cleared is `n` with those from `at` on cleared.
use Rattle.std.proofs.Common.{◌≡◌, drop}
use Rattle.page_search.specs.page_table.specs.Table.{rows, block}
use Rattle.page_read.specs.Steps.{offence_of, cleared}
use Rattle.page_read.proofs.signals.sifted.Given as goal

abbrev pub invariant-loop-i : goal.invariant-loop-i
invariant-loop-i l = record {
  offence : offence_of l.n (block l.kind (drop l.i rows)) ≡ offence_of l.n (block l.kind (drop l.at rows));
  left : cleared (block l.kind (drop l.i rows)) l.rest ≡ cleared (block l.kind (drop l.at rows)) l.n;
}
