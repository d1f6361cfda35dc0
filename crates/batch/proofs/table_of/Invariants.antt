-- The posts are stored one by one (`Filled.antt`).
use Rattle.watch_rules.specs.Table.{post_count}
use Rattle.batch.specs.Parts.{joined}
use Rattle.batch.proofs.Filled.{Filled}
use Rattle.batch.proofs.table_of.Given as goal

abbrev pub invariant-loop-i : goal.invariant-loop-i
invariant-loop-i l = Filled post_count (joined l.heads l.latest) l.posts l.i
