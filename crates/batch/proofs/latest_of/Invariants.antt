-- The posts' parts are stored post by post (`Filled.antt`).
use Rattle.std.proofs.Common.{map}
use Rattle.watch_rules.specs.Table.{post_count}
use Rattle.batch.proofs.Filled.{Filled}
use Rattle.batch.proofs.latest_of.Given as goal

abbrev pub invariant-loop-i : goal.invariant-loop-i
invariant-loop-i l = Filled post_count (map (λ p. p.latest) l.t.posts) l.latest l.i
