-- `compare_logs::pair::same_bytes`: the lengths first, and then each byte beside its own.
use Rattle.std.proofs.Common.{◌∙◌}
use borrow.Author.Tests.{ne_eqb}
use Rattle.compare_logs.proofs.Bytes.{same_short, same_all}
use Rattle.compare_logs.proofs.pair.same_bytes.Goals as goal

pub returns-then-a-b : goal.returns-then-a-b
returns-then-a-b c = same_all c.args.a.now c.args.b.now c.same_from_behind.result c.if-a-b.true c.same_from_behind.ensures

pub returns-else-a-b : goal.returns-else-a-b
returns-else-a-b c = ne_eqb _ _ c.if-a-b.false ∙ same_short c.args.a.now c.args.b.now c.if-a-b.false
