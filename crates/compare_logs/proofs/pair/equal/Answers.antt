-- `compare_logs::pair::equal` meets its contract.
use Rattle.std.proofs.Common.{sym, ◌∙◌}
use borrow.Author.Tests.{ne_eqb}
use Rattle.compare_logs.proofs.Keys.{by_key, equal_is}
use Rattle.compare_logs.proofs.pair.equal.Goals as goal

pub returns-then-a-i : goal.returns-then-a-i
returns-then-a-i c =
    let a = c.args.a.now.ready.2 c.args.i c.requires.0 in
    let b = c.args.b.now.ready.2 c.args.j c.requires.1 in
    equal_is _ _ _ _ a.4 b.4 c.record.ensures c.record-then-a-i.ensures c.same_bytes.ensures

pub returns-else-a-i : goal.returns-else-a-i
returns-else-a-i c =
    let a = c.args.a.now.ready.2 c.args.i c.requires.0 in
    let b = c.args.b.now.ready.2 c.args.j c.requires.1 in
    ne_eqb _ _ c.if-a-i.false ∙ by_key _ _ (λ e. c.if-a-i.false (a.2 ∙ e ∙ sym b.2))
