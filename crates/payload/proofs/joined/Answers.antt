-- `payload::joined` meets its contract, in either order.
use Rattle.std.proofs.Common.{Bool, ap, sym, ◌∙◌, arith}
use Rattle.payload.specs.Payload.{number_of}
use Rattle.payload.proofs.Joins.{le_join, be_join}
use Rattle.payload.proofs.joined.Goals as goal

pub returns-then-big : goal.returns-then-big
returns-then-big c =
    let bs = c.args.bytes.now in
    c.be_joined.ensures ∙ be_join bs (λ i. omega (arith, c.type_inv.bytes i)) c.requires ∙ sym (ap (λ (x : Bool). number_of x bs) c.if-big.true)

pub returns-else-big : goal.returns-else-big
returns-else-big c =
    let bs = c.args.bytes.now in
    c.le_joined.ensures ∙ le_join bs (λ i. omega (arith, c.type_inv.bytes i)) c.requires ∙ sym (ap (λ (x : Bool). number_of x bs) c.if-big.false)
