use Rattle.std.proofs.Common.{◌+◌, ◌*◌, ◌≡◌, ap, ◌∙◌, ◌++◌, take, drop, arith}
use lib.ListN.{set}
use Rattle.text_bytes.specs.Hex.{bytes_of}
use Rattle.text_bytes.proofs.Pairs.{pair_at, stored_more, stored_all}
use Rattle.text_bytes.proofs.store.Goals as goal

pub loop-i-preserved : goal.loop-i-preserved
loop-i-preserved c =
    let a = c.args in
    let l = c.loop-i in
    let v = c.digit-hi.result * 16 + c.digit-lo.result in
    let e : pair_at a.s.now l.i ≡ v = cc in
    l.invariant ∙ stored_more a.s.now l.out l.i (omega arith) (omega arith)
    ∙ ap (λ x. take (l.i + 1) (set l.out l.i x) ++ bytes_of (drop ((l.i + 1) * 2) a.s.now)) e

pub returns : goal.returns
returns c = stored_all c.args.s.now c.loop-i.out c.loop-i.i (omega arith) (omega arith) c.loop-i.invariant
