-- `compare_logs::pair::list_free` meets its contract.
use Rattle.std.proofs.Common.{rules, ◌≡◌, ◌<◌, ◌∙◌, sym, length}
use Rattle.std.proofs.lemmas.List.{length-take-le, get_or-take}
use Rattle.compare_logs.proofs.Lists.{listing_start, listing_more, listing_skip, listing_end}
use native.Mathlib.Omega.{arith}
use Rattle.compare_logs.proofs.pair.list_free.Goals.{then-mark-eq0, else-mark-eq0}
use Rattle.compare_logs.proofs.pair.list_free.Goals as goal

pub loop-j-init : goal.loop-j-init
loop-j-init c = listing_start c.args.used.now c.args.b.now.count c.args.list.now

pub loop-j-preserved : goal.loop-j-preserved
loop-j-preserved c =
    let used = c.args.used.now in
    let m = c.args.b.now.count in
    let full : length used ≡ 512 = search rules in
    let long = length-take-le m used (omega (arith, full, c.args.b.now.ready.0)) in
    let lt : c.loop-j.j < m = omega (arith, long, c.loop-j-test.true) in
    let here = get_or-take m used c.loop-j.j 0 lt in
    elim c.if-mark-eq0.branch [
      | then-mark-eq0 w ↦ rw (w.list-is, w.k-is) (listing_more c.args.used.now c.args.b.now.count c.args.list.now c.loop-j.list c.loop-j.j c.loop-j.k (sym here ∙ w.if-mark-eq0.true) lt c.loop-j.invariant)
      | else-mark-eq0 w ↦ rw (w.list-is, w.k-is) (listing_skip c.args.used.now c.args.b.now.count c.args.list.now c.loop-j.list c.loop-j.j c.loop-j.k (λ e. w.if-mark-eq0.false (here ∙ e)) lt c.loop-j.invariant)
    ]

pub returns : goal.returns
returns c = listing_end c.args.used.now c.args.b.now.count c.args.list.now c.loop-j.list c.loop-j.j c.loop-j.k (omega arith) c.loop-j.invariant
