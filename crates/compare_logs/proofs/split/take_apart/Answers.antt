-- `compare_logs::split::take_apart` meets its contract.
use Rattle.std.proofs.Common.{arith, rules, refl, sym, ap, ◌∙◌}
use lib.ListN.{set}
use Rattle.log_read.specs.Records.{ended}
use Rattle.log_read.proofs.Scans.{over_start, over_more, over_end}
use Rattle.compare_logs.proofs.Splits.{told_start, told_more, told_broken, told_all, told_by_lem}
use Rattle.compare_logs.proofs.split.take_apart.Goals as goal

pub loop-e-init : goal.loop-e-init
loop-e-init c = (
  over_start c.into_iter-e-iterator.ensures.into_iter_gives c.new-e-items.ensures,
  told_by_lem c.args.s.now 0 0 {keys = c.args.keys.now} c.put.ensures refl (told_start c.args.s.now c.args.starts.now c.args.keys.now c.requires.0 c.requires.1),
)

pub overflow_add-n : goal.overflow_add-n
overflow_add-n c =
    let o = over_more c.loop-e.invariant.0 c.next.ensures.steps c.in-Some.is in
    let t = told_more c.args.s.now c.loop-e.starts c.loop-e.keys c.loop-e.at c.loop-e.n c.loop-e.invariant.1 c.in-Some.e (λ i. omega (arith, c.type_inv.s i)) o.0 in
    search (rules, t.0, t.1)

pub loop-e-preserved : goal.loop-e-preserved
loop-e-preserved c =
    let o = over_more c.loop-e.invariant.0 c.next.ensures.steps c.in-Some.is in
    let t = told_more c.args.s.now c.loop-e.starts c.loop-e.keys c.loop-e.at c.loop-e.n c.loop-e.invariant.1 c.in-Some.e (λ i. omega (arith, c.type_inv.s i)) o.0 in
    (o.1, told_by_lem c.args.s.now _ _ c.put-in-loop-e-2.ensures (c.put-in-loop-e.ensures ∙ ap (set c.loop-e.keys c.loop-e.n) c.key_of.ensures) t)

pub returns-in-Clean : goal.returns-in-Clean
returns-in-Clean c =
    let f = over_end c.loop-e.invariant.0 c.next.ensures.steps c.in-None.is ∙ ap ended (sym c.ending_at.ensures) in
    told_all c.args.s.now c.loop-e.starts c.loop-e.keys c.loop-e.at c.loop-e.n c.loop-e.invariant.1 (f ∙ ap ended c.in-Clean.is)

pub returns-in-Cut : goal.returns-in-Cut
returns-in-Cut c =
    let f = over_end c.loop-e.invariant.0 c.next.ensures.steps c.in-None.is ∙ ap ended (sym c.ending_at.ensures) in
    told_broken c.args.s.now c.loop-e.starts c.loop-e.keys c.loop-e.at c.loop-e.n c.loop-e.invariant.1 c.in-Cut.byte c.ending_at.result f c.in-Cut.is

pub returns-in-Cut-2 : goal.returns-in-Cut-2
returns-in-Cut-2 c =
    let f = over_end c.loop-e.invariant.0 c.next.ensures.steps c.in-None.is ∙ ap ended (sym c.ending_at.ensures) in
    told_broken c.args.s.now c.loop-e.starts c.loop-e.keys c.loop-e.at c.loop-e.n c.loop-e.invariant.1 c.in-Cut.byte c.ending_at.result f c.in-Cut.is
