-- A kind is one of the interface's, and fits.
use Rattle.std.proofs.Common.{◌≤◌, sym, ◌∙◌, subst, arith}
use Rattle.page_table.specs.declared.Interface.{Interface}
use Rattle.page_table.specs.declared.Interface.TheVariants.{Newer, Older}
use Rattle.page_bounds.proofs.Bounds.{SmallBelow, kinds_on, judge_small_on}
use Rattle.plain_frames.proofs.read_on.Goals as goal

kinds_few : (iface : Interface) → kinds_on iface ≤ 43
kinds_few Newer = omega arith
kinds_few Older = omega arith

pub overflow_cast-result : goal.overflow_cast-result
overflow_cast-result c =
    let a = c.args in
    let small = subst (SmallBelow (kinds_on a.iface)) (sym c.judge_on.ensures ∙ c.in_ok-kind.was) (judge_small_on a.iface a.id a.extended a.payload.now) in
    let few : kinds_on a.iface ≤ 43 = kinds_few a.iface in
    record { fits = omega (arith, small, few) }
