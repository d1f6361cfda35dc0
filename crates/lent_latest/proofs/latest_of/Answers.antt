-- The kind's place is one of the post's.
use Rattle.std.proofs.Common.{arith}
use Rattle.rule_pages.proofs.Places.{place_small}
use Rattle.lent_latest.proofs.latest_of.Goals as goal

pub offset_bounds-p-place_by : goal.offset_bounds-p-place_by
offset_bounds-p-place_by c = omega (arith, c.place_by.ensures, place_small c.args.kind (omega arith))

pub bounds-p-place_by : goal.bounds-p-place_by
bounds-p-place_by c = omega (arith, c.place_by.ensures, place_small c.args.kind (omega arith))
