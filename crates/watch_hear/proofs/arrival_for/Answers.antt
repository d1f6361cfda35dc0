-- The kind of a frame that the pages of the post's interface read fits its word.
use Rattle.std.proofs.Common.{arith, sym, ◌∙◌}
use Rattle.watch_places.specs.watch_rules.proofs.Pages.{own_read}
use Rattle.watch_hear.proofs.arrival_for.Goals as goal

pub overflow_cast-result : goal.overflow_cast-result
overflow_cast-result c = omega (arith, (own_read _ _ _ _ _ _ (sym c.judge_for.ensures ∙ c.in-Ok.is)).1)
