-- The table with no post set up stands for no steps.
use Rattle.watch_places.specs.watch_rules.proofs.Right.{empty_kept}
use Rattle.watch_settings.proofs.empty.Goals as goal

pub returns-clause-by_history : goal.returns-clause-by_history
returns-clause-by_history c = rw c.free_post.ensures empty_kept
