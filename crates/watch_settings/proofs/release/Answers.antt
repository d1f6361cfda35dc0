-- The table without the post, or refused as `post_at` says; `released_both` has what that is to the steps.
use Rattle.std.proofs.Common.{rules}
use Rattle.watch_places.specs.watch_rules.proofs.Promises.{released_both}
use Rattle.watch_settings.proofs.release.Goals as goal

pub returns-in-Ok-clause-by_record : goal.returns-in-Ok-clause-by_record
returns-in-Ok-clause-by_record c = search rules

pub returns-in-Ok-clause-by_history : goal.returns-in-Ok-clause-by_history
returns-in-Ok-clause-by_history c = (released_both c.args.t c.args.post (returns-in-Ok-clause-by_record c)).1

pub returns-in-Err-clause-by_record : goal.returns-in-Err-clause-by_record
returns-in-Err-clause-by_record c = search rules

pub returns-in-Err-clause-by_history : goal.returns-in-Err-clause-by_history
returns-in-Err-clause-by_history c = (released_both c.args.t c.args.post (returns-in-Err-clause-by_record c)).1
