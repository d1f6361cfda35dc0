-- The head is aged, judged there and counted; `tick_both` has what that is to the history.
use Rattle.std.proofs.Common.{rules}
use Rattle.post_times.specs.rules.specs.After.{after_tick}
use Rattle.post_times.specs.rules.proofs.Right.{tick_both}
use Rattle.post.proofs.tick.Goals as goal

pub returns-clause-by_record : goal.returns-clause-by_record
unfolding after_tick
returns-clause-by_record c = rw (c.with_counts.ensures, c.any_findings-findings.ensures.0, c.aged-g.ensures, c.stamp.ensures) (search rules)

pub returns-clause-by_history : goal.returns-clause-by_history
returns-clause-by_history c = (tick_both c.args.h c.args.time (returns-clause-by_record c)).1
