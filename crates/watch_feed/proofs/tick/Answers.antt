-- What the post at `some_place` hears is the table's step; `fed_both` has what that is to the steps.
use Rattle.watch_hear.specs.watch_rules.specs.Table.{ticking, feed_at}
use Rattle.watch_hear.specs.watch_rules.proofs.Same.{feed_same}
use Rattle.watch_hear.specs.watch_rules.proofs.Promises.{fed_both}
use Rattle.watch_feed.proofs.tick.Goals as goal

pub returns-clause-by_record : goal.returns-clause-by_record
unfolding feed_at
returns-clause-by_record c = rw (c.fed.ensures, c.hear.ensures.by_record, c.some_place-at.ensures.0) (feed_same c.args.t c.args.channel c.args.time ticking)

pub returns-clause-by_history : goal.returns-clause-by_history
returns-clause-by_history c = (fed_both c.args.t c.args.channel c.args.time ticking (returns-clause-by_record c)).1
