-- The definition makes the same test.
use Rattle.std.proofs.Common.{rules}
use Rattle.watch_places.specs.watch_rules.specs.Table.{one_more}
use Rattle.watch_hear.proofs.one_more.Goals as goal

pub returns-then-n-from : goal.returns-then-n-from
unfolding one_more
returns-then-n-from c = search rules

pub returns-else-n-from : goal.returns-else-n-from
unfolding one_more
returns-else-n-from c = search rules
