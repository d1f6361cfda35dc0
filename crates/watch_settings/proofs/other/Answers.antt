-- The definition makes the same tests.
use Rattle.std.proofs.Common.{rules}
use Rattle.watch_places.specs.watch_rules.specs.Table.{is_other}
use Rattle.watch_settings.proofs.other.Goals as goal

pub returns-then-at-lt-POSTS : goal.returns-then-at-lt-POSTS
unfolding is_other
returns-then-at-lt-POSTS c = search rules

pub returns-else-at-lt-POSTS : goal.returns-else-at-lt-POSTS
unfolding is_other
returns-else-at-lt-POSTS c = search rules
