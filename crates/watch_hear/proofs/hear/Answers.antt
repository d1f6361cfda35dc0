-- 1 where the post does not hold the channel, then an early time, then what comes; `heard_both` has what that is to the history.
use Rattle.std.proofs.Common.{arith}
use Rattle.std.proofs.lemmas.Grind.{common_steps}
use Rattle.watch_places.specs.watch_rules.specs.Table.{heard_of}
use Rattle.watch_places.specs.watch_rules.proofs.Hears.{heard_both}
use Rattle.watch_hear.proofs.hear.Goals as goal

pub returns-then-not-is_held-clause-by_record : goal.returns-then-not-is_held-clause-by_record
unfolding heard_of
returns-then-not-is_held-clause-by_record c = grind (arith, common_steps)

pub returns-then-not-is_held-clause-by_history : goal.returns-then-not-is_held-clause-by_history
returns-then-not-is_held-clause-by_history c = (heard_both _ _ _ _ (returns-then-not-is_held-clause-by_record c)).1

pub returns-then-is_early-clause-by_record : goal.returns-then-is_early-clause-by_record
unfolding heard_of
returns-then-is_early-clause-by_record c = grind (arith, common_steps)

pub returns-then-is_early-clause-by_history : goal.returns-then-is_early-clause-by_history
returns-then-is_early-clause-by_history c = (heard_both _ _ _ _ (returns-then-is_early-clause-by_record c)).1

pub returns-else-is_early-clause-by_record : goal.returns-else-is_early-clause-by_record
unfolding heard_of
returns-else-is_early-clause-by_record c = grind (arith, common_steps)

pub returns-else-is_early-clause-by_history : goal.returns-else-is_early-clause-by_history
returns-else-is_early-clause-by_history c = (heard_both _ _ _ _ (returns-else-is_early-clause-by_record c)).1
