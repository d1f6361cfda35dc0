-- The tests fall in the order of 01's refusals.
use Rattle.std.proofs.Common.{arith}
use Rattle.std.proofs.lemmas.Grind.{common_steps}
use Rattle.watch_places.specs.watch_rules.specs.Table.{set_up_of}
use Rattle.watch_settings.proofs.may_set_up.Goals as goal

pub returns-then-not-is_post : goal.returns-then-not-is_post
unfolding set_up_of
returns-then-not-is_post c = λ t e. grind (arith, common_steps)

pub returns-then-not-is_channel : goal.returns-then-not-is_channel
unfolding set_up_of
returns-then-not-is_channel c = λ t e. grind (arith, common_steps)

pub returns-then-other : goal.returns-then-other
unfolding set_up_of
returns-then-other c = λ t e. grind (arith, common_steps)

pub returns-then-not-limits_fit : goal.returns-then-not-limits_fit
unfolding set_up_of
returns-then-not-limits_fit c = λ t e. grind (arith, common_steps)

pub returns : goal.returns
unfolding set_up_of
returns c = λ t e. grind (arith, common_steps)
