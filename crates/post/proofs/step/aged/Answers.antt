-- The head that the definition makes.
use Rattle.std.proofs.Common.{rules}
use Rattle.post_times.specs.rules.specs.After.{aged_to}
use Rattle.post.proofs.step.aged.Goals as goal

pub returns : goal.returns
unfolding aged_to
returns c = search rules
