-- The head that the definition makes.
use Rattle.std.proofs.Common.{rules}
use Rattle.post_times.specs.rules.specs.After.{with_counts}
use Rattle.post.proofs.step.with_counts.Goals as goal

pub returns : goal.returns
unfolding with_counts
returns c = search rules
