-- `batch::feed_all`: after each record what is left of the log, on the posts and the answers so far, gives what the whole gives. The measure is the bytes left.
use Rattle.std.proofs.Common.{◌-◌, length}
use Rattle.batch.specs.Parts.{joined}
use Rattle.batch.proofs.Turns.{FedSo}
use Rattle.batch.proofs.feed_all.Given as goal

abbrev pub invariant-loop-e : goal.invariant-loop-e
invariant-loop-e l =
    FedSo (record { posts = joined l.initial.heads l.initial.latest; index = l.index; refused = l.initial.refused }) l.log l.initial.answers l.answers l.heads l.latest l.refused l.at l.n

abbrev pub decreases-loop-e : goal.decreases-loop-e
decreases-loop-e l = length l.log - l.at
