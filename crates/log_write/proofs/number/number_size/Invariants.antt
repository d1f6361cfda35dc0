-- `log_write::number::number_size` meets its contract: each turn takes one group off.
use Rattle.std.proofs.Common.{◌≡◌, ◌+◌, ◌≤◌}
use Rattle.log_numbers.specs.Number.{size_of}
use Rattle.log_write.proofs.number.number_size.Given as goal

abbrev pub invariant-loop-rest : goal.invariant-loop-rest
invariant-loop-rest l = (l.size + size_of l.rest ≡ 1 + size_of l.n) × (l.rest ≤ l.n)

abbrev pub decreases-loop-rest : goal.decreases-loop-rest
decreases-loop-rest l = l.rest
