-- `compare_logs::split::take_apart` meets its contract.
use Rattle.log_read.proofs.Scans.{Over}
use Rattle.compare_logs.proofs.Splits.{Told}
use Rattle.compare_logs.proofs.split.take_apart.Given as goal

abbrev pub invariant-loop-e : goal.invariant-loop-e
invariant-loop-e l = Over l.s l.at l.e-iterator × Told l.s l.starts l.keys l.at l.n
