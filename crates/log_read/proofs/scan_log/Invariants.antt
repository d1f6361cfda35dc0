-- `log_read::scan_log`: after each record the rest of the log, with the records so far, gives the answer for the whole.
use Rattle.log_read.proofs.Scans.{Over, Scanned}
use Rattle.log_read.proofs.scan_log.Given as goal

abbrev pub invariant-loop-e : goal.invariant-loop-e
invariant-loop-e l = Over l.s l.at l.e-iterator × Scanned l.s l.at l.records
