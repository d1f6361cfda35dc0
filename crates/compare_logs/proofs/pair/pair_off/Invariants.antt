-- `compare_logs::pair::pair_off` meets its contract.
use Rattle.compare_rules.specs.Compare.{records_of}
use Rattle.compare_logs.proofs.Pairs.{Paired}
use Rattle.compare_logs.proofs.pair.pair_off.Given as goal

abbrev pub invariant-loop-i : goal.invariant-loop-i
invariant-loop-i l = Paired (records_of l.a.bytes.now) (records_of l.b.bytes.now) l.initial.list l.used l.list l.i l.k l.low
