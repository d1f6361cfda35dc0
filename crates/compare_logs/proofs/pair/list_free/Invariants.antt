-- `compare_logs::pair::list_free` meets its contract.
use Rattle.compare_logs.proofs.Lists.{Listing}
use Rattle.compare_logs.proofs.pair.list_free.Given as goal

abbrev pub invariant-loop-j : goal.invariant-loop-j
invariant-loop-j l = Listing l.used l.b.count l.initial.list l.list l.j l.k
