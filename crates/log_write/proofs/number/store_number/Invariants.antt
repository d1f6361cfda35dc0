-- `log_write::number::store_number` meets its contract: what is stored and what is left to store are together the number's bytes.
use Rattle.log_write.proofs.Groups.{Wrote}
use Rattle.log_write.proofs.number.store_number.Given as goal

abbrev pub invariant-loop-rest : goal.invariant-loop-rest
invariant-loop-rest l = Wrote l.initial.out l.at l.n l.out l.i l.rest

abbrev pub decreases-loop-rest : goal.decreases-loop-rest
decreases-loop-rest l = l.rest
