-- `log_write::store::store_bytes` meets its contract: what is stored and what is left to store are together the bytes.
use Rattle.log_write.proofs.Stores.{Copied}
use Rattle.log_write.proofs.store.store_bytes.Given as goal

abbrev pub invariant-loop-i : goal.invariant-loop-i
invariant-loop-i l = Copied l.initial.out l.at l.bytes l.out l.i
