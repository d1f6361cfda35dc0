-- `log_write::store::store_bytes` meets its contract: what is stored and what is left to store are together the bytes.
use native.Mathlib.Omega.{arith}
use Rattle.log_write.proofs.Stores.{copied_none, copied_more, copied_all}
use Rattle.log_write.proofs.store.store_bytes.Goals as goal

pub loop-i-init : goal.loop-i-init
loop-i-init c = copied_none c.args.out.now c.args.at c.args.bytes.now

pub loop-i-preserved : goal.loop-i-preserved
loop-i-preserved c = copied_more c.args.out.now c.args.at c.args.bytes.now c.loop-i.out c.loop-i.i (omega arith) c.loop-i.invariant

pub returns : goal.returns
returns c = copied_all c.args.out.now c.args.at c.args.bytes.now c.loop-i.out c.loop-i.i (omega arith) c.loop-i.invariant
