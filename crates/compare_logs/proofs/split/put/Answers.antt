-- `compare_logs::split::put` meets its contract.
use Rattle.std.proofs.Common.{sym, arith}
use lib.Seq.{set_out}
use Rattle.compare_logs.proofs.split.put.Goals as goal

pub returns-else-i-xs : goal.returns-else-i-xs
returns-else-i-xs g c = sym (set_out c.args.xs.now c.args.i c.args.v (omega arith))
