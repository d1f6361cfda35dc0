-- `log_numbers::number_at`: no group, and one.
use Rattle.std.proofs.Common.{arith}
use Rattle.log_numbers.proofs.Groups.{at_end, at_one}
use Rattle.log_numbers.proofs.number_at.Goals as goal

pub returns-then-s-at : goal.returns-then-s-at
returns-then-s-at c = at_end c.args.s.now c.args.at 4 c.if-s-at.true

pub returns-then-b-lt128 : goal.returns-then-b-lt128
returns-then-b-lt128 c = rw c.from.ensures (at_one c.args.s.now c.args.at (omega arith) c.if-b-lt128.true)
