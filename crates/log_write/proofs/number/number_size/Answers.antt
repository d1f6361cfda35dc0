-- `log_write::number::number_size` meets its contract: each turn takes one group off.
use mathlib.Core.Path.{refl}
use native.Mathlib.Omega.{arith}
use borrow.Author.Rules.{rules}
use Rattle.log_numbers.proofs.Numbers.{size_more, size_one, size_le}
use Rattle.log_write.proofs.number.number_size.Goals as goal

pub loop-rest-init : goal.loop-rest-init
loop-rest-init c = (refl, omega arith)

pub overflow_add-size : goal.overflow_add-size
overflow_add-size c = search (rules, size_le 4 c.args.n)

pub loop-rest-preserved : goal.loop-rest-preserved
loop-rest-preserved c = (omega (arith, size_more c.loop-rest.rest (omega arith) (search rules)), omega arith)

pub returns : goal.returns
returns c = omega (arith, size_one c.loop-rest.rest (omega arith))
