-- What `is_shortest` says, by the length of the list.
use Rattle.std.proofs.Common.{sym, ap, arith}
use Rattle.text_numbers.specs.Numbers.{is_shortest}
use Rattle.text_numbers.proofs.Shapes.{none, one, two}
use Rattle.text_numbers.proofs.numbers.is_shortest.Goals as goal

pub returns-in-empty : goal.returns-in-empty
unfolding is_shortest
returns-in-empty c = sym (ap is_shortest (none c.args.s.now (omega arith)))

pub returns-in-len1 : goal.returns-in-len1
unfolding is_shortest
returns-in-len1 c = sym (ap is_shortest (one c.args.s.now (omega arith)))

pub returns-in-len1-up : goal.returns-in-len1-up
unfolding is_shortest
returns-in-len1-up c = sym (ap is_shortest (two c.args.s.now (omega arith)))
