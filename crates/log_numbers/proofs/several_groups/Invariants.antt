-- `log_numbers::several_groups`: each turn reads one group and keeps `Turn`.
use Rattle.log_numbers.proofs.Groups.{Turn}
use Rattle.log_numbers.proofs.several_groups.Given as goal

abbrev pub invariant-loop-i : goal.invariant-loop-i
invariant-loop-i l = Turn l.s l.n l.weight l.i
