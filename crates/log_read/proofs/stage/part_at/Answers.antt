-- `log_read::stage::part_at`: a number that was read lies within the bytes.
use Rattle.std.proofs.Common.{rules}
use Rattle.log_numbers.proofs.Numbers.{within_at}
use Rattle.log_read.proofs.stage.part_at.Goals as goal

pub overflow_add-result : goal.overflow_add-result
overflow_add-result c =
    search (rules, within_at c.args.s.now c.args.at c.in_ok-n.n c.in_ok-n.size c.number_at.result c.number_at.ensures c.in_ok-n.was c.requires)

pub returns-clause-within : goal.returns-clause-within
returns-clause-within c = within_at c.args.s.now c.args.at c.in_ok-n.n c.in_ok-n.size c.number_at.result c.number_at.ensures c.in_ok-n.was c.requires
