-- The counts of the post are those that its record shows (`counts_are`).
use Rattle.std.proofs.Common.{rules, ◌≡◌, length}
use Rattle.rules.specs.After.{count_count}
use Rattle.lent_counts.specs.Counts.{counts_after}
use Rattle.lent_counts.proofs.Shown.{counts_are}
use Rattle.lent_counts.proofs.counts_of.Goals as goal

pub returns-in_err-p-clause-left : goal.returns-in_err-p-clause-left
unfolding counts_after
returns-in_err-p-clause-left c = search rules

pub returns-clause-left : goal.returns-clause-left
unfolding counts_after
returns-clause-left c =
    let n : length c.in_ok-p.p.now.head.counts ≡ count_count = search rules in
    let own = counts_are c.in_ok-p.p.now n in
    search (rules, own, n)
