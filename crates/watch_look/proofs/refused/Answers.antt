-- The count that the table has, and of requests from the empty table their own.
use Rattle.std.proofs.Common.{◌≡◌, ap, ◌∙◌, min, arith}
use Rattle.std.proofs.lemmas.Grind.{common_steps}
use Rattle.post.specs.rules.specs.Counts.{largest}
use Rattle.watch_places.specs.watch_rules.specs.declared.Table.{Table}
use Rattle.watch_places.specs.watch_rules.proofs.Handed.{refused_counted}
use Rattle.watch_look.proofs.refused.Goals as goal

pub returns-clause-by_record : goal.returns-clause-by_record
returns-clause-by_record c = grind (arith, common_steps)

pub returns-clause-by_history : goal.returns-clause-by_history
returns-clause-by_history c = λ rs q.
    let e : c.unwrap_or.result ≡ min c.args.t.refused largest = returns-clause-by_record c in
    omega (arith, e, ap (λ (t : Table). t.refused) q ∙ refused_counted rs)
