-- A batch that is refused leaves all as it was, and an accepted one is fed (`Judged.antt`).
use Rattle.std.proofs.Common.{ap, ℕ}
use Rattle.batch.proofs.Judged.{refused_whole, taken_whole}
use Rattle.batch.proofs.feed_batch.Goals as goal

pub returns-in-Ok : goal.returns-in-Ok
returns-in-Ok c =
    let a = c.args in
    let k = c.in-Ok.ensures in
    taken_whole a.t a.records.now a.answers.now c.feed_all-table.result c.in-Ok.count _ k.0 k.1 c.feed_all-table.ensures

pub returns-in-Err : goal.returns-in-Err
returns-in-Err c =
    let a = c.args in
    refused_whole a.t a.records.now a.answers.now c.in-Err.w (ap (λ (n : ℕ). record { table = a.t; answer = n }) c.refusal_word.ensures) c.in-Err.ensures
