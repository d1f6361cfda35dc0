-- `playing_batches::write_batch`: 8 first, then the course, then the batch (`Judged.antt`).
use Rattle.std.proofs.Common.{ℕ, Err, inl, inr, ap, ◌∙◌, arith}
use Rattle.playing_batches.specs.Batched.{unfed}
use Rattle.playing_batches.specs.declared.Unwritten.TheVariants.{Refused}
use Rattle.playing_batches.proofs.Judged.{short, before_records, among_records, ended}
use Rattle.playing_batches.proofs.write_batch.Goals as goal

pub returns-then-out-records : goal.returns-then-out-records
returns-then-out-records c =
    let a = c.args in
    let w = short a.r a.records.now a.answers.now a.out.now (omega (arith, c.if-out-records.true)) in
    (c.unfed.ensures ∙ ap (λ (n : ℕ). unfed a.r (Err (Refused n))) c.refusal_number.ensures ∙ w.0, w.1, w.2)

pub returns-in-SetUps : goal.returns-in-SetUps
returns-in-SetUps c =
    let a = c.args in
    let h = c.if-out-records.false in
    elim c.in-SetUps.is [
      | inl e ↦ before_records a.r a.records.now a.answers.now a.out.now (omega (arith, h)) e _ _ _ c.fed.ensures
      | inr e ↦ among_records a.r a.records.now a.answers.now a.out.now (omega (arith, h)) e _ _ _ c.fed.ensures
    ]

pub returns-in-Refused : goal.returns-in-Refused
returns-in-Refused c =
    let a = c.args in
    let w = ended a.r a.records.now a.answers.now a.out.now (omega (arith, c.if-out-records.false)) _ c.in-Refused.is in
    (c.unfed-in-Refused.ensures ∙ w.0, w.1, w.2)
