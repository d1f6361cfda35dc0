-- `playing_batches::fed`: refused, nothing to write, or lines that fit (`Judged.antt`).
use Rattle.std.proofs.Common.{Ok, ◌≡◌, ap, sym, ◌∙◌, arith}
use Rattle.text_pen.proofs.Turns.{sheets}
use Rattle.playing_batches.specs.declared.Lines.{Lines}
use Rattle.playing_batches.specs.Batched.{unfed}
use Rattle.playing_batches.proofs.Singly.{place_low}
use Rattle.playing_batches.proofs.Judged.{refused, enough, nothing, some_lines}
use Rattle.playing_batches.proofs.fed.Goals as goal

pub returns-in-Err : goal.returns-in-Err
returns-in-Err c =
    let a = c.args in
    let f = c.feed_batch-f in
    let w = refused a.r a.records.now a.answers.now a.out.now c.in-Err.w f.ensures.0 f.ensures.1 (sym c.answer_in.ensures ∙ c.in-Err.is) in
    (c.unfed.ensures ∙ w.0, w.1, w.2)

pub returns-in-Ok-eq0 : goal.returns-in-Ok-eq0
returns-in-Ok-eq0 c =
    let a = c.args in
    let f = c.feed_batch-f in
    let d = c.default.ensures in
    let none : c.default.result ≡ record { records = 0; bytes = 0 } = (λ i. record { records = d.0 i; bytes = d.1 i }) in
    let w = nothing a.r a.records.now a.answers.now a.out.now f.ensures.0 f.ensures.1 c.in-Ok-eq0.field-0 (sym c.answer_in.ensures ∙ c.in-Ok-eq0.is) c.in-Ok-eq0.field-0-test in
    (c.unfed-in-Ok-eq0.ensures ∙ ap (λ (l : Lines). unfed a.r (Ok l)) none ∙ w.0, w.1, w.2)

pub put_lines-requires : goal.put_lines-requires
put_lines-requires c =
    let a = c.args in
    let f = c.feed_batch-f in
    enough a.r a.records.now a.answers.now a.out.now f.ensures.0 f.ensures.1 c.in-Ok.taken (sym c.answer_in.ensures ∙ c.in-Ok.is)

pub returns-in-Ok : goal.returns-in-Ok
returns-in-Ok c =
    let a = c.args in
    let f = c.feed_batch-f in
    let w = c.put_lines.ensures in
    some_lines a.r a.records.now a.answers.now a.out.now f.ensures.0 f.ensures.1 c.in-Ok.taken (sym c.answer_in.ensures ∙ c.in-Ok.is) c.requires (λ i. omega (arith, place_low a.r.table.posts i, w.1)) c.new-sheet.result c.new-sheet.ensures.pen c.new-sheet.ensures.text w.0 (grind (arith, sheets)) c.in-Ok.taken-test.1 _ (cc)
