-- Each exit of `take_form`, by the field's word.
use Rattle.std.proofs.Common.{ap, ◌∙◌}
use Rattle.text_lines.specs.Lines.{as_field, form_of, form_at}
use Rattle.text_lines.proofs.Fields.{past_end, in_line}
use Rattle.text_lines.proofs.take_form.Goals as goal

pub returns-in_err-w : goal.returns-in_err-w
unfolding form_at
returns-in_err-w c = c.from_residual.ensures ∙ past_end form_of c.args.s.now c.args.at c.in_err-w.ensures

pub returns-in_err-form : goal.returns-in_err-form
unfolding form_at
returns-in_err-form c =
    let f = c.in_ok-w in
    c.from_residual-in_err-form.ensures ∙ ap (as_field f.next) c.in_err-form.ensures
    ∙ in_line form_of c.args.s.now c.args.at f.ensures.0 f.w.now f.next f.ensures.1 f.ensures.2

pub returns : goal.returns
unfolding form_at
returns c =
    let f = c.in_ok-w in
    ap (as_field f.next) c.in_ok-form.ensures
    ∙ in_line form_of c.args.s.now c.args.at f.ensures.0 f.w.now f.next f.ensures.1 f.ensures.2
