-- Each exit of `take`, by what the field's word spells.
use Rattle.std.proofs.Common.{ap, ◌∙◌}
use Rattle.text_numbers.specs.Numbers.{number_of}
use Rattle.text_lines.specs.Lines.{as_field, field_of, u32_max}
use Rattle.text_lines.proofs.Fields.{past_end, in_line}
use Rattle.text_lines.proofs.take.Goals as goal

pub returns-in_err-w : goal.returns-in_err-w
unfolding field_of
returns-in_err-w c = c.from_residual.ensures ∙ past_end (number_of c.args.base u32_max) c.args.s.now c.args.at c.in_err-w.ensures

pub returns-in_err-n : goal.returns-in_err-n
unfolding field_of
returns-in_err-n c =
    let f = c.in_ok-w in
    c.from_residual-in_err-n.ensures ∙ ap (as_field f.next) c.in_err-n.ensures.value
    ∙ in_line (number_of c.args.base u32_max) c.args.s.now c.args.at f.ensures.0 f.w.now f.next f.ensures.1 f.ensures.2

pub returns : goal.returns
unfolding field_of
returns c =
    let f = c.in_ok-w in
    ap (as_field f.next) c.in_ok-n.ensures.value
    ∙ in_line (number_of c.args.base u32_max) c.args.s.now c.args.at f.ensures.0 f.w.now f.next f.ensures.1 f.ensures.2
