-- How long the part is, by what `position` answers.
use Rattle.std.proofs.Common.{◌≡◌, eqb, ◌∙◌, rules, tests, arith}
use Rattle.std.proofs.lemmas.Iterator.{YieldsList-from_slice}
use Rattle.std.proofs.lemmas.Iterator.Search.{position_from_yields_List}
use Rattle.text_lines.specs.Lines.{part_length}
use Rattle.text_lines.proofs.Words.{or_length, within}
use Rattle.text_lines.proofs.part_length.Goals as goal

pub returns : goal.returns
returns c =
    let s = c.args.s.now in
    let p = position_from_yields_List (λ x. eqb x c.args.stop) _ _ c.position.result c.position.ensures.ran (YieldsList-from_slice s cc) (λ x b q k. search (rules, tests)) in
    let e = or_length c.args.stop s c.position.result p in
    let v : c.unwrap_or.result ≡ part_length c.args.stop s = c.unwrap_or.ensures ∙ e in
    record { value = v; within = omega (arith, v, within c.args.stop s) }
