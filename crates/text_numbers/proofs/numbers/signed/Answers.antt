-- Each exit of `signed`, by whether a dash stands in front.
use Rattle.std.proofs.Common.{Some, None, [], ◌∷◌, refl, sym, ap, ◌∙◌, arith, w64}
use mir.Facts.{to_z_pos}
use Rattle.std.proofs.lemmas.Bool.Decides.{Decides-eqb}
use Rattle.std.proofs.lemmas.Slice.Eq.{strip_prefix_is}
use Rattle.text_numbers.specs.Ascii.{dash}
use Rattle.text_numbers.specs.Numbers.{negated, unsigned}
use Rattle.text_numbers.proofs.SignedText.{with_dash, no_dash}
use Rattle.text_numbers.proofs.numbers.signed.Goals as goal

pub returns-in_err-whole-in-Some : goal.returns-in_err-whole-in-Some
returns-in_err-whole-in-Some c =
    let d = strip_prefix_is Decides-eqb c.args.s.now (dash ∷ []) (Some c.in-Some.rest) c.in-Some.ensures.cases in
    c.from_residual.ensures ∙ ap negated c.in_err-whole-in-Some.ensures.value ∙ sym (with_dash c.args.s.now dash c.in-Some.rest.now d refl)

pub returns-in_ok-whole-in-Some : goal.returns-in_ok-whole-in-Some
returns-in_ok-whole-in-Some c =
    let d = strip_prefix_is Decides-eqb c.args.s.now (dash ∷ []) (Some c.in-Some.rest) c.in-Some.ensures.cases in
    c.negate.ensures ∙ ap negated c.in_ok-whole-in-Some.ensures.value ∙ sym (with_dash c.args.s.now dash c.in-Some.rest.now d refl)

pub returns-in_err-whole-in-None : goal.returns-in_err-whole-in-None
returns-in_err-whole-in-None c =
    let d = strip_prefix_is Decides-eqb c.args.s.now (dash ∷ []) None c.in-None.ensures.cases in
    c.from_residual-in_err-whole-in-None.ensures ∙ ap unsigned c.in_err-whole-in-None.ensures.value ∙ sym (no_dash c.args.s.now d)

pub returns-in_ok-whole-in-None : goal.returns-in_ok-whole-in-None
returns-in_ok-whole-in-None c =
    let d = strip_prefix_is Decides-eqb c.args.s.now (dash ∷ []) None c.in-None.ensures.cases in
    ap Some (to_z_pos w64 (omega (arith, c.in_ok-whole-in-None.ensures.within))) ∙ ap unsigned c.in_ok-whole-in-None.ensures.value ∙ sym (no_dash c.args.s.now d)
