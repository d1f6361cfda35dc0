-- A digit more stands in front, and in the end the whole numeral.
use Rattle.std.proofs.Common.{[], ◌≡◌, ◌≤◌, ◌++◌, ◌-◌, ◌/◌, ◌%◌, ◌∷◌, List, ℕ, suc, sym, ap, ap₂, ◌∙◌, length, take, drop, arith}
use lib.ListN.{set, length-set, length-drop}
use lib.Seq.{append_snoc, take_all}
use Rattle.text_numbers.specs.Numbers.{glyph_of, numeral}
use Rattle.text_numbers.proofs.Numerals.{one_digit, more_digits, shorter, in_front}
use Rattle.text_pen.specs.Pens.{with_words}
use Rattle.text_written.proofs.put_number.Goals as goal

pub loop-rest-preserved : goal.loop-rest-preserved
loop-rest-preserved c =
    let base = c.args.base in
    let l = c.loop-rest in
    let g = c.glyph.result in
    let s = shorter base l.rest l.at c.requires.0 c.loop-rest-test.true l.invariant.room in
    let two : 2 ≤ l.at = s.0 in
    let e : suc (l.at - 1) ≡ l.at = omega arith in
    record {
      room_for_all = length-set l.t (l.at - 1) g ∙ l.invariant.room_for_all;
      one_more = omega arith;
      places = omega arith;
      room = s.1;
      spelt = l.invariant.spelt
          ∙ ap (λ (ds : List ℕ). ds ++ drop l.at l.t) (more_digits base (omega arith) l.rest c.loop-rest-test.true)
          ∙ append_snoc (numeral base (l.rest / base)) (glyph_of (l.rest % base)) (drop l.at l.t)
          ∙ ap₂ (λ (x : ℕ) (r : List ℕ). numeral base (l.rest / base) ++ (x ∷ r)) (sym c.glyph.ensures) (ap (λ (k : ℕ). drop k l.t) (sym e))
          ∙ ap (λ (r : List ℕ). numeral base (l.rest / base) ++ r) (sym (in_front l.t (l.at - 1) g (omega arith)));
    }

pub returns : goal.returns
returns c =
    let base = c.args.base in
    let l = c.loop-rest in
    let i = l.at - 1 in
    let g = c.glyph-2.result in
    let t = set l.t i g in
    let e : suc i ≡ l.at = omega arith in
    let k : length t ≡ 20 = length-set l.t i g ∙ l.invariant.room_for_all in
    let whole : take (20 - i) (drop i t) ≡ numeral base c.args.n =
    take_all (20 - i) (drop i t) (omega (arith, length-drop i t))
    ∙ in_front l.t i g (omega arith)
    ∙ ap₂ (λ (x : ℕ) (r : List ℕ). x ∷ r) c.glyph-2.ensures (ap (λ (n : ℕ). drop n l.t) e)
    ∙ sym (l.invariant.spelt ∙ ap (λ (ds : List ℕ). ds ++ drop l.at l.t) (one_digit base (omega arith) l.rest c.loop-rest-test.false)) in
    c.put.ensures ∙ ap (λ (ds : List ℕ). with_words c.args.sheet.now (ds ∷ [])) whole
