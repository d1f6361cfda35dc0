-- The words of a signed number, by its sign.
use Rattle.std.proofs.Common.{◌≡◌, ℕ, [], ◌∷◌, sym, ap, ◌∙◌}
use lib.IntN.{nat_abs}
use mir.Facts.{to_z-of_z}
use Rattle.text_numbers.specs.Ascii.{dash}
use Rattle.text_numbers.specs.Numbers.{numeral}
use Rattle.text_numbers.proofs.Signs.{below, not_below}
use Rattle.text_pen.specs.Pens.{Wrote, with_words}
use Rattle.text_pen.specs.declared.Sheet.{Sheet}
use Rattle.text_pen.proofs.Turns.{then}
use Rattle.text_written.proofs.Turns.{below_0, from_0}
use Rattle.text_written.proofs.put_signed.Goals as goal
use Rattle.text_written.proofs.put_signed.Goals.{then-v-lt0, else-v-lt0}

pub returns : goal.returns
returns c =
    let s = c.args.sheet.now in
    let v = c.args.v in
    let n : c.unsigned_abs.result ≡ nat_abs v = c.unsigned_abs.ensures.value ∙ ap nat_abs (to_z-of_z c.ranges.v) in
    let d : Wrote c.if-v-lt0.sheet (numeral 10 (nat_abs v) ∷ []) c.put_decimal.new.sheet =
    c.put_decimal.ensures ∙ ap (λ (k : ℕ). with_words c.if-v-lt0.sheet (numeral 10 k ∷ [])) n in
    elim c.if-v-lt0.branch [
      | then-v-lt0 w ↦ let b = below v c.ranges.v w.if-v-lt0.true in
          then s ((dash ∷ []) ∷ []) (numeral 10 (nat_abs v) ∷ []) (w.sheet-is ∙ w.put.ensures) d ∙ ap (with_words s) (sym (below_0 v b.0 b.1))
      | else-v-lt0 w ↦ let b = not_below v c.ranges.v w.if-v-lt0.false in
          d ∙ ap (λ (x : Sheet). with_words x (numeral 10 (nat_abs v) ∷ [])) w.sheet-is ∙ ap (with_words s) (sym (from_0 v b.0 b.1))
    ]
