-- The digits of a byte are put, and those of the bytes behind it are left.
use Rattle.std.proofs.Common.{◌≡◌, ◌+◌, ℕ, List, [], ◌∷◌, sym, ap, ap₂, ◌∙◌, arith, length, drop, map, get_or}
use Rattle.text_pen.specs.Pens.{with_words}
use Rattle.text_pen.specs.declared.Sheet.{Sheet}
use Rattle.text_pen.proofs.Turns.{no_words, words_then}
use Rattle.text_written.specs.Words.{two_digits}
use Rattle.text_written.proofs.Turns.{no_bytes, some_bytes, next_byte, last_byte}
use Rattle.text_written.proofs.put_hex.Goals as goal

pub returns-then-is_empty : goal.returns-then-is_empty
returns-then-is_empty c = c.put.ensures ∙ ap (with_words c.args.sheet.now) (no_bytes c.args.src.now c.if-is_empty.ensures)

pub loop-x-init : goal.loop-x-init
loop-x-init c = ap (with_words c.args.sheet.now) (some_bytes c.args.src.now c.if-is_empty.ensures)

pub loop-x-preserved : goal.loop-x-preserved
loop-x-preserved c =
    let l = c.loop-x in
    let src = c.args.src.now in
    let rest = map two_digits (drop (l.x-index + 1) src) in
    let two : c.glyph.result ∷ c.glyph-in-loop-x.result ∷ [] ≡ two_digits (get_or src l.x-index 0) =
    ap₂ (λ (x y : ℕ). x ∷ y ∷ []) c.glyph.ensures c.glyph-in-loop-x.ensures in
    ap (λ (s : Sheet). with_words s rest) (c.put-in-loop-x.ensures ∙ ap (λ (w : List ℕ). with_words l.sheet (w ∷ [])) two)
    ∙ words_then l.sheet (two_digits (get_or src l.x-index 0) ∷ []) rest
    ∙ ap (with_words l.sheet) (sym (next_byte src l.x-index c.loop-x-test.true))
    ∙ l.invariant

pub returns : goal.returns
returns c =
    let l = c.loop-x in
    let src = c.args.src.now in
    let e : l.x-index ≡ length src = omega arith in
    sym (no_words l.sheet)
    ∙ ap (with_words l.sheet) (sym (last_byte src) ∙ ap (λ (i : ℕ). map two_digits (drop i src)) (sym e))
    ∙ l.invariant
