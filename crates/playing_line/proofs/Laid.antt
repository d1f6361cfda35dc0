-- A line that fits stands at the front of the buffer as one text.
use mathlib.Core.Path.{◌≡◌, ap, ◌∙◌}
use mathlib.Core.List.{List, ◌++◌}
use Prim.Native.Nat.{ℕ, ◌+◌, ◌≤◌}
use native.Mathlib.Nat.{zero-add}
use native.Mathlib.Omega.{arith}
use lib.ListN.{length, drop}
use Rattle.text_pen.specs.declared.Pen.{Pen}
use Rattle.text_pen.specs.declared.Sheet.{Sheet}
use Rattle.text_pen.specs.Pens.{moved_by, inked_by, new_pen, Wrote}
use Rattle.text_pen.proofs.Laws.{whole_text}
use Rattle.text_pen.proofs.Turns.{pen_after, text_after}
use Rattle.watch_rules.specs.Answer.{Answer}
use Rattle.playing_line.specs.Lines.{line_words, line_of, laid}

pub whole_line : (n i : ℕ) (a : Answer) (s : Sheet) {t : Sheet} → s.pen ≡ new_pen → length (line_of n i a) ≤ length s.out.now → Wrote s (line_words n i a) t
    → (t.pen.at ≡ length (line_of n i a)) × (t.out.now ≡ laid (line_of n i a) s.out.now)
unfolding line_of
whole_line n i a s e h w =
    let out : List ℕ = s.out.now in
    let ws : List (List ℕ) = line_words n i a in
    let t = whole_text ws out 0 (omega arith) in
    let z : 0 + length (line_of n i a) ≡ length (line_of n i a) = zero-add (length (line_of n i a)) in (
      ap (λ (p : Pen). p.at) (pen_after s ws w ∙ ap (λ (p : Pen). moved_by (length out) p ws) e ∙ t.0) ∙ z,
      text_after s ws w ∙ ap (λ (p : Pen). inked_by out p ws) e ∙ t.1 ∙ ap (λ (k : ℕ). line_of n i a ++ drop k out) z,
    )
