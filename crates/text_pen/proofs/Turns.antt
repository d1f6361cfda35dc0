-- Words put after other words are both in turn: no word changes the buffer's length. Assumes nothing.
use mathlib.Core.Path.{◌≡◌, refl, sym, ap, ap₂, ◌∙◌}
use mathlib.Core.Bool.{Bool, true, false, cond, not, ◌&&◌}
use mathlib.Core.List.{List, [], ◌∷◌, ◌++◌}
use Prim.Native.Nat.{ℕ, ◌+◌, ◌≤◌}
use native.Mathlib.Omega.{arith}
use lib.Dec.{leb}
use lib.ListN.{length, take, drop, length-append, length-drop}
use lib.Seq.{length-take-le}
use borrow.Author.Tests.{leb-true}
use Rattle.text_pen.specs.Pens.{has_room, moved, inked, moved_by, inked_by, with_words, Wrote}
use Rattle.text_pen.specs.declared.Pen.{Pen}
use Rattle.text_pen.specs.declared.Sheet.{Sheet}

length_inked : (out : List ℕ) (p : Pen) (t : List ℕ) → length (inked out p t) ≡ length out
unfolding inked has_room
length_inked out p t = go (not p.full) (leb (p.at + length t) (length out)) refl
  where
    go : (x y : Bool) → leb (p.at + length t) (length out) ≡ y
        → length (cond (x && y) (take p.at out ++ t ++ drop (p.at + length t) out) out) ≡ length out
    go true true e =
        let h : p.at + length t ≤ length out = leb-true (p.at + length t) (length out) e in
        let f : length (take p.at out ++ t) ≡ p.at + length t = length-append (take p.at out) t ∙ ap (λ (k : ℕ). k + length t) (length-take-le p.at out (omega arith)) in
        length-append (take p.at out ++ t) (drop (p.at + length t) out) ∙ omega (arith, f, h, length-drop (p.at + length t) out)
    go true false e = refl
    go false y e = refl

pub length_inked_by : (out : List ℕ) (p : Pen) (ws : List (List ℕ)) → length (inked_by out p ws) ≡ length out
unfolding inked_by
length_inked_by out p [] = refl
length_inked_by out p (w ∷ ws) = length_inked_by (inked out p w) (moved (length out) p (length w)) ws ∙ length_inked out p w

moved_on : (room : ℕ) (p : Pen) (vs ws : List (List ℕ)) → moved_by room (moved_by room p vs) ws ≡ moved_by room p (vs ++ ws)
unfolding moved_by
moved_on room p [] ws = refl
moved_on room p (v ∷ vs) ws = moved_on room (moved room p (length v)) vs ws

inked_on : (out : List ℕ) (p : Pen) (vs ws : List (List ℕ)) → inked_by (inked_by out p vs) (moved_by (length out) p vs) ws ≡ inked_by out p (vs ++ ws)
unfolding moved_by inked_by
inked_on out p [] ws = refl
inked_on out p (v ∷ vs) ws =
    let q : Pen = moved (length out) p (length v) in
    ap (λ (n : ℕ). inked_by (inked_by (inked out p v) q vs) (moved_by n q vs) ws) (sym (length_inked out p v)) ∙ inked_on (inked out p v) q vs ws

-- a sheet with another text and another pen: the buffer is the same one
abbrev pub sheet_of : Sheet → List ℕ → Pen → Sheet
sheet_of s l p = record { out = record { ref_ptr = s.out.ref_ptr; ghost_name = s.out.ghost_name; now = l }; pen = p }

module _ (s : Sheet) where
  -- one word
  pub one : (w l : List ℕ) (p : Pen) → p ≡ moved (length s.out.now) s.pen (length w) → l ≡ inked s.out.now s.pen w → Wrote s (w ∷ []) (sheet_of s l p)
  unfolding with_words moved_by inked_by
  one w l p e d = ap₂ (sheet_of s) d e

  -- no word
  pub no_words : with_words s [] ≡ s
  unfolding with_words moved_by inked_by
  no_words = refl

  -- words, and then words
  pub words_then : (vs ws : List (List ℕ)) → with_words (with_words s vs) ws ≡ with_words s (vs ++ ws)
  unfolding with_words
  words_then vs ws =
      ap₂ (sheet_of s) (inked_on s.out.now s.pen vs ws)
      (ap (λ (n : ℕ). moved_by n (moved_by (length s.out.now) s.pen vs) ws) (length_inked_by s.out.now s.pen vs) ∙ moved_on (length s.out.now) s.pen vs ws)

  pub then : (vs ws : List (List ℕ)) {t u : Sheet} → Wrote s vs t → Wrote t ws u → Wrote s (vs ++ ws) u
  then vs ws e d = d ∙ ap (λ (x : Sheet). with_words x ws) e ∙ words_then vs ws

  -- the pen and the text afterwards
  pub pen_after : (ws : List (List ℕ)) {t : Sheet} → Wrote s ws t → t.pen ≡ moved_by (length s.out.now) s.pen ws
  unfolding with_words
  pen_after ws e = ap (λ (x : Sheet). x.pen) e

  pub text_after : (ws : List (List ℕ)) {t : Sheet} → Wrote s ws t → t.out.now ≡ inked_by s.out.now s.pen ws
  unfolding with_words
  text_after ws e = ap (λ (x : Sheet). x.out.now) e

  pub with_pen : (ws : List (List ℕ)) → (with_words s ws).pen ≡ moved_by (length s.out.now) s.pen ws
  unfolding with_words
  with_pen ws = refl

  pub with_text : (ws : List (List ℕ)) → (with_words s ws).out.now ≡ inked_by s.out.now s.pen ws
  unfolding with_words
  with_text ws = refl

  pub same_buffer : (ws : List (List ℕ)) → (with_words s ws).out.ghost_name ≡ s.out.ghost_name
  unfolding with_words
  same_buffer ws = refl

-- what a proof about words on a sheet lists
pub ruleset sheets = (words_then, no_words, with_pen, with_text, same_buffer)
