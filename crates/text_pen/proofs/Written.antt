-- Words that fit, put one after the other, are their text in one piece. Assumes nothing.
use mathlib.Core.Path.{◌≡◌, refl, sym, ap, ap₂, ◌∙◌}
use mathlib.Core.Bool.{true, false}
use mathlib.Core.List.{List, [], ◌∷◌, ◌++◌, append_assoc}
use Prim.Native.Nat.{ℕ, ◌+◌, ◌≤◌}
use native.Mathlib.Nat.{add-zero}
use native.Mathlib.Omega.{arith}
use lib.ListN.{length, take, drop, length-append, length-drop}
use lib.Seq.{length-take-le, take_at, drop_at, drop-drop, paste-zero}
use Rattle.text_pen.specs.Pens.{has_room, moved, inked, moved_by, inked_by, text_of}
use Rattle.text_pen.specs.declared.Pen.{Pen}
use Rattle.text_pen.proofs.Inks.{has_room_lem, written}

-- a pen that is not full
abbrev pub pen_at : ℕ → Pen
pen_at at = record { at = at; full = false }

-- text at a place of the buffer
abbrev pub laid : List ℕ → ℕ → List ℕ → List ℕ
laid out at w = take at out ++ w ++ drop (at + length w) out

module _ (out : List ℕ) (at : ℕ) (w : List ℕ) (h : at + length w ≤ length out) where
  room : has_room (length out) (pen_at at) (length w) ≡ true
  room = has_room_lem (length out) (pen_at at) (length w) refl h

  moves : moved (length out) (pen_at at) (length w) ≡ pen_at (at + length w)
  moves = sym (written out (pen_at at) w room).0

  inks : inked out (pen_at at) w ≡ laid out at w
  inks = sym (written out (pen_at at) w room).1

  front : length (take at out ++ w) ≡ at + length w
  front = length-append (take at out) w ∙ ap (λ (k : ℕ). k + length w) (length-take-le at out (omega arith))

  length-inks : length (inked out (pen_at at) w) ≡ length out
  length-inks =
      ap length inks
      ∙ length-append (take at out ++ w) (drop (at + length w) out)
      ∙ omega (arith, front, length-drop (at + length w) out)

  inks-more : (t : List ℕ) → at + length w + length t ≤ length out → laid (laid out at w) (at + length w) t ≡ laid out at (w ++ t)
  inks-more t k =
      let n : ℕ = at + length w in
      let p : List ℕ = take at out ++ w in
      let a : take n (laid out at w) ≡ p = take_at p (drop n out) n front in
      let d : drop (n + length t) (laid out at w) ≡ drop (n + length t) out =
      sym (drop-drop (length t) n (laid out at w)) ∙ ap (drop (length t)) (drop_at p (drop n out) n front) ∙ drop-drop (length t) n out in
      let e : n + length t ≡ at + length (w ++ t) = omega (arith, length-append w t) in
      ap₂ (λ (x y : List ℕ). x ++ t ++ y) a d
      ∙ ap₂ (λ (x : List ℕ) (m : ℕ). x ++ drop m out) (append_assoc (take at out) w t) e

pub in_turn_lem : (ws : List (List ℕ)) (out : List ℕ) (at : ℕ) → at + length (text_of ws) ≤ length out
    → (moved_by (length out) (pen_at at) ws ≡ pen_at (at + length (text_of ws))) × (inked_by out (pen_at at) ws ≡ laid out at (text_of ws))
unfolding moved_by inked_by text_of
in_turn_lem [] out at h = (ap pen_at (sym (add-zero at)), paste-zero out at [])
in_turn_lem (w ∷ ws) out at h =
    let t : List ℕ = text_of ws in
    let n : ℕ = at + length w in
    let s : length (w ++ t) ≡ length w + length t = length-append w t in
    let fit : n ≤ length out = omega arith in
    let out' : List ℕ = inked out (pen_at at) w in
    let same : length out' ≡ length out = length-inks out at w fit in
    let r = in_turn_lem ws out' n (omega arith) in
    let e : n + length t ≡ at + length (w ++ t) = omega arith in (
      ap₂ (λ (k : ℕ) (p : Pen). moved_by k p ws) (sym same) (moves out at w fit) ∙ r.0 ∙ ap pen_at e,
      ap (λ (p : Pen). inked_by out' p ws) (moves out at w fit)
          ∙ r.1
          ∙ ap (λ (l : List ℕ). laid l n t) (inks out at w fit)
          ∙ inks-more out at w fit t (omega arith),
    )
