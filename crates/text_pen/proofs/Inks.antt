-- A pen that has room, and one that has none. Assumes nothing.
use mathlib.Core.Path.{◌≡◌, refl, sym}
use mathlib.Core.Bool.{Bool, true, false, not}
use mathlib.Core.List.{List, ◌++◌, append_assoc}
use Prim.Native.Nat.{ℕ, ◌+◌, ◌≤◌, ◌<◌}
use lib.ListN.{length, take, drop}
use lib.Seq.{drop-drop}
use borrow.Rule.Slice.PartMut.{put_mid}
use lib.Dec.{leb}
use borrow.Author.Tests.{le-leb, lt-leb, leb-true}
use Rattle.text_pen.specs.Pens.{has_room, moved, inked}
use Rattle.text_pen.specs.declared.Pen.{Pen}
use Rattle.text_numbers.proofs.Cases.{and_false, both}

open_pen : (b : Bool) → not b ≡ true → b ≡ false
open_pen true e = sym e
open_pen false e = refl

module _ (room : ℕ) (p : Pen) (n : ℕ) where
  pub is_full_lem : p.full ≡ true → has_room room p n ≡ false
  unfolding has_room
  is_full_lem e = rw e

  pub too_long : room < p.at + n → has_room room p n ≡ false
  unfolding has_room
  too_long l = rw (lt-leb (p.at + n) room l, and_false (not p.full))

  pub has_room_lem : p.full ≡ false → p.at + n ≤ room → has_room room p n ≡ true
  unfolding has_room
  has_room_lem e l = rw (e, le-leb (p.at + n) room l)

  -- what a pen that has room tells
  pub room_told : has_room room p n ≡ true → (p.full ≡ false) × (p.at + n ≤ room)
  unfolding has_room
  room_told e =
      let b = both (not p.full) (leb (p.at + n) room) e in
      (open_pen p.full b.0, leb-true (p.at + n) room b.1)

module _ (out : List ℕ) (p : Pen) (text : List ℕ) where
  pub left_out : has_room (length out) p (length text) ≡ false
      → (◌≡◌ {A = Pen} (record { at = p.at; full = true }) (moved (length out) p (length text))) × (out ≡ inked out p text)
  unfolding moved inked
  left_out e = (rw e, rw e)

  pub written : has_room (length out) p (length text) ≡ true
      → (◌≡◌ {A = Pen} (record { at = p.at + length text; full = false }) (moved (length out) p (length text)))
      × (take p.at out ++ text ++ drop (p.at + length text) out ≡ inked out p text)
  unfolding moved inked
  written e = (rw e, rw e)

-- a part of the buffer, overwritten
pub overwritten : (out : List ℕ) (at n : ℕ) (new text : List ℕ) → n ≡ length text → new ≡ text
    → put_mid at n out new ≡ take at out ++ text ++ drop (at + length text) out
overwritten out at n new text e f = rw (e, f, drop-drop (length text) at out) (sym (append_assoc (take at out) text (drop (at + length text) out)))
