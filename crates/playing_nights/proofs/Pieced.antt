-- A night whose calls each have a piece of the log is the night of the whole log: a piece that was asked in vain changes nothing, and every other call answers
-- as over the whole log.
use Prim.Native.Nat.{ℕ, zero, suc, ◌+◌, ◌-◌, ◌≤◌}
use native.Mathlib.Omega.{arith}
use mathlib.Core.Path.{◌≡◌, refl, ap, ap₂, subst, ◌∙◌}
use mathlib.Core.Logic.{◌⊎◌, inl, inr, ⊎_elim}
use mathlib.Core.Bool.{Bool, true, false, ◌||◌, cond}
use mathlib.Core.Option.{Option, none, some}
use mathlib.Core.List.{List, [], ◌∷◌}
use lib.Dec.{leb}
use lib.ListN.{length, take}
use borrow.Author.Tests.{leb-true}
use Rattle.log_records.specs.Pieces.{piece_of}
use Rattle.playing_nights.specs.declared.Replay.{Replay}
use Rattle.playing_nights.specs.declared.Played.{Played}
use Rattle.playing_nights.specs.declared.Played.TheVariants.{Line, End, Cut, Bad, SetUp, Short}
use Rattle.playing_nights.specs.declared.Next.{Next}
use Rattle.playing_nights.specs.Call.{fresh, next_line, buffer_after}
use Rattle.playing_nights.specs.Night.{Wanted, Night, set_ups_from, on_played, calls_from, run_of}
use Rattle.playing_nights.specs.Pieces.{moved_next, is_firm, Piece, on_more, on_moved, piece_call, in_pieces}
use Rattle.playing_nights.proofs.Calls.{line_lies}
use Rattle.playing_nights.proofs.Pieces.{line_in_piece}

either : (x y : Bool) → (x || y) ≡ true → x ≡ true ⊎ y ≡ true
either true y h = inl refl
either false y h = inr h

-- one line in front of what the other calls give
in_front : (text : List ℕ) (c n : Night) (x : Option Night) → ((m : Night) → x ≡ some m → c ≡ m) → on_more text x ≡ some n → record { lines = text ∷ c.lines; ending = c.ending } ≡ n
in_front text c n none ih h = cc
in_front text c n (some m) ih h =
    let z : record { lines = text ∷ m.lines; ending = m.ending } ≡ n = cc in
    ap (λ (y : Night). record { lines = text ∷ y.lines; ending = y.ending }) (ih m refl) ∙ z

module _ (s : List ℕ) (ps : List Piece)
    (ih : (k : ℕ) (r : Replay) (at : ℕ) (out : List ℕ) (n : Night) → length s ≤ at + k → in_pieces ps r s at out ≡ some n → calls_from (suc k) r s at out ≡ n) where
  -- on from an answer over the whole log
  answer-turn : (k : ℕ) (r : Replay) (at : ℕ) (out : List ℕ) (n : Night) (y : Played) → length s ≤ at + k → (next_line r s at (length out)).answer ≡ y
      → on_moved (buffer_after r s at out) (λ next. in_pieces ps (next_line r s at (length out)).replay s next (buffer_after r s at out)) y ≡ some n
      → on_played (buffer_after r s at out) (λ next. calls_from k (next_line r s at (length out)).replay s next (buffer_after r s at out)) y ≡ n
  answer-turn zero r at out n (Line bytes next) le e h = let l = line_lies r s at out bytes next e in absurd (omega (arith, l.0, l.1))
  answer-turn (suc k) r at out n (Line bytes next) le e h =
      let l = line_lies r s at out bytes next e in
      in_front (take bytes (buffer_after r s at out)) _ n (in_pieces ps (next_line r s at (length out)).replay s next (buffer_after r s at out))
      (λ m. ih k (next_line r s at (length out)).replay next (buffer_after r s at out) m (omega (arith, l.0))) h
  answer-turn k r at out n End le e h = cc
  answer-turn k r at out n (Cut b) le e h = cc
  answer-turn k r at out n (Bad w b) le e h = cc
  answer-turn k r at out n (SetUp w) le e h = cc
  answer-turn k r at out n Short le e h = cc

  abbrev on_next : List ℕ → Next → Option Night
  on_next left x = on_moved left (λ next. in_pieces ps x.replay s next left) x.answer

  -- a piece from byte a on, of m bytes
  piece-turn : (k : ℕ) (r : Replay) (a m i : ℕ) (out : List ℕ) (n : Night) → length s ≤ a + i + k
      → is_firm (next_line r (piece_of s a m) i (length out)).answer ≡ true ⊎ length s ≤ a + m
      → on_next (buffer_after r (piece_of s a m) i out) (moved_next a (next_line r (piece_of s a m) i (length out))) ≡ some n → calls_from (suc k) r s (a + i) out ≡ n
  unfolding calls_from
  piece-turn k r a m i out n le h e =
      let x = line_in_piece r s a m i out h in
      answer-turn k r (a + i) out n _ le refl (ap₂ on_next x.1 x.0 ∙ e)

  one_piece : (k : ℕ) (r : Replay) (a m at : ℕ) (out : List ℕ) (n : Night) → a ≤ at → length s ≤ at + k
      → piece_call r s a m at out (λ q next left. in_pieces ps q s next left) ≡ some n → calls_from (suc k) r s at out ≡ n
  one_piece k r a m at out n before le = go (is_firm (next_line r (piece_of s a m) (at - a) (length out)).answer || leb (length s) (a + m)) refl
    where
      here : a + (at - a) ≡ at
      here = omega arith

      go : (t : Bool) → (is_firm (next_line r (piece_of s a m) (at - a) (length out)).answer || leb (length s) (a + m)) ≡ t
          → cond t (on_next (buffer_after r (piece_of s a m) (at - a) out) (moved_next a (next_line r (piece_of s a m) (at - a) (length out)))) (in_pieces ps r s at out) ≡ some n
          → calls_from (suc k) r s at out ≡ n
      go true e h =
          let enough = ⊎_elim inl (λ z. inr (leb-true (length s) (a + m) z)) (either _ _ e) in
          subst (λ (b : ℕ). calls_from (suc k) r s b out ≡ n) here (piece-turn k r a m (at - a) out n (omega (arith, here)) enough h)
      go false e h = ih k r at out n le h

pieces_at : (ps : List Piece) (s : List ℕ) (k : ℕ) (r : Replay) (at : ℕ) (out : List ℕ) (n : Night) → length s ≤ at + k → in_pieces ps r s at out ≡ some n → calls_from (suc k) r s at out ≡ n
unfolding in_pieces
pieces_at [] s k r at out n le h = cc
pieces_at (p ∷ ps) s k r at out n le h = one_piece s ps (pieces_at ps s) k r (at - p.0) p.1 at out n (omega arith) le h

-- whatever the pieces: where they reach to an ending, the night is the one of the calls over the whole log
pub night_in_pieces : (ps : List Piece) (us : List Wanted) (s out : List ℕ) (n : Night) → in_pieces ps (set_ups_from fresh us) s 0 out ≡ some n → run_of us s out ≡ n
night_in_pieces ps us s out n h = pieces_at ps s (length s) (set_ups_from fresh us) 0 out n (omega arith) h
