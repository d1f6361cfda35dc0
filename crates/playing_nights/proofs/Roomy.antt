-- Pieces with 20 bytes from the record on reach to an ending: none is asked in vain, and every line leads on by a byte at least.
use Prim.Native.Nat.{ℕ, ◌+◌, ◌-◌, ◌≤◌, ◌<◌}
use native.Mathlib.Omega.{arith}
use mathlib.Core.Path.{◌≡◌, refl, sym, ap, subst, ◌∙◌}
use mathlib.Core.Logic.{◌⊎◌, inl, inr}
use mathlib.Core.Bool.{Bool, true, false, ◌||◌, true≢false}
use mathlib.Core.Option.{Option, some}
use mathlib.Core.List.{List, [], ◌∷◌}
use lib.Dec.{leb}
use lib.ListN.{length, take}
use borrow.Author.Tests.{le-leb}
use Rattle.log_records.specs.Pieces.{piece_of}
use Rattle.playing_nights.specs.declared.Replay.{Replay}
use Rattle.playing_nights.specs.declared.Played.{Played}
use Rattle.playing_nights.specs.declared.Played.TheVariants.{Line, End, Cut, Bad, SetUp, Short}
use Rattle.playing_nights.specs.Call.{fresh, next_line, buffer_after}
use Rattle.playing_nights.specs.Night.{Wanted, Night, set_ups_from, stop, run_of}
use Rattle.playing_nights.specs.Pieces.{moved_answer, is_firm, Piece, AllRoomy, on_more, on_moved, in_pieces}
use Rattle.playing_nights.proofs.Calls.{line_lies}
use Rattle.playing_nights.proofs.Pieces.{call_enough, line_in_piece}
use Rattle.playing_nights.proofs.Pieced.{night_in_pieces}

abbrev Ends : Option Night → Type 0
Ends x = (n : Night) × (x ≡ some n)

never_vain : (x : Bool) (n m : ℕ) → x ≡ true ⊎ n ≤ m → (x || leb n m) ≡ true
never_vain true n m h = refl
never_vain false n m (inl e) = absurd (true≢false (sym e))
never_vain false n m (inr le) = le-leb n m le

module _ (s : List ℕ) (go : Replay → ℕ → List ℕ → Option Night) (r : Replay) (at : ℕ) (out : List ℕ)
    (ih : (q : Replay) (next : ℕ) (left : List ℕ) → at < next → next ≤ length s → Ends (go q next left)) where
  more : (text : List ℕ) (x : Option Night) → Ends x → Ends (on_more text x)
  more text x e = (record { lines = text ∷ e.0.lines; ending = e.0.ending }, ap (on_more text) e.1)

  on-answer : (q : Replay) (left : List ℕ) (y : Played) → (next_line r s at (length out)).answer ≡ y → Ends (on_moved left (λ next. go q next left) y)
  on-answer q left (Line bytes next) e =
      let l = line_lies r s at out bytes next e in
      more (take bytes left) (go q next left) (ih q next left l.0 l.1)
  on-answer q left End e = (stop End, refl)
  on-answer q left (Cut b) e = (stop (Cut b), refl)
  on-answer q left (Bad w b) e = (stop (Bad w b), refl)
  on-answer q left (SetUp w) e = (stop (SetUp w), refl)
  on-answer q left Short e = (stop Short, refl)

reach : (ps : List Piece) (s : List ℕ) (r : Replay) (at : ℕ) (out : List ℕ) → AllRoomy ps → at ≤ length s → length s < at + length ps → Ends (in_pieces ps r s at out)
unfolding in_pieces
reach [] s r at out h le lt = absurd (omega arith)
reach (p ∷ ps) s r at out h le lt = turn (λ q next left on within. reach ps s q next left h.1 within (omega arith))
  where
    a : ℕ
    a = at - p.0

    here : a + (at - a) ≡ at
    here = omega arith

    firm : is_firm (next_line r (piece_of s a p.1) (at - a) (length out)).answer ≡ true ⊎ length s ≤ a + p.1
    firm = call_enough r s a p.1 (at - a) (length out) (omega (arith, h.0))

    answer : (next_line r s at (length out)).answer ≡ moved_answer a (next_line r (piece_of s a p.1) (at - a) (length out)).answer
    answer =
        subst (λ (b : ℕ). (next_line r s b (length out)).answer ≡ moved_answer a (next_line r (piece_of s a p.1) (at - a) (length out)).answer) here
        (ap (λ x. x.answer) (line_in_piece r s a p.1 (at - a) out firm).0)

    turn : ((q : Replay) (next : ℕ) (left : List ℕ) → at < next → next ≤ length s → Ends (in_pieces ps q s next left)) → Ends (in_pieces (p ∷ ps) r s at out)
    turn ih =
        let e = on-answer s (λ q next left. in_pieces ps q s next left) r at out ih (next_line r (piece_of s a p.1) (at - a) (length out)).replay
        (buffer_after r (piece_of s a p.1) (at - a) out) _ answer in
        (e.0, rw (never_vain (is_firm (next_line r (piece_of s a p.1) (at - a) (length out)).answer) (length s) (a + p.1) firm) e.1)

-- one such piece more than the log has bytes is enough for every night, and it is the night of the whole log
pub pieces_reach : (ps : List Piece) (us : List Wanted) (s out : List ℕ) → AllRoomy ps → length s < length ps → in_pieces ps (set_ups_from fresh us) s 0 out ≡ some (run_of us s out)
pieces_reach ps us s out h lt =
    let e = reach ps s (set_ups_from fresh us) 0 out h (omega arith) (omega arith) in
    e.1 ∙ ap some (sym (night_in_pieces ps us s out e.0 e.1))
