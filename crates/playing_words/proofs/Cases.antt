-- What a call's answer tells, from its case.
use Prim.Native.Nat.{ℕ, ◌≤◌}
use mathlib.Core.Path.{◌≡◌, ap, ◌∙◌}
use mathlib.Core.List.{List, [], ◌∷◌}
use native.Mathlib.Omega.{arith}
use lib.ListN.{length, get_or, set}
use borrow.Author.Tests.{le-ltb}
use Rattle.playing_nights.specs.declared.Replay.{Replay}
use Rattle.playing_nights.specs.declared.Played.{Played}
use Rattle.playing_nights.specs.declared.Played.TheVariants.{Line, End, Cut, Bad, SetUp, Short}
use Rattle.playing_nights.specs.declared.Next.{Next}
use Rattle.playing_nights.specs.Call.{next_line, buffer_after}
use Rattle.playing_words.specs.declared.PlainReplay.{PlainReplay}
use Rattle.playing_words.specs.declared.LentReplay.{LentReplay}
use Rattle.playing_words.specs.Plain.{replay_of, told_by, next_left, line_by, line_left, next_after}

abbrev pub Told : PlainReplay → Replay → Played → List ℕ → LentReplay → List ℕ → Type 0
Told r q a ns given after = (given ≡ told_by r q a) × (after ≡ next_left a ns)

-- the first place of the slice, after the answer
pub place_left : (a : Played) (ns : List ℕ) (x y : ℕ) → 1 ≤ length ns → x ≡ get_or ns 0 0 → y ∷ [] ≡ next_left a (x ∷ []) → set ns 0 y ≡ next_left a ns
place_left a [] x y l e h = absurd (let z : ⊥ = omega arith in z)
place_left (Line b n) (m ∷ ms) x y l e h = ap (λ (r : List ℕ). get_or r 0 0 ∷ ms) h
place_left End (m ∷ ms) x y l e h = ap (λ (r : List ℕ). get_or r 0 0 ∷ ms) h ∙ ap (λ (k : ℕ). k ∷ ms) e
place_left (Cut at) (m ∷ ms) x y l e h = ap (λ (r : List ℕ). get_or r 0 0 ∷ ms) h ∙ ap (λ (k : ℕ). k ∷ ms) e
place_left (Bad w at) (m ∷ ms) x y l e h = ap (λ (r : List ℕ). get_or r 0 0 ∷ ms) h ∙ ap (λ (k : ℕ). k ∷ ms) e
place_left (SetUp w) (m ∷ ms) x y l e h = ap (λ (r : List ℕ). get_or r 0 0 ∷ ms) h ∙ ap (λ (k : ℕ). k ∷ ms) e
place_left Short (m ∷ ms) x y l e h = ap (λ (r : List ℕ). get_or r 0 0 ∷ ms) h ∙ ap (λ (k : ℕ). k ∷ ms) e

-- where there is a place for the next byte: what `next_line` and `told` ensure is the call
pub line_by_lem : (r : PlainReplay) (s : List ℕ) (at : ℕ) (out ns : List ℕ) {q : Replay} {x : Next} {given : LentReplay} {left after : List ℕ} → 1 ≤ length ns → q ≡ replay_of r
    → (x ≡ next_line q s at (length out)) × (left ≡ buffer_after q s at out) → Told r x.replay x.answer ns given after
    → (given ≡ line_by r s at out ns) × (left ≡ line_left r s at out ns) × (after ≡ next_after r s at out ns)
unfolding line_by line_left next_after
line_by_lem r s at out ns {q = q} {x = x} l e n t =
    let same : x ≡ next_line (replay_of r) s at (length out) = n.0 ∙ ap (λ (p : Replay). next_line p s at (length out)) e in
    rw (le-ltb (length ns) 1 l)
    (t.0 ∙ ap (λ (y : Next). told_by r y.replay y.answer) same, n.1 ∙ ap (λ (p : Replay). buffer_after p s at out) e, t.1 ∙ ap (λ (y : Next). next_left y.answer ns) same)
