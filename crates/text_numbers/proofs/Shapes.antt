-- A list of none, of one and of two or more, by its length. Assumes nothing.
use mathlib.Core.Path.{◌≡◌, refl}
use mathlib.Core.List.{List, [], ◌∷◌}
use Prim.Native.Nat.{ℕ, ◌≤◌}
use native.Mathlib.Omega.{arith}
use lib.ListN.{length, get_or, drop}

pub none : (s : List ℕ) → length s ≡ 0 → s ≡ []
none [] h = refl
none (c ∷ cs) h = absurd (omega arith)

pub one : (s : List ℕ) → length s ≡ 1 → s ≡ get_or s 0 0 ∷ []
one [] h = absurd (omega arith)
one (c ∷ []) h = refl
one (c ∷ d ∷ cs) h = absurd (omega arith)

pub some : (s : List ℕ) → 1 ≤ length s → s ≡ get_or s 0 0 ∷ drop 1 s
some [] h = absurd (omega arith)
some (c ∷ cs) h = refl

pub two : (s : List ℕ) → 2 ≤ length s → s ≡ get_or s 0 0 ∷ get_or s 1 0 ∷ drop 2 s
two [] h = absurd (omega arith)
two (c ∷ []) h = absurd (omega arith)
two (c ∷ d ∷ cs) h = refl
