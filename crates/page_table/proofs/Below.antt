-- A test of every number below a bound, as antt computes it, and what it tells of each.
use mathlib.Core.Path.{◌≡◌, ap, ◌∙◌}
use mathlib.Core.Bool.{Bool, true, ◌&&◌}
use mathlib.Core.Logic.{◌⊎◌, inl, inr}
use Prim.Native.Nat.{ℕ, zero, suc, ◌≤◌, ◌<◌}
use native.Mathlib.Nat.{not-suc-le-zero}
use native.Mathlib.Omega.{arith}
use Rattle.signal.proofs.Complement.{half_of}
use Rattle.page_table.proofs.Rules.{both_true}

unfoldable pub all_below : (ℕ → Bool) → ℕ → Bool
all_below f zero = true
all_below f (suc m) = f m && all_below f m

pub below_at : (f : ℕ → Bool) (m i : ℕ) → all_below f m ≡ true → i < m → f i ≡ true
unfolding all_below
below_at f zero i e h = absurd (not-suc-le-zero h)
below_at f (suc m) i e h =
    let p = both_true (f m) (all_below f m) e in
    go (half_of m i) p.0 (below_at f m i p.1)
  where
    go : (i < m) ⊎ (m ≤ i) → f m ≡ true → (i < m → f i ≡ true) → f i ≡ true
    go (inl l) t b = b l
    go (inr l) t b = let s : i ≡ m = omega arith in ap f s ∙ t
