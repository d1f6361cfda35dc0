-- The counts of a head in memory are those that its record shows.
use Prim.Native.Nat.{ℕ, zero, suc, ◌+◌}
use native.Mathlib.Omega.{arith}
use mathlib.Core.Path.{◌≡◌, refl, ap, ap₂}
use mathlib.Core.List.{List, [], ◌∷◌, map}
use lib.ListN.{length, get_or}
use Rattle.rules.specs.declared.Post.{Post}
use Rattle.rules.specs.History.{count_from}
use Rattle.rules.specs.After.{finding_count, count_count, post_record}
use Rattle.lent_counts.specs.Counts.{counts_shown}

-- a list is what stands at each of its places
each : (n : ℕ) (l : List ℕ) → length l ≡ n → (f : ℕ → ℕ) (j : ℕ) → ((k i : ℕ) → j + k ≡ i → f i ≡ get_or l k 0) → map f (count_from j n) ≡ l
each zero [] e f j at = refl
each zero (x ∷ l) e f j at = absurd (let z : ⊥ = omega (arith, e) in z)
each (suc n) [] e f j at = absurd (let z : ⊥ = omega (arith, e) in z)
each (suc n) (x ∷ l) e f j at = ap₂ ◌∷◌ (at 0 j (omega arith)) (each n l (omega (arith, e)) f (suc j) (λ k i q. at (suc k) i (omega (arith, q))))

all_counts : (l : List ℕ) → length l ≡ count_count → get_or l 0 0 ∷ map (λ k. get_or l (suc k) 0) (count_from 0 finding_count) ≡ l
all_counts [] e = absurd (let z : ⊥ = omega (arith, e) in z)
all_counts (x ∷ l) e = ap (λ (r : List ℕ). x ∷ r) (each finding_count l (omega (arith, e)) (λ k. get_or l k 0) 0 (λ k i q. ap (λ (j : ℕ). get_or l j 0) (omega (arith, q))))

pub counts_are : (p : Post) → length p.head.counts ≡ count_count → counts_shown (post_record p) ≡ p.head.counts
unfolding post_record
counts_are p e = all_counts p.head.counts e
