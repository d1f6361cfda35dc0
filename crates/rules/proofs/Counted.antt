-- A list made over numbers in a row: what stands at a place of it, when two such lists are the same, and what storing at a place makes of one.
use Prim.Native.Nat.{ℕ, zero, suc, ◌+◌, ◌≤◌, ◌<◌}
use native.Mathlib.Omega.{arith}
use mathlib.Core.Path.{◌≡◌, refl, sym, ap, ap₂, ◌∙◌}
use mathlib.Core.List.{◌∷◌, map}
use lib.ListN.{get_or, set}
use Rattle.rules.specs.History.{count_from}

pub count_at : {A : Type 0} (f : ℕ → A) (d : A) (k j n i : ℕ) → j + i ≡ k → i < n → get_or (map f (count_from j n)) i d ≡ f k
count_at f d k j zero i at lt = absurd (let z : ⊥ = omega arith in z)
count_at f d k j (suc n) zero at lt = ap f (omega arith)
count_at f d k j (suc n) (suc i) at lt = count_at f d k (suc j) n i (omega arith) (omega arith)

module _ {A : Type 0} (f g : ℕ → A) where
  pub count_same : (j n : ℕ) → ((i : ℕ) → j ≤ i → i < j + n → f i ≡ g i) → map f (count_from j n) ≡ map g (count_from j n)
  count_same j zero same = refl
  count_same j (suc n) same =
      ap₂ ◌∷◌ (same j (omega arith) (omega arith)) (count_same (suc j) n (λ i low high. same i (omega arith) (omega arith)))

  -- Past the end nothing is stored, and no number of the row is the one stored at, so the law asks for no bound.
  pub count_set : (v : A) (k : ℕ) → g k ≡ v → ((i : ℕ) → (i ≡ k → ⊥) → f i ≡ g i)
      → (j n i : ℕ) → j + i ≡ k → set (map f (count_from j n)) i v ≡ map g (count_from j n)
  count_set v k here other j zero i at = refl
  count_set v k here other j (suc n) zero at =
      ap₂ ◌∷◌ (sym here ∙ ap g (omega arith)) (count_same (suc j) n (λ i low high. other i (λ e. omega arith)))
  count_set v k here other j (suc n) (suc i) at = ap₂ ◌∷◌ (other j (λ e. omega arith)) (count_set v k here other (suc j) n i (omega arith))
