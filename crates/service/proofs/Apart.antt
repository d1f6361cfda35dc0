-- Distances from ±n / 10 with their signs, in units of 2 ^ -149: ±grid is nearer than any other number of 24 digits. Assumes nothing.
use mathlib.Core.Path.{◌≡◌, refl, sym, ap, ap₂, ◌∙◌}
use mathlib.Core.Logic.{◌⊎◌, inl, inr}
use mathlib.Core.Bool.{Bool, true, false, beq, cond}
use Prim.Native.Nat.{ℕ, zero, suc, ◌+◌, ◌-◌, ◌*◌, ◌^◌, ◌<◌}
use native.Mathlib.Nat.{mul_comm, mul_right_comm, mul-sub, add-mul}
use native.Mathlib.Omega.{arith}
use lib.Ieee.{binary32}
use lib.Ieee.Scale.{grid}
use Rattle.service.specs.Nearness.{gap, apart}
use Rattle.service.proofs.Grid.{alone}

gap_scaled : (p q c : ℕ) → gap p q * c ≡ gap (p * c) (q * c)
gap_scaled p q c = add-mul (p - q) (q - p) c ∙ ap₂ ◌+◌ (less p q) (less q p)
  where
    less : (p q : ℕ) → (p - q) * c ≡ p * c - q * c
    less p q = mul_comm (p - q) c ∙ mul-sub c p q ∙ ap₂ ◌-◌ (mul_comm c p) (mul_comm c q)

-- a distance told by a float ±m / d, and the same told by its v units
pub in_units : (s t : Bool) (n m v u d : ℕ) → m * u ≡ v * d → apart t (m * 10) s (n * d) * u ≡ apart t (v * 10) s (n * u) * d
in_units s t n m v u d h = go (beq t s)
  where
    x : m * 10 * u ≡ v * 10 * d
    x = mul_right_comm m 10 u ∙ ap (λ (a : ℕ). a * 10) h ∙ mul_right_comm v d 10

    y : n * d * u ≡ n * u * d
    y = mul_right_comm n d u

    go : (b : Bool) → cond b (gap (m * 10) (n * d)) (m * 10 + n * d) * u ≡ cond b (gap (v * 10) (n * u)) (v * 10 + n * u) * d
    go true = gap_scaled (m * 10) (n * d) u ∙ ap₂ gap x y ∙ sym (gap_scaled (v * 10) (n * u) d)
    go false = add-mul (m * 10) (n * d) u ∙ ap₂ ◌+◌ x y ∙ sym (add-mul (v * 10) (n * u) d)

-- ±v and ±x are two numbers: a zero has both signs
abbrev pub Other : Bool → Bool → ℕ → ℕ → Type 0
Other s t v x = (t ≡ s) ⊎ (v ≡ 0) → v ≡ x → ⊥

-- on the other side of 0
across : (v x a : ℕ) → ((0 ≡ x → ⊥) → gap (x * 10) a < gap 0 a) → (v ≡ 0 → v ≡ x → ⊥) → gap (x * 10) a < v * 10 + a
across v zero a h o = let p : v ≡ 0 → ⊥ = λ z. o z z in omega (arith, p)
across v (suc x) a h o = let p : gap (suc x * 10) a < gap 0 a = h (λ e. omega (arith, e)) in omega (arith, p)

pub closer : (n : ℕ) → n < 2 ^ 16 → (s t : Bool) (k a : ℕ) → k < 2 ^ 24 → Other s t (k * 2 ^ a) (grid binary32 n 10)
    → apart s (grid binary32 n 10 * 10) s (n * 2 ^ 149) < apart t (k * 2 ^ a * 10) s (n * 2 ^ 149)
closer n N true true k a K o = alone n N k a K (o (inl refl))
closer n N false false k a K o = alone n N k a K (o (inl refl))
closer n N true false k a K o = across (k * 2 ^ a) (grid binary32 n 10) (n * 2 ^ 149) (alone n N 0 0 (omega arith)) (λ z. o (inr z))
closer n N false true k a K o = across (k * 2 ^ a) (grid binary32 n 10) (n * 2 ^ 149) (alone n N 0 0 (omega arith)) (λ z. o (inr z))
