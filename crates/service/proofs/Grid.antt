-- In units of the smallest f32, 2 ^ -149: of all m * 2 ^ a with m of 24 digits, as every f32 is, the rounded one (`grid`) is nearest to n / 10,
-- and alone in that. Assumes nothing.
use mathlib.Core.Path.{◌≡◌, sym, ap, ◌∙◌}
use mathlib.Core.Bool.{Bool, true, false, not}
use Prim.Native.Nat.{ℕ, suc, ◌+◌, ◌-◌, ◌*◌, ◌/◌, ◌%◌, ◌^◌, ◌≤◌, ◌<◌}
use native.Mathlib.Nat.{le_trans, le_of_eq, lt_of_le_of_lt, lt_of_lt_of_le, mul-pos, mul_assoc, mul_comm, pow-succ', add-mul, mul-lt-mul_of_pos_right, eq_of_mul-eq-mul_right, zero-mul, div-le_self, div-add-mod', le-div_iff_mul-le, zero-lt-suc}
use native.Mathlib.Omega.{arith}
use lib.Dec.{T, leb, leb→le, nleb→lt, lit≤}
use lib.Pow.{pow-add, pow_pos, pow_mono, shl_lt}
use lib.Ieee.{binary32, size}
use lib.Ieee.Digits.{size-le, size_reaches, back}
use lib.Ieee.Nearest.{closest}
use lib.Ieee.Order.{drop}
use lib.Ieee.Scale.{grid}
use Rattle.service.specs.Nearness.{gap}
use Rattle.service.proofs.Closest.{closest_alone, closest_near}

tens : (c t : ℕ) → c * (10 * t) ≡ c * t * 10
tens c t = ap (λ (v : ℕ). c * v) (mul_comm 10 t) ∙ sym (mul_assoc c t 10)

-- five times an odd number is not even
odd_even : (p q t r : ℕ) → 0 < t → q * (10 * t) + r ≡ p * 2 * t → r * 2 ≡ 10 * t → ⊥
odd_even p q t r h e f =
    let x : (q * 10 + 5) * t ≡ p * 2 * t =
    add-mul (q * 10) 5 t ∙ ap (λ (v : ℕ). v + 5 * t) (mul_assoc q 10 t) ∙ ap (λ (v : ℕ). q * (10 * t) + v) (half r t f) ∙ e in
    parity p q (eq_of_mul-eq-mul_right t h (q * 10 + 5) (p * 2) x)
  where
    half : (r t : ℕ) → r * 2 ≡ 10 * t → 5 * t ≡ r
    half r t f = omega arith

    parity : (p q : ℕ) → q * 10 + 5 ≡ p * 2 → ⊥
    parity p q x = omega arith

halves : (n k : ℕ) → k ≤ 148 → n * 2 ^ 149 ≡ n * 2 ^ (148 - k) * 2 * 2 ^ k
halves n k h =
    ap (λ (v : ℕ). n * v) (ap (λ (v : ℕ). 2 ^ v) (sum k h) ∙ pow-add 2 (148 - k) (suc k) ∙ ap (λ (v : ℕ). 2 ^ (148 - k) * v) (pow-succ' 2 k))
    ∙ sym (mul_assoc n (2 ^ (148 - k)) (2 * 2 ^ k))
    ∙ sym (mul_assoc (n * 2 ^ (148 - k)) 2 (2 ^ k))
  where
    sum : (k : ℕ) → k ≤ 148 → 149 ≡ 148 - k + suc k
    sum k h = omega arith

pub over_power : (m a k : ℕ) → k ≤ a → m * 2 ^ (a - k) * 2 ^ k ≡ m * 2 ^ a
over_power m a k h = mul_assoc m (2 ^ (a - k)) (2 ^ k) ∙ ap (λ (v : ℕ). m * v) (sym (pow-add 2 (a - k) k) ∙ ap (λ (v : ℕ). 2 ^ v) (back a k h))

-- v is below a, and a is not above b
below : (a b v : ℕ) → a ≤ b → v < a → gap a b < gap v b
below a b v h l = omega arith

module _ (n : ℕ) (N : n < 2 ^ 16) where
  -- n in units; how many digits the rounding drops of n / 10; and ten times the last digit that it keeps
  abbrev all : ℕ
  all = n * 2 ^ 149

  abbrev k : ℕ
  k = drop 24 all 10

  abbrev step : ℕ
  step = 10 * 2 ^ k

  few : k ≤ 148
  few = dropped (size (all / 10)) (size-le (all / 10) 165 (lt_of_le_of_lt (div-le_self all 10) (shl_lt 16 149 N)))
    where
      dropped : (z : ℕ) → z ≤ 165 → z - 24 ≤ 148
      dropped z h = omega arith

  -- no tie comes up: n / 10 is never halfway between two floats
  no_tie : all % step * 2 ≡ step → ⊥
  no_tie = odd_even (n * 2 ^ (148 - k)) (all / step) (2 ^ k) (all % step) (pow_pos k) (div-add-mod' all step ∙ parted)
    where
      parted : all ≡ n * 2 ^ (148 - k) * 2 * 2 ^ k
      parted = halves n k few

  step-pos : 0 < step
  step-pos = mul-pos (zero-lt-suc 9) (pow_pos k)

  pub alone : (m a : ℕ) → m < 2 ^ 24 → (m * 2 ^ a ≡ grid binary32 n 10 → ⊥) → gap (grid binary32 n 10 * 10) all < gap (m * 2 ^ a * 10) all
  alone m a M other = go (leb k a) (leb→le k a) (nleb→lt k a)
    where
      whole : (z a : ℕ) → a < z - 24 → 23 + (z - 24) < z
      whole z a h = omega arith

      room : (a k : ℕ) → a < k → 24 + a ≤ 23 + k
      room a k h = omega arith

      go : (b : Bool) → (T b → k ≤ a) → (T (not b) → a < k) → gap (grid binary32 n 10 * 10) all < gap (m * 2 ^ a * 10) all
      go true h g =
          let w = m * 2 ^ (a - k) in
          let e : w * 2 ^ k ≡ m * 2 ^ a = over_power m a k (h tt) in
          rw (sym (tens (closest all step) (2 ^ k)), sym e, sym (tens w (2 ^ k)))
          (closest_alone all step w step-pos no_tie (λ q. other (sym e ∙ ap (λ (v : ℕ). v * 2 ^ k) q)))
      go false h g =
          let p : 2 ^ (23 + k) * 10 ≡ 2 ^ 23 * step = ap (λ (v : ℕ). v * 10) (pow-add 2 23 k) ∙ sym (tens (2 ^ 23) (2 ^ k)) in
          let top : 2 ^ (23 + k) * 10 ≤ all = (le-div_iff_mul-le (zero-lt-suc 9)).0 (size_reaches (all / 10) (23 + k) (whole (size (all / 10)) a (g tt))) in
          let small : m * 2 ^ a < 2 ^ (23 + k) = lt_of_lt_of_le (shl_lt 24 a M) (pow_mono (room a k (g tt))) in
          rw (sym (tens (closest all step) (2 ^ k)))
          (lt_of_le_of_lt (closest_near all step (2 ^ 23) step-pos no_tie)
          (rw (sym p) (below (2 ^ (23 + k) * 10) all (m * 2 ^ a * 10) top (mul-lt-mul_of_pos_right small (zero-lt-suc 9)))))

  pub bounded : grid binary32 n 10 < 2 ^ 277
  bounded = lt_of_le_of_lt (under (grid binary32 n 10) all near) (lt_of_lt_of_le (shl_lt 16 149 N) (pow_mono {i = 165} {j = 277} (lit≤ tt)))
    where
      near : gap (grid binary32 n 10 * 10) all ≤ gap 0 all
      near = rw (sym (tens (closest all step) (2 ^ k))) (le_trans (closest_near all step 0 step-pos no_tie) (le_of_eq (ap (λ (v : ℕ). gap v all) (zero-mul step))))

      under : (x a : ℕ) → gap (x * 10) a ≤ gap 0 a → x ≤ a
      under x a g = omega arith
