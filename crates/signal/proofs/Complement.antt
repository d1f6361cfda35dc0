-- The laws of two's complement in w bits, and what a shift tells that leaves nothing.
-- Assumes nothing.
use mathlib.Core.Path.{◌≡◌, refl, sym, ap, ◌∙◌, subst}
use mathlib.Core.Bool.{Bool, true, false, cond}
use mathlib.Core.Logic.{◌⊎◌, inl, inr}
use Prim.Native.Nat.{ℕ, suc, ◌+◌, ◌-◌, ◌/◌, ◌^◌, ◌≤◌, ◌<◌}
use native.Mathlib.Nat.{two-pow-succ, div-lt_iff_lt-mul, div-eq_of_lt, one-mul}
use native.Mathlib.Omega.{arith}
use lib.IntN.{ℤ, pos, negsuc, sub_ℕ}
use lib.Signed.{mag}
use lib.Dec.{eqb, ltb}
use lib.Pow.{pow_pos}
use borrow.Author.Tests.{lt-ltb, le-ltb, ltb-true, ltb-false, eq-eqb, ne_eqb}
use Rattle.signal.specs.Twos.{to_signed, of_signed, InSigned}

pub halves : (w : ℕ) → 1 ≤ w → 2 ^ w ≡ 2 ^ (w - 1) + 2 ^ (w - 1)
halves w h =
    let e : w ≡ suc (w - 1) = omega arith in
    ap (λ (x : ℕ). 2 ^ x) e ∙ two-pow-succ (w - 1)

pub signed_low : (w v : ℕ) → v < 2 ^ (w - 1) → to_signed w v ≡ pos v
unfolding to_signed
signed_low w v h = ap (λ (b : Bool). cond b (pos v) (sub_ℕ v (2 ^ w))) (lt-ltb v (2 ^ (w - 1)) h)

pub signed_high : (w v : ℕ) → 2 ^ (w - 1) ≤ v → v < 2 ^ w → to_signed w v ≡ negsuc (2 ^ w - suc v)
unfolding to_signed
signed_high w v h l =
    ap (λ (b : Bool). cond b (pos v) (sub_ℕ v (2 ^ w))) (le-ltb v (2 ^ (w - 1)) h)
    ∙ ap (λ (b : Bool). cond b (negsuc (2 ^ w - suc v)) (pos (v - 2 ^ w))) (lt-ltb v (2 ^ w) l)

-- which half
pub half_of : (m v : ℕ) → (v < m) ⊎ (m ≤ v)
half_of m v = go (ltb v m) refl
  where
    go : (b : Bool) → ltb v m ≡ b → (v < m) ⊎ (m ≤ v)
    go true e = inl (ltb-true v m e)
    go false e = inr (ltb-false v m e)

-- ---- the laws

-- the number of a number's bits is the number
pub to_of : (w : ℕ) → 1 ≤ w → (z : ℤ) → InSigned w z → to_signed w (of_signed w z) ≡ z
unfolding of_signed
to_of w o (pos n) h = signed_low w n h
to_of w o (negsuc n) h =
    let e : 2 ^ w ≡ 2 ^ (w - 1) + 2 ^ (w - 1) = halves w o in
    let p : 0 < 2 ^ (w - 1) = pow_pos (w - 1) in
    let back : 2 ^ w - suc (2 ^ w - suc n) ≡ n = omega arith in
    signed_high w (2 ^ w - suc n) (omega arith) (omega arith) ∙ ap negsuc back

-- the bits of the number that v stands for are v
pub of_to : (w : ℕ) → 1 ≤ w → (v : ℕ) → v < 2 ^ w → of_signed w (to_signed w v) ≡ v
unfolding of_signed
of_to w o v h = go (half_of (2 ^ (w - 1)) v)
  where
    go : (v < 2 ^ (w - 1)) ⊎ (2 ^ (w - 1) ≤ v) → of_signed w (to_signed w v) ≡ v
    go (inl l) = ap (of_signed w) (signed_low w v l)
    go (inr l) =
        let back : 2 ^ w - suc (2 ^ w - suc v) ≡ v = omega arith in
        ap (of_signed w) (signed_high w v l h) ∙ back

-- the bits are w
pub of_lt : (w : ℕ) → 1 ≤ w → (z : ℤ) → InSigned w z → of_signed w z < 2 ^ w
unfolding of_signed
of_lt w o (pos n) h = omega (arith, halves w o)
of_lt w o (negsuc n) h = omega (arith, pow_pos w)

-- the number is in range
pub to_in : (w : ℕ) → 1 ≤ w → (v : ℕ) → v < 2 ^ w → InSigned w (to_signed w v)
to_in w o v h = go (half_of (2 ^ (w - 1)) v)
  where
    go : (v < 2 ^ (w - 1)) ⊎ (2 ^ (w - 1) ≤ v) → InSigned w (to_signed w v)
    go (inl l) = subst (λ (z : ℤ). mag z < 2 ^ (w - 1)) (sym (signed_low w v l)) l
    go (inr l) =
        let k : 2 ^ w - suc v < 2 ^ (w - 1) = omega (arith, halves w o) in
        subst (λ (z : ℤ). mag z < 2 ^ (w - 1)) (sym (signed_high w v l h)) k

-- ---- the code

-- a shift that leaves nothing
pub shr_zero_lt : (v k : ℕ) → v / 2 ^ k ≡ 0 → v < 2 ^ k
shr_zero_lt v k e =
    subst (λ (x : ℕ). v < x) (one-mul (2 ^ k)) ((div-lt_iff_lt-mul {k = 2 ^ k} {x = v} {y = 1} (pow_pos k)).0 (omega arith))

-- the test whether it leaves nothing
pub shr_test : (v k : ℕ) → eqb (v / 2 ^ k) 0 ≡ ltb v (2 ^ k)
shr_test v k = go (half_of (2 ^ k) v)
  where
    go : (v < 2 ^ k) ⊎ (2 ^ k ≤ v) → eqb (v / 2 ^ k) 0 ≡ ltb v (2 ^ k)
    go (inl l) = eq-eqb (v / 2 ^ k) 0 (div-eq_of_lt l) ∙ sym (lt-ltb v (2 ^ k) l)
    go (inr l) = ne_eqb (v / 2 ^ k) 0 (λ e. let h : v < 2 ^ k = shr_zero_lt v k e in omega arith) ∙ sym (le-ltb v (2 ^ k) l)
