-- A raw number as 64 bits: the lowest of them carry it in a signal, and a sum tells whether it fits. Assumes nothing.
use Rattle.std.proofs.Common.{◌≡◌, ℕ, suc, ◌+◌, ◌-◌, ◌*◌, ◌/◌, ◌%◌, ◌^◌, ◌<◌, ◌≤◌, min, Bool, true, false, cond, eqb, ltb, leb, ◌⊎◌, ℤ, pos, negsuc, sym, refl, ap, ◌∙◌, inl, inr, lt_of_lt_of_le, add-zero, mod-eq_of_lt, one-mul, zero-mul, arith, pow_pos, pow_mono, ltb-true, le-ltb, lt-ltb, eq-eqb, le-leb}
use native.Mathlib.Nat.{mul-add-mod_self_right, div-eq_of_lt}
use lib.Pow.{ones_split}
use lib.Signed.{mag}
use mir.Val.{bool_byte}
use borrow.Author.Tests.{lt-leb}
use Rattle.signal.specs.Twos.{of_signed}
use Rattle.signal.specs.Raw.{fits_in, bits_in}
use Rattle.signal.proofs.Complement.{halves, half_of}
use Rattle.signal.proofs.Masks.{ones_shr}
use Rattle.page_read.specs.page_table.specs.Table.{takes}

-- ---- the lowest bits

-- the w lowest of 64 bits that are m below all ones
pub low_below : (w m : ℕ) → w ≤ 64 → m < 2 ^ w → (2 ^ 64 - suc m) % 2 ^ w ≡ 2 ^ w - suc m
low_below w m h l =
    let whole : 64 - w + w ≡ 64 = omega arith in
    let s : 2 ^ 64 - 1 ≡ (2 ^ (64 - w) - 1) * 2 ^ w + (2 ^ w - 1) = ap (λ (x : ℕ). 2 ^ x - 1) (sym whole) ∙ ones_split (64 - w) w in
    let e : 2 ^ 64 - suc m ≡ (2 ^ (64 - w) - 1) * 2 ^ w + (2 ^ w - suc m) = omega arith in
    ap (λ (x : ℕ). x % 2 ^ w) e
    ∙ mul-add-mod_self_right (2 ^ (64 - w) - 1) (2 ^ w) (2 ^ w - suc m)
    ∙ mod-eq_of_lt (omega arith)

pub low_word : (sgn : Bool) (w : ℕ) → 1 ≤ w → w ≤ 63 → (z : ℤ) → fits_in sgn w z ≡ true → of_signed 64 z % 2 ^ w ≡ bits_in sgn w z
unfolding of_signed
low_word true w o h (pos n) t = mod-eq_of_lt (omega (arith, halves w o, ltb-true n (2 ^ (w - 1)) t))
low_word true w o h (negsuc n) t = low_below w n (omega arith) (omega (arith, halves w o, ltb-true n (2 ^ (w - 1)) t))
low_word false w o h (pos n) t = mod-eq_of_lt (ltb-true n (2 ^ w) t)
low_word false w o h (negsuc n) t = absurd (let z : ◌≡◌ {A = ℕ} 0 1 = cc in omega arith)

-- ---- whether it fits

over : (d : ℕ) → d < 2 ^ 64 → (1 * 2 ^ 64 + d) % 2 ^ 64 ≡ d
over d l = mul-add-mod_self_right 1 (2 ^ 64) d ∙ mod-eq_of_lt l

-- how far a signal's numbers go below 0
pub below : (sgn : Bool) (w m : ℕ) → 1 ≤ w → m ≡ 2 ^ w - 1 → bool_byte sgn * (m / 2 + 1) ≡ cond sgn (2 ^ (w - 1)) 0
below true w m o e = one-mul (m / 2 + 1) ∙ omega (arith, halves w o, pow_pos (w - 1))
below false w m o e = zero-mul (m / 2 + 1)

pub below_fits : (sgn : Bool) (w : ℕ) → w ≤ 63 → cond sgn (2 ^ (w - 1)) 0 < 2 ^ 64
below_fits true w h = let l : 2 ^ (w - 1) ≤ 2 ^ 63 = pow_mono {j = 63} (omega arith) in omega arith
below_fits false w h = omega arith

-- a sum that is at most all ones of w bits, and one that is not
module _ (w : ℕ) (s m : ℕ) (e : s % 2 ^ 64 ≡ m) where
  pub sum_in : m < 2 ^ w → leb (s % 2 ^ 64) (2 ^ w - 1) ≡ true
  sum_in l = rw e (le-leb m (2 ^ w - 1) (omega arith))

  pub sum_out : 2 ^ w ≤ m → leb (s % 2 ^ 64) (2 ^ w - 1) ≡ false
  sum_out l = rw e (lt-leb m (2 ^ w - 1) (omega (arith, pow_pos w)))

pub fits_sum : (sgn : Bool) (w : ℕ) → 1 ≤ w → w ≤ 63 → (z : ℤ) → mag z < 2 ^ 63
    → leb ((of_signed 64 z + cond sgn (2 ^ (w - 1)) 0) % 2 ^ 64) (2 ^ w - 1) ≡ fits_in sgn w z
unfolding of_signed
fits_sum true w o h (pos n) b = go (half_of (2 ^ (w - 1)) n)
  where
    two : 2 ^ w ≡ 2 ^ (w - 1) + 2 ^ (w - 1)
    two = halves w o

    most : 2 ^ w ≤ 2 ^ 63
    most = pow_mono {j = 63} h

    sum : (n + 2 ^ (w - 1)) % 2 ^ 64 ≡ n + 2 ^ (w - 1)
    sum = mod-eq_of_lt (omega (arith, two, most))

    go : (n < 2 ^ (w - 1)) ⊎ (2 ^ (w - 1) ≤ n) → leb ((n + 2 ^ (w - 1)) % 2 ^ 64) (2 ^ w - 1) ≡ ltb n (2 ^ (w - 1))
    go (inl l) = sum_in w (n + 2 ^ (w - 1)) (n + 2 ^ (w - 1)) sum (omega (arith, two, most)) ∙ sym (lt-ltb n (2 ^ (w - 1)) l)
    go (inr l) = sum_out w (n + 2 ^ (w - 1)) (n + 2 ^ (w - 1)) sum (omega (arith, two, most)) ∙ sym (le-ltb n (2 ^ (w - 1)) l)
fits_sum true w o h (negsuc n) b = go (half_of (2 ^ (w - 1)) n)
  where
    two : 2 ^ w ≡ 2 ^ (w - 1) + 2 ^ (w - 1)
    two = halves w o

    most : 2 ^ w ≤ 2 ^ 63
    most = pow_mono {j = 63} h

    go : (n < 2 ^ (w - 1)) ⊎ (2 ^ (w - 1) ≤ n) → leb ((2 ^ 64 - suc n + 2 ^ (w - 1)) % 2 ^ 64) (2 ^ w - 1) ≡ ltb n (2 ^ (w - 1))
    go (inl l) =
        let d = 2 ^ (w - 1) - suc n in
        let s : 2 ^ 64 - suc n + 2 ^ (w - 1) ≡ 1 * 2 ^ 64 + d = omega (arith, two, most) in
        sum_in w (2 ^ 64 - suc n + 2 ^ (w - 1)) d (ap (λ (x : ℕ). x % 2 ^ 64) s ∙ over d (omega (arith, two, most))) (omega (arith, two, most))
        ∙ sym (lt-ltb n (2 ^ (w - 1)) l)
    go (inr l) =
        let s = 2 ^ 64 - suc n + 2 ^ (w - 1) in
        sum_out w s s (mod-eq_of_lt (omega (arith, two, most))) (omega (arith, two, most)) ∙ sym (le-ltb n (2 ^ (w - 1)) l)
fits_sum false w o h (pos n) b = go (half_of (2 ^ w) n)
  where
    sum : (n + 0) % 2 ^ 64 ≡ n
    sum = mod-eq_of_lt (omega arith) ∙ add-zero n

    go : (n < 2 ^ w) ⊎ (2 ^ w ≤ n) → leb ((n + 0) % 2 ^ 64) (2 ^ w - 1) ≡ ltb n (2 ^ w)
    go (inl l) = sum_in w (n + 0) n sum l ∙ sym (lt-ltb n (2 ^ w) l)
    go (inr l) = sum_out w (n + 0) n sum l ∙ sym (le-ltb n (2 ^ w) l)
fits_sum false w o h (negsuc n) b =
    let most : 2 ^ w ≤ 2 ^ 63 = pow_mono {j = 63} h in
    let s = 2 ^ 64 - suc n + 0 in
    sum_out w s s (mod-eq_of_lt (omega arith)) (omega arith)

-- ---- labels

-- any bit of all ones
ones_odd : (k : ℕ) → k ≤ 63 → (2 ^ 64 - 1) / 2 ^ k % 2 ≡ 1
ones_odd k h =
    let back : 64 - (64 - k) ≡ k = omega arith in
    let two : 2 ^ (64 - k) ≡ 2 ^ (64 - k - 1) + 2 ^ (64 - k - 1) = halves (64 - k) (omega arith) in
    let p : 0 < 2 ^ (64 - k - 1) = pow_pos (64 - k - 1) in
    ap (λ (x : ℕ). (2 ^ 64 - 1) / 2 ^ x % 2) (sym back)
    ∙ ap (λ (x : ℕ). x % 2) (ones_shr (64 - k) (omega arith))
    ∙ omega arith

-- a label of `labels`, or any of all ones where there are none, with 63 for every number from there on
pub label_test : (labels v : ℕ) → labels < 2 ^ 63 → eqb (cond (eqb labels 0) (2 ^ 64 - 1) labels / 2 ^ min v 63 % 2) 1 ≡ takes labels v
label_test labels v h = go (eqb labels 0) refl
  where
    same : (v < 63) ⊎ (63 ≤ v) → labels / 2 ^ min v 63 ≡ labels / 2 ^ v
    same (inl l) = let e : min v 63 ≡ v = omega arith in ap (λ (x : ℕ). labels / 2 ^ x) e
    same (inr l) =
        let e : min v 63 ≡ 63 = omega arith in
        ap (λ (x : ℕ). labels / 2 ^ x) e ∙ div-eq_of_lt h ∙ sym (div-eq_of_lt (lt_of_lt_of_le h (pow_mono l)))

    go : (b : Bool) → eqb labels 0 ≡ b → eqb (cond (eqb labels 0) (2 ^ 64 - 1) labels / 2 ^ min v 63 % 2) 1 ≡ takes labels v
    go true e = rw e (eq-eqb ((2 ^ 64 - 1) / 2 ^ min v 63 % 2) 1 (ones_odd (min v 63) (omega arith)))
    go false e = rw (e, same (half_of 63 v))
