-- The laws of raw numbers, once over signedness and width: a number that fits is read back, bits are those of their number,
-- and what `fits`, `bits` and `whole` answer within their range. Assumes nothing.
use mathlib.Core.Path.{◌≡◌, refl}
use mathlib.Core.Bool.{Bool, true, false, ◌&&◌, or-true}
use Prim.Native.Nat.{ℕ, ◌-◌, ◌^◌, ◌≤◌, ◌<◌}
use native.Mathlib.Nat.{lt_of_lt_of_le}
use native.Mathlib.Omega.{arith}
use Rattle.std.proofs.lemmas.Bool.Decides.{nat_tests}
use lib.IntN.{ℤ, pos, negsuc}
use lib.Signed.{mag}
use lib.Pow.{pow_mono}
use borrow.Author.Tests.{lt-ltb, ltb-true}
use Rattle.signal.specs.Twos.{to_signed}
use Rattle.signal.specs.Raw.{fits_in, bits_in, value_in, is_width, fits_of, bits_of, whole_of}
use Rattle.signal.proofs.Complement.{to_of, of_to, of_lt, to_in}

-- ---- a number and its bits

-- a number that fits is read back
pub value_bits : (sgn : Bool) (w : ℕ) → 1 ≤ w → (z : ℤ) → fits_in sgn w z ≡ true → value_in sgn w (bits_in sgn w z) ≡ z
value_bits true w o z e = to_of w o z (ltb-true (mag z) (2 ^ (w - 1)) e)
value_bits false w o (pos n) e = refl
value_bits false w o (negsuc n) e = absurd (let z : ◌≡◌ {A = ℕ} 0 1 = cc in omega arith)

-- bits are those of their number, which fits
pub bits_value : (sgn : Bool) (w : ℕ) → 1 ≤ w → (v : ℕ) → v < 2 ^ w → bits_in sgn w (value_in sgn w v) ≡ v
bits_value true w o v h = of_to w o v h
bits_value false w o v h = refl

pub value_fits : (sgn : Bool) (w : ℕ) → 1 ≤ w → (v : ℕ) → v < 2 ^ w → fits_in sgn w (value_in sgn w v) ≡ true
value_fits true w o v h = lt-ltb (mag (to_signed w v)) (2 ^ (w - 1)) (to_in w o v h)
value_fits false w o v h = lt-ltb v (2 ^ w) h

-- the bits are w
pub bits_lt : (sgn : Bool) (w : ℕ) → 1 ≤ w → (z : ℤ) → fits_in sgn w z ≡ true → bits_in sgn w z < 2 ^ w
bits_lt true w o z e = of_lt w o z (ltb-true (mag z) (2 ^ (w - 1)) e)
bits_lt false w o (pos n) e = ltb-true n (2 ^ w) e
bits_lt false w o (negsuc n) e = absurd (let z : ◌≡◌ {A = ℕ} 0 1 = cc in omega arith)

-- two tests that both hold
pub both : (a b : Bool) → a && b ≡ true → (a ≡ true) × (b ≡ true)
both true b e = (refl, e)
both false b e = absurd (let z : ◌≡◌ {A = ℕ} 0 1 = cc in omega arith)

-- ---- the answers within their range

pub is_width_lem : (w : ℕ) → 1 ≤ w → w ≤ 64 → is_width w ≡ true
is_width_lem w o h = grind (arith, nat_tests)

pub fits_in_lem : (sgn : Bool) (w : ℕ) (z : ℤ) → 1 ≤ w → w ≤ 64 → fits_of sgn w z ≡ fits_in sgn w z
unfolding fits_of
fits_in_lem sgn w z o h = rw (is_width_lem w o h)

pub bits_in_lem : (sgn : Bool) (w : ℕ) (z : ℤ) → 1 ≤ w → w ≤ 64 → fits_in sgn w z ≡ true → bits_of sgn w z ≡ bits_in sgn w z
unfolding bits_of
bits_in_lem sgn w z o h e = rw (fits_in_lem sgn w z o h, e)

pub whole_in : (sgn : Bool) (w v : ℕ) → 1 ≤ w → w ≤ 63 → v < 2 ^ w → whole_of sgn w v ≡ value_in sgn w v
unfolding whole_of
whole_in sgn w v o h l =
    let k : v < 2 ^ 63 = lt_of_lt_of_le l (pow_mono {j = 63} h) in
    let i : is_width w ≡ true = is_width_lem w o (omega arith) in
    rw (i, lt-ltb v (2 ^ w) l, lt-ltb v (2 ^ 63) k, or-true sgn)
