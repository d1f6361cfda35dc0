-- Each form of field: a value whose raw number fits its signal is the value of that number, and a signal's number is the raw number of its value.
-- Assumes nothing.
use mathlib.Core.Path.{◌≡◌, refl, ap, ◌∙◌}
use mathlib.Core.Bool.{Bool, true, false, cond}
use mathlib.Core.Logic.{◌⊎◌, inl, inr}
use Prim.Native.Nat.{ℕ, zero, suc, ◌+◌, ◌-◌, ◌*◌, ◌/◌, ◌%◌, ◌^◌, ◌≤◌, ◌<◌}
use native.Mathlib.Nat.{mod-eq_of_lt, lt_of_lt_of_le}
use native.Mathlib.Omega.{arith}
use lib.Dec.{T, leb, lit≤}
use lib.IntN.{ℤ, pos, negsuc, sub_ℕ}
use lib.Pow.{pow_mono}
use lib.Signed.{mag}
use borrow.Author.Tests.{lt-ltb, le-ltb, ltb-true, eq-eqb, eqb-true}
use Rattle.signal.specs.Raw.{fits_in}
use Rattle.signal.proofs.Complement.{half_of}
use Rattle.message_fields.specs.Fields.{natural_of, byte_of, word_of, short_of, duty_of, celsius_of, celsius_raw, kilohms_of, has_kilohms, kilohms_raw, flag_of, flag_raw}

-- a form of field in a signal of w bits, signed or not: values and raw numbers that fit are each other's
pub record Field {A : Type 0} (raw : A → ℤ) (of : ℤ → A) (sgn : Bool) (w : ℕ) : Type 0 where
  pub there : (v : A) → fits_in sgn w (raw v) ≡ true → of (raw v) ≡ v
  pub back : (z : ℤ) → fits_in sgn w z ≡ true → raw (of z) ≡ z

-- what fits an unsigned signal of w bits is a natural number below 2 ^ w
unsigned : (w : ℕ) (P : ℤ → Type 0) → ((x : ℕ) → x < 2 ^ w → P (pos x)) → (z : ℤ) → fits_in false w z ≡ true → P z
unsigned w P f (pos x) e = f x (ltb-true x (2 ^ w) e)
unsigned w P f (negsuc x) e = absurd (let z : ◌≡◌ {A = ℕ} 0 1 = cc in omega arith)

-- a field of v bits, over a signal that has no more
natural : (v w : ℕ) → w ≤ v → Field pos (λ z. natural_of z % 2 ^ v) false w
natural v w h =
    record {
      there = λ x e. low x (ltb-true x (2 ^ w) e);
      back = unsigned w (λ (z : ℤ). pos (natural_of z % 2 ^ v) ≡ z) (λ x l. ap pos (low x l));
    }
  where
    low : (x : ℕ) → x < 2 ^ w → x % 2 ^ v ≡ x
    low x l = mod-eq_of_lt (lt_of_lt_of_le l (pow_mono {j = v} h))

pub bytes : Field pos byte_of false 8
bytes = natural 8 8 (omega arith)

pub words : (w : ℕ) → T (leb w 16) → Field pos word_of false w
words w t = natural 16 w (lit≤ t)

pub duties : Field pos duty_of false 10
duties = words 10 tt

pub shorts : (w : ℕ) → T (leb w 16) → Field (λ z. z) short_of true w
shorts w t = record { there = same; back = same }
  where
    same : (z : ℤ) → fits_in true w z ≡ true → short_of z ≡ z
    same z e =
        let l : w ≤ 16 = lit≤ t in
        let h : mag z < 2 ^ 15 = lt_of_lt_of_le (ltb-true (mag z) (2 ^ (w - 1)) e) (pow_mono {j = 15} (omega arith)) in
        ap (λ (b : Bool). cond b z (pos 0)) (lt-ltb (mag z) (2 ^ 15) h)

-- ---- degrees

-- a difference, by its sign
sub_low : (a b : ℕ) → a < b → sub_ℕ a b ≡ negsuc (b - suc a)
sub_low a b h = ap (λ (t : Bool). cond t (negsuc (b - suc a)) (pos (a - b))) (lt-ltb a b h)

sub_high : (a b : ℕ) → b ≤ a → sub_ℕ a b ≡ pos (a - b)
sub_high a b h = ap (λ (t : Bool). cond t (negsuc (b - suc a)) (pos (a - b))) (le-ltb a b h)

celsius_there : (t : ℤ) → fits_in false 8 (celsius_raw t) ≡ true → celsius_of (celsius_raw t) ≡ t
celsius_there (pos n) e =
    let h : n + 40 < 256 = ltb-true (n + 40) 256 e in
    let m : (n + 40) % 256 ≡ n + 40 = omega arith in
    let d : n + 40 - 40 ≡ n = omega arith in
    ap (λ (x : ℕ). sub_ℕ x 40) m ∙ sub_high (n + 40) 40 (omega arith) ∙ ap pos d
celsius_there (negsuc n) e = go (half_of 40 n)
  where
    go : (n < 40) ⊎ (40 ≤ n) → celsius_of (celsius_raw (negsuc n)) ≡ negsuc n
    go (inl l) =
        let m : (40 - suc n) % 256 ≡ 40 - suc n = omega arith in
        let d : 40 - suc (40 - suc n) ≡ n = omega arith in
        ap celsius_of (sub_high 40 (suc n) l) ∙ ap (λ (x : ℕ). sub_ℕ x 40) m ∙ sub_low (40 - suc n) 40 (omega arith) ∙ ap negsuc d
    go (inr l) =
        let f : fits_in false 8 (negsuc (suc n - suc 40)) ≡ true = rw (sub_low 40 (suc n) (omega arith)) at e in
        absurd (let z : ◌≡◌ {A = ℕ} 0 1 = cc in omega arith)

celsius_back : (x : ℕ) → x < 256 → celsius_raw (celsius_of (pos x)) ≡ pos x
celsius_back x h = go (half_of 40 x)
  where
    m : x % 256 ≡ x
    m = omega arith

    go : (x < 40) ⊎ (40 ≤ x) → celsius_raw (celsius_of (pos x)) ≡ pos x
    go (inl l) =
        let d : 40 - suc (40 - suc x) ≡ x = omega arith in
        ap (λ (y : ℕ). celsius_raw (sub_ℕ y 40)) m ∙ ap celsius_raw (sub_low x 40 l) ∙ sub_high 40 (suc (40 - suc x)) (omega arith) ∙ ap pos d
    go (inr l) =
        let d : x - 40 + 40 ≡ x = omega arith in
        ap (λ (y : ℕ). celsius_raw (sub_ℕ y 40)) m ∙ ap celsius_raw (sub_high x 40 l) ∙ ap pos d

pub degrees : Field celsius_raw celsius_of false 8
degrees = record { there = celsius_there; back = unsigned 8 (λ (z : ℤ). celsius_raw (celsius_of z) ≡ z) celsius_back }

-- ---- kOhm: only an even number of them has a raw number

pub kilohms_there : (x : ℕ) → has_kilohms x ≡ true → fits_in false 8 (kilohms_raw x) ≡ true → kilohms_of (kilohms_raw x) ≡ x
kilohms_there x e f =
    let h : x / 2 < 256 = ltb-true (x / 2) 256 f in
    let z : x % 2 ≡ 0 = eqb-true (x % 2) 0 e in
    omega arith

pub kilohms_back : (z : ℤ) → fits_in false 8 z ≡ true → kilohms_raw (kilohms_of z) ≡ z
kilohms_back = unsigned 8 (λ (z : ℤ). kilohms_raw (kilohms_of z) ≡ z) (λ x h. ap pos (let e : x % 256 * 2 / 2 ≡ x = omega arith in e))

pub kilohms_even : (z : ℤ) → has_kilohms (kilohms_of z) ≡ true
kilohms_even z = eq-eqb (kilohms_of z % 2) 0 (omega arith)

-- ---- flags

flag_there : (b : Bool) → flag_of (flag_raw b) ≡ b
flag_there true = refl
flag_there false = refl

flag_back : (x : ℕ) → x < 2 → flag_raw (flag_of (pos x)) ≡ pos x
flag_back zero h = refl
flag_back (suc zero) h = refl
flag_back (suc (suc x)) h = absurd (omega arith)

pub flags : Field flag_raw flag_of false 1
flags = record { there = λ b e. flag_there b; back = unsigned 1 (λ (z : ℤ). flag_raw (flag_of z) ≡ z) flag_back }
