-- The laws of a signal's getting and putting, once over start and width.
-- Assumes nothing.
use mathlib.Core.Path.{◌≡◌, sym, ap, ap₂, ◌∙◌, subst}
use mathlib.Core.Bool.{Bool, true, false, cond, ◌&&◌}
use mathlib.Core.Logic.{◌⊎◌, inl, inr}
use Prim.Native.Nat.{ℕ, zero, suc, ◌+◌, ◌-◌, ◌*◌, ◌/◌, ◌%◌, ◌^◌, ◌≤◌, ◌<◌}
use native.Mathlib.Nat.{mod-lt, mul_comm, mul_assoc, add-mul, sub-add_cancel, add-sub_of_le, lt_of_lt_of_le, zero-div, zero-mod, div-eq_of_lt}
use native.Mathlib.Numerals.{one-add}
use native.Mathlib.Omega.{arith}
use lib.Arith.{digits_lt, lt-one}
use lib.Dec.{leb, ltb}
use lib.Pow.{pow_pos, pow-add, pow_mono, shr-shr, shr_lt, split, high, low, field, mod-mod-pow, recompose}
use borrow.Author.Tests.{lt-ltb, le-ltb, le-leb, lt-leb, leb-true, ltb-true}
use Rattle.signal.specs.Signal.{get_bits, put_bits, covers}
use Rattle.signal.proofs.Complement.{half_of}
use Rattle.signal.proofs.RawLaws.{both}

-- ---- what a getting looks at

pub get_lt : (n s w : ℕ) → get_bits n s w < 2 ^ w
unfolding get_bits
get_lt n s w = mod-lt (n / 2 ^ s) (pow_pos w)

-- a shorter remainder of a longer one
pub mod_le_pow : (n : ℕ) {k m : ℕ} → k ≤ m → n % 2 ^ m % 2 ^ k ≡ n % 2 ^ k
mod_le_pow n {k} {m} h = ap (λ (x : ℕ). n % 2 ^ x % 2 ^ k) (sym (sub-add_cancel h)) ∙ mod-mod-pow n (m - k) k

-- it does not look above its last bit
pub get_of_mod : (n m s w : ℕ) → s + w ≤ m → get_bits (n % 2 ^ m) s w ≡ get_bits n s w
unfolding get_bits
get_of_mod n m s w h =
    sym (field (n % 2 ^ m) w s) ∙ ap (λ (x : ℕ). x / 2 ^ s) (mod_le_pow n {k = w + s} (omega arith)) ∙ field n w s

-- nor below its first
pub get_of_div : (n k s w : ℕ) → get_bits (n / 2 ^ k) s w ≡ get_bits n (k + s) w
unfolding get_bits
get_of_div n k s w = ap (λ (x : ℕ). x % 2 ^ w) (shr-shr n k s)

-- a part of a part is a part of the whole
pub get_get : (n s w s' w' : ℕ) → s' + w' ≤ w → get_bits (get_bits n s w) s' w' ≡ get_bits n (s + s') w'
unfolding get_bits
get_get n s w s' w' h = get_of_mod (n / 2 ^ s) w s' w' h ∙ get_of_div n s s' w'

pub get_zero : (s w : ℕ) → get_bits 0 s w ≡ 0
unfolding get_bits
get_zero s w = ap (λ (x : ℕ). x % 2 ^ w) (zero-div (2 ^ s)) ∙ zero-mod (2 ^ w)

-- above a number's own bits stands 0
pub bit_out : (n k i : ℕ) → n < 2 ^ k → k ≤ i → get_bits n i 1 ≡ 0
unfolding get_bits
bit_out n k i h l = ap (λ (x : ℕ). x % 2 ^ 1) (div-eq_of_lt (lt_of_lt_of_le h (pow_mono l)))

-- ---- what a putting leaves

nested : (n s w v : ℕ) → put_bits n s w v ≡ (n / 2 ^ (s + w) * 2 ^ w + v) * 2 ^ s + n % 2 ^ s
unfolding put_bits
nested n s w v =
    ap (λ (x : ℕ). x + n % 2 ^ s)
    (ap (λ (p : ℕ). n / 2 ^ (s + w) * p + v * 2 ^ s) (pow-add 2 s w ∙ mul_comm (2 ^ s) (2 ^ w))
    ∙ ap (λ (x : ℕ). x + v * 2 ^ s) (sym (mul_assoc (n / 2 ^ (s + w)) (2 ^ w) (2 ^ s)))
    ∙ sym (add-mul (n / 2 ^ (s + w) * 2 ^ w) v (2 ^ s)))

pub put_shr : (n s w v : ℕ) → put_bits n s w v / 2 ^ s ≡ n / 2 ^ (s + w) * 2 ^ w + v
put_shr n s w v = ap (λ (x : ℕ). x / 2 ^ s) (nested n s w v) ∙ high (n / 2 ^ (s + w) * 2 ^ w + v) s (mod-lt n (pow_pos s))

-- what stands below
pub put_below : (n s w v : ℕ) → put_bits n s w v % 2 ^ s ≡ n % 2 ^ s
put_below n s w v = ap (λ (x : ℕ). x % 2 ^ s) (nested n s w v) ∙ low (n / 2 ^ (s + w) * 2 ^ w + v) s (mod-lt n (pow_pos s))

-- what stands above
pub put_above : (n s w v : ℕ) → v < 2 ^ w → put_bits n s w v / 2 ^ (s + w) ≡ n / 2 ^ (s + w)
put_above n s w v h = sym (shr-shr (put_bits n s w v) s w) ∙ ap (λ (x : ℕ). x / 2 ^ w) (put_shr n s w v) ∙ high (n / 2 ^ (s + w)) w h

-- ---- the laws

-- what was put is got
pub get_put : (n s w v : ℕ) → v < 2 ^ w → get_bits (put_bits n s w v) s w ≡ v
unfolding get_bits
get_put n s w v h = ap (λ (x : ℕ). x % 2 ^ w) (put_shr n s w v) ∙ low (n / 2 ^ (s + w)) w h

-- a part of what was put is a part of v
pub get_put_part : (n s w v s' w' : ℕ) → v < 2 ^ w → s' + w' ≤ w → get_bits (put_bits n s w v) (s + s') w' ≡ get_bits v s' w'
get_put_part n s w v s' w' hv h =
    sym (get_get (put_bits n s w v) s w s' w' h) ∙ ap (λ (x : ℕ). get_bits x s' w') (get_put n s w v hv)

-- two signals that share no bit
abbrev pub Apart : (s w s' w' : ℕ) → Type 0
Apart s w s' w' = (s' + w' ≤ s) ⊎ (s + w ≤ s')

-- any other signal keeps its number
pub get_put_apart : (n s w v s' w' : ℕ) → v < 2 ^ w → Apart s w s' w' → get_bits (put_bits n s w v) s' w' ≡ get_bits n s' w'
get_put_apart n s w v s' w' hv (inl h) =
    sym (get_of_mod (put_bits n s w v) s s' w' h) ∙ ap (λ (x : ℕ). get_bits x s' w') (put_below n s w v) ∙ get_of_mod n s s' w' h
get_put_apart n s w v s' w' hv (inr h) =
    ap (λ (x : ℕ). get_bits (put_bits n s w v) x w') (sym (add-sub_of_le h))
    ∙ sym (get_of_div (put_bits n s w v) (s + w) (s' - (s + w)) w')
    ∙ ap (λ (x : ℕ). get_bits x (s' - (s + w)) w') (put_above n s w v hv)
    ∙ get_of_div n (s + w) (s' - (s + w)) w'
    ∙ ap (λ (x : ℕ). get_bits n x w') (add-sub_of_le h)

-- what was got, put back, changes nothing
pub put_get : (n s w : ℕ) → put_bits n s w (get_bits n s w) ≡ n
unfolding get_bits
put_get n s w =
    nested n s w (n / 2 ^ s % 2 ^ w)
    ∙ ap (λ (x : ℕ). (x * 2 ^ w + n / 2 ^ s % 2 ^ w) * 2 ^ s + n % 2 ^ s) (sym (shr-shr n s w))
    ∙ ap (λ (x : ℕ). x * 2 ^ s + n % 2 ^ s) (split (n / 2 ^ s) w)
    ∙ split n s

-- the last put stands
pub put_put : (n s w u v : ℕ) → u < 2 ^ w → put_bits (put_bits n s w u) s w v ≡ put_bits n s w v
unfolding put_bits
put_put n s w u v h =
    ap₂ (λ (x y : ℕ). x * 2 ^ (s + w) + v * 2 ^ s + y) (put_above n s w u h) (put_below n s w u)

-- a number of k bits stays one
pub put_lt : (n s w v k : ℕ) → n < 2 ^ k → v < 2 ^ w → s + w ≤ k → put_bits n s w v < 2 ^ k
put_lt n s w v k hn hv h =
    let top : 2 ^ (k - (s + w)) * 2 ^ w * 2 ^ s ≡ 2 ^ k
    = mul_assoc (2 ^ (k - (s + w))) (2 ^ w) (2 ^ s) ∙ ap (λ (x : ℕ). 2 ^ (k - (s + w)) * x) (mul_comm (2 ^ w) (2 ^ s) ∙ sym (pow-add 2 s w))
    ∙ sym (pow-add 2 (k - (s + w)) (s + w)) ∙ ap (λ (x : ℕ). 2 ^ x) (sub-add_cancel h) in
    let hi : n / 2 ^ (s + w) < 2 ^ (k - (s + w))
    = shr_lt (k - (s + w)) (s + w) (subst (λ (x : ℕ). n < 2 ^ x) (sym (sub-add_cancel h)) hn) in
    subst (λ (x : ℕ). put_bits n s w v < x) top
    (subst (λ (x : ℕ). x < 2 ^ (k - (s + w)) * 2 ^ w * 2 ^ s) (sym (nested n s w v))
    (digits_lt (digits_lt hi hv) (mod-lt n (pow_pos s))))

-- two numbers of k bits that agree at each bit are equal
pub same_bits : (k a b : ℕ) → a < 2 ^ k → b < 2 ^ k → ((i : ℕ) → i < k → get_bits a i 1 ≡ get_bits b i 1) → a ≡ b
unfolding get_bits
same_bits zero a b ha hb e = lt-one ha ∙ sym (lt-one hb)
same_bits (suc k) a b ha hb e =
    let below : a % 2 ^ k ≡ b % 2 ^ k
    = same_bits k (a % 2 ^ k) (b % 2 ^ k) (mod-lt a (pow_pos k)) (mod-lt b (pow_pos k))
    (λ i h. get_of_mod a k i 1 (omega arith) ∙ e i (omega arith) ∙ sym (get_of_mod b k i 1 (omega arith))) in
    sym (recompose 1 k (subst (λ (x : ℕ). a < 2 ^ x) (sym (one-add k)) ha))
    ∙ ap₂ (λ (x y : ℕ). x * 2 ^ k + y) (e k (omega arith)) below
    ∙ recompose 1 k (subst (λ (x : ℕ). b < 2 ^ x) (sym (one-add k)) hb)

-- ---- bit by bit

-- a bit that is the signal's
pub covers_in : (s w i : ℕ) → covers s w i ≡ true → (s ≤ i) × (i < s + w)
covers_in s w i e =
    let p : (leb s i ≡ true) × (ltb i (s + w) ≡ true) = both (leb s i) (ltb i (s + w)) e in
    (leb-true s i p.0, ltb-true i (s + w) p.1)

-- the bit of a number with a signal put
pub bit_put : (n s w v i : ℕ) → v < 2 ^ w → get_bits (put_bits n s w v) i 1 ≡ cond (covers s w i) (get_bits v (i - s) 1) (get_bits n i 1)
bit_put n s w v i hv = from (half_of s i)
  where
    goal : Bool → Type 0
    goal b = get_bits (put_bits n s w v) i 1 ≡ cond b (get_bits v (i - s) 1) (get_bits n i 1)

    to : s ≤ i → (i < s + w) ⊎ (s + w ≤ i) → goal (covers s w i)
    to h (inl l) =
        let e : s + (i - s) ≡ i = omega arith in
        subst goal (sym (ap₂ (λ (x y : Bool). x && y) (le-leb s i h) (lt-ltb i (s + w) l)))
        (ap (λ (x : ℕ). get_bits (put_bits n s w v) x 1) (sym e)
        ∙ sym (get_get (put_bits n s w v) s w (i - s) 1 (omega arith))
        ∙ ap (λ (x : ℕ). get_bits x (i - s) 1) (get_put n s w v hv))
    to h (inr l) =
        subst goal (sym (ap₂ (λ (x y : Bool). x && y) (le-leb s i h) (le-ltb i (s + w) l)))
        (get_put_apart n s w v i 1 hv (inr l))

    from : (i < s) ⊎ (s ≤ i) → goal (covers s w i)
    from (inl l) =
        subst goal (sym (ap (λ (x : Bool). x && ltb i (s + w)) (lt-leb s i l)))
        (get_put_apart n s w v i 1 hv (inl (omega arith)))
    from (inr l) = to l (half_of (s + w) i)

-- a bit that is not the signal's stays
pub bit_kept : (n s w v i : ℕ) → v < 2 ^ w → covers s w i ≡ false → get_bits (put_bits n s w v) i 1 ≡ get_bits n i 1
bit_kept n s w v i hv e = bit_put n s w v i hv ∙ ap (λ (b : Bool). cond b (get_bits v (i - s) 1) (get_bits n i 1)) e
