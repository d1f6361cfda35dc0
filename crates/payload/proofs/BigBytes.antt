-- The laws of a payload's bytes and its number where byte 0 is highest, and a turn of `be_number` and of `be_store`.
-- Assumes nothing.
use mathlib.Core.Path.{◌≡◌, refl, sym, ap, ap₂, ◌∙◌, subst}
use mathlib.Core.List.{List, [], ◌∷◌, ◌++◌}
use Prim.Native.Nat.{ℕ, zero, suc, ◌+◌, ◌-◌, ◌*◌, ◌/◌, ◌%◌, ◌^◌, ◌≤◌, ◌<◌}
use native.Mathlib.Nat.{mul-suc, mul_comm, mul_assoc, mul-one, zero-mul, zero-add, add-zero, add-mul, add_assoc, add_comm, mod-lt, mod-eq_of_lt, zero-lt-suc}
use native.Mathlib.Omega.{arith}
use lib.Arith.{digits_lt, lt-one}
use lib.ListN.{length, get_or, take, drop, set, length-drop}
use lib.Seq.{drop-cons, drop-length, take-suc, set_at, append_snoc, length-take-le}
use lib.Bits.{bit_or, or_shifted}
use lib.Pow.{pow_pos, shl_exact, mod-pow-add, low, high}
use Rattle.signal.specs.Signal.{get_bits}
use Rattle.payload.specs.Payload.{be_number, be_bytes, Bytes}
use Rattle.signal.proofs.Laws.{get_of_mod}
use Rattle.payload.proofs.Bytes.{pow8}

pub be_lt : (bs : List ℕ) → Bytes bs → be_number bs < 2 ^ (8 * length bs)
unfolding be_number
be_lt [] h = zero-lt-suc 0
be_lt (b ∷ bs) h =
    subst (λ (x : ℕ). b * 2 ^ (8 * length bs) + be_number bs < x) (mul_comm 256 (2 ^ (8 * length bs)) ∙ sym (pow8 (length bs)))
    (digits_lt (h zero) (be_lt bs (λ i. h (suc i))))

pub length_be : (k n : ℕ) → length (be_bytes k n) ≡ k
unfolding be_bytes
length_be zero n = refl
length_be (suc k) n = ap suc (length_be k n)

pub be_are : (k n : ℕ) → Bytes (be_bytes k n)
unfolding be_bytes
be_are zero n i = zero-lt-suc 255
be_are (suc k) n zero = mod-lt (n / 2 ^ (8 * k)) (zero-lt-suc 255)
be_are (suc k) n (suc i) = be_are k n i

-- the bytes of a number's low part are the number's
be_mod : (k m n : ℕ) → k ≤ m → be_bytes k (n % 2 ^ (8 * m)) ≡ be_bytes k n
unfolding be_bytes get_bits
be_mod zero m n h = refl
be_mod (suc k) m n h =
    ap₂ (λ (x : ℕ) (l : List ℕ). x ∷ l) (get_of_mod n (8 * m) (8 * k) 8 (omega arith)) (be_mod k m n (omega arith))

-- the number of k bytes of a number is its low part
pub be_number_bytes : (k n : ℕ) → be_number (be_bytes k n) ≡ n % 2 ^ (8 * k)
unfolding be_number be_bytes
be_number_bytes zero n =
    let l : n % 1 < 1 = mod-lt n (zero-lt-suc 0) in
    sym (lt-one l)
be_number_bytes (suc k) n =
    ap₂ (λ (x y : ℕ). n / 2 ^ (8 * k) % 256 * 2 ^ (8 * x) + y) (length_be k n) (be_number_bytes k n)
    ∙ sym (mod-pow-add n 8 (8 * k))
    ∙ ap (λ (x : ℕ). n % 2 ^ x) (add_comm 8 (8 * k) ∙ sym (mul-suc 8 k))

-- bytes are those of their number
pub be_bytes_number : (bs : List ℕ) → Bytes bs → be_bytes (length bs) (be_number bs) ≡ bs
unfolding be_number be_bytes
be_bytes_number [] h = refl
be_bytes_number (b ∷ bs) h =
    let n = be_number bs in
    let k = length bs in
    let l : be_number bs < 2 ^ (8 * length bs) = be_lt bs (λ i. h (suc i)) in
    ap₂ (λ (x : ℕ) (r : List ℕ). x ∷ r)
    (ap (λ (x : ℕ). x % 256) (high b (8 * k) l) ∙ mod-eq_of_lt (h zero))
    (sym (be_mod k k (b * 2 ^ (8 * k) + n) (omega arith)) ∙ ap (be_bytes k) (low b (8 * k) l) ∙ be_bytes_number bs (λ i. h (suc i)))

-- ---- `be_number`

-- n is the number of the bytes before i: with that of those from i on below it, it is the number of all
abbrev pub Taken : List ℕ → ℕ → ℕ → Type 0
Taken bs i n = (n * 2 ^ (8 * (length bs - i)) + be_number (drop i bs) ≡ be_number bs) × (n < 2 ^ (8 * i))

pub taken_none : (bs : List ℕ) → Taken bs 0 0
taken_none bs = (ap (λ (x : ℕ). x + be_number bs) (zero-mul (2 ^ (8 * (length bs - 0)))) ∙ zero-add (be_number bs), pow_pos 0)

pub taken_more : (bs : List ℕ) (i n : ℕ) → i < length bs → length bs ≤ 8 → get_or bs i 0 < 256 → Taken bs i n
    → Taken bs (suc i) (bit_or (n * 2 ^ 8 % 2 ^ 64) (get_or bs i 0))
unfolding be_number
taken_more bs i n hi hl hb t =
    let b = get_or bs i 0 in
    let m = length bs - suc i in
    let one : length bs - i ≡ suc (length bs - suc i) = omega arith in
    let sum : bit_or (n * 2 ^ 8 % 2 ^ 64) (get_or bs i 0) ≡ n * 256 + get_or bs i 0
    = ap (λ (x : ℕ). bit_or x b) (shl_exact (8 * i) 8 64 t.1 (omega arith)) ∙ or_shifted n 8 b hb in
    let shape : be_number (drop i bs) ≡ get_or bs i 0 * 2 ^ (8 * (length bs - suc i)) + be_number (drop (suc i) bs)
    = ap be_number (drop-cons bs i 0 hi) ∙ ap (λ (x : ℕ). b * 2 ^ (8 * x) + be_number (drop (suc i) bs)) (length-drop (suc i) bs) in
    let power : n * 2 ^ (8 * (length bs - i)) ≡ n * 256 * 2 ^ (8 * (length bs - suc i))
    = ap (λ (x : ℕ). n * 2 ^ (8 * x)) one ∙ ap (λ (x : ℕ). n * x) (pow8 m ∙ mul_comm (2 ^ (8 * m)) 256) ∙ sym (mul_assoc n 256 (2 ^ (8 * m))) in (
      ap (λ (x : ℕ). x * 2 ^ (8 * m) + be_number (drop (suc i) bs)) sum
          ∙ ap (λ (x : ℕ). x + be_number (drop (suc i) bs)) (add-mul (n * 256) b (2 ^ (8 * m)))
          ∙ add_assoc (n * 256 * 2 ^ (8 * m)) (b * 2 ^ (8 * m)) (be_number (drop (suc i) bs))
          ∙ sym (ap₂ (λ (x y : ℕ). x + y) power shape)
          ∙ t.0,
      subst (λ (x : ℕ). x < 2 ^ (8 * suc i)) (sym sum)
          (subst (λ (x : ℕ). n * 256 + b < x) (sym (pow8 i)) (digits_lt t.1 hb)),
    )

pub taken_all : (bs : List ℕ) (n : ℕ) → Taken bs (length bs) n → n ≡ be_number bs
unfolding be_number
taken_all bs n t =
    let none : length bs - length bs ≡ 0 = omega arith in
    sym (mul-one n) ∙ sym (add-zero (n * 1))
    ∙ sym (ap (λ (x : ℕ). n * 2 ^ (8 * x) + 0) none)
    ∙ sym (ap (λ (x : ℕ). n * 2 ^ (8 * (length bs - length bs)) + x) (ap be_number (drop-length bs)))
    ∙ t.0

-- ---- `be_store`

-- the m low bytes stand before the tail, and one more is set before them
pub stored_before : (buf tail : List ℕ) (n j m : ℕ) → j < length buf
    → set (take (suc j) buf ++ (be_bytes m n ++ tail)) j (n / 2 ^ (8 * m) % 256) ≡ take j buf ++ (be_bytes (suc m) n ++ tail)
unfolding be_bytes
stored_before buf tail n j m h =
    let x = n / 2 ^ (8 * m) % 256 in
    let rest = be_bytes m n ++ tail in
    let fits : j ≤ length buf = omega arith in
    ap (λ (l : List ℕ). set (l ++ rest) j x) (take-suc buf j 0 h)
    ∙ ap (λ (l : List ℕ). set l j x) (append_snoc (take j buf) (get_or buf j 0) rest)
    ∙ set_at (take j buf) (get_or buf j 0) rest x j (length-take-le j buf fits)
