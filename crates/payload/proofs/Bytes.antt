-- The laws of a payload's bytes and its number where byte 0 is lowest, and a turn of `le_number` and of `le_store`.
-- Assumes nothing.
use mathlib.Core.Path.{◌≡◌, refl, sym, ap, ap₂, ◌∙◌, subst}
use mathlib.Core.List.{List, [], ◌∷◌, ◌++◌}
use Prim.Native.Nat.{ℕ, zero, suc, ◌+◌, ◌-◌, ◌*◌, ◌/◌, ◌%◌, ◌^◌, ◌≤◌, ◌<◌}
use native.Mathlib.Nat.{mul-suc, add_comm, div-add-mod', mod-lt, div-one, zero-lt-suc}
use native.Mathlib.Omega.{arith}
use lib.Arith.{digits_lt, digits_div, digits_mod, lt-one}
use lib.ListN.{length, get_or, drop, set}
use lib.Seq.{drop-cons, drop-length, set_at, append_snoc}
use lib.Bits.{bit_or, or_shifted}
use lib.Pow.{pow_pos, pow-add, shr_lt, shr-shr, shl_exact}
use Rattle.payload.specs.Payload.{le_number, le_bytes, Bytes}

pub pow8 : (k : ℕ) → 2 ^ (8 * suc k) ≡ 2 ^ (8 * k) * 256
pow8 k = ap (λ (x : ℕ). 2 ^ x) (mul-suc 8 k) ∙ pow-add 2 (8 * k) 8

-- a payload of k bytes has a number of 8 k bits
pub number_lt : (bs : List ℕ) → Bytes bs → le_number bs < 2 ^ (8 * length bs)
unfolding le_number
number_lt [] h = zero-lt-suc 0
number_lt (b ∷ bs) h =
    subst (λ (x : ℕ). le_number bs * 256 + b < x) (sym (pow8 (length bs))) (digits_lt (number_lt bs (λ i. h (suc i))) (h zero))

pub length_bytes : (k n : ℕ) → length (le_bytes k n) ≡ k
unfolding le_bytes
length_bytes zero n = refl
length_bytes (suc k) n = ap suc (length_bytes k (n / 256))

pub bytes_are : (k n : ℕ) → Bytes (le_bytes k n)
unfolding le_bytes
bytes_are zero n i = zero-lt-suc 255
bytes_are (suc k) n zero = mod-lt n (zero-lt-suc 255)
bytes_are (suc k) n (suc i) = bytes_are k (n / 256) i

-- a number of 8 k bits is that of its k bytes
pub number_bytes_lem : (k n : ℕ) → n < 2 ^ (8 * k) → le_number (le_bytes k n) ≡ n
unfolding le_number le_bytes
number_bytes_lem zero n h = sym (lt-one h)
number_bytes_lem (suc k) n h =
    ap (λ (x : ℕ). x * 256 + n % 256) (number_bytes_lem k (n / 256) (shr_lt (8 * k) 8 (subst (λ (x : ℕ). n < 2 ^ x) (mul-suc 8 k) h)))
    ∙ div-add-mod' n 256

-- bytes are those of their number
pub bytes_number : (bs : List ℕ) → Bytes bs → le_bytes (length bs) (le_number bs) ≡ bs
unfolding le_number le_bytes
bytes_number [] h = refl
bytes_number (b ∷ bs) h =
    ap₂ (λ (x : ℕ) (l : List ℕ). x ∷ l) (digits_mod (le_number bs) (h zero))
    (ap (le_bytes (length bs)) (digits_div (le_number bs) (h zero)) ∙ bytes_number bs (λ i. h (suc i)))

-- one byte more, at the end
pub bytes_snoc : (k n : ℕ) → le_bytes (suc k) n ≡ le_bytes k n ++ (n / 2 ^ (8 * k) % 256 ∷ [])
unfolding le_bytes
bytes_snoc zero n = ap (λ (x : ℕ). x % 256 ∷ []) (sym (div-one n))
bytes_snoc (suc k) n =
    ap (λ (l : List ℕ). n % 256 ∷ l)
    (bytes_snoc k (n / 256)
    ∙ ap (λ (x : ℕ). le_bytes k (n / 256) ++ (x % 256 ∷ []))
    (shr-shr n 8 (8 * k) ∙ ap (λ (x : ℕ). n / 2 ^ x) (add_comm 8 (8 * k) ∙ sym (mul-suc 8 k))))

-- a turn of `le_store`
pub stored_more : (buf : List ℕ) (n i : ℕ) → i < length buf
    → set (le_bytes i n ++ drop i buf) i (n / 2 ^ (8 * i) % 256) ≡ le_bytes (suc i) n ++ drop (suc i) buf
stored_more buf n i h =
    ap (λ (l : List ℕ). set (le_bytes i n ++ l) i (n / 2 ^ (8 * i) % 256)) (drop-cons buf i 0 h)
    ∙ set_at (le_bytes i n) (get_or buf i 0) (drop (suc i) buf) (n / 2 ^ (8 * i) % 256) i (length_bytes i n)
    ∙ sym (append_snoc (le_bytes i n) (n / 2 ^ (8 * i) % 256) (drop (suc i) buf))
    ∙ ap (λ (l : List ℕ). l ++ drop (suc i) buf) (sym (bytes_snoc i n))

-- n is the number of the bytes from i on, and a number of as many bytes
abbrev pub Gathered : List ℕ → ℕ → ℕ → Type 0
Gathered bs i n = (n ≡ le_number (drop i bs)) × (n < 2 ^ (8 * (length bs - i)))

pub gathered_none : (bs : List ℕ) → Gathered bs (length bs) 0
unfolding le_number
gathered_none bs = (sym (ap le_number (drop-length bs)), pow_pos (8 * (length bs - length bs)))

-- a turn of `le_number`
pub gathered_more : (bs : List ℕ) (i n : ℕ) → i < length bs → length bs ≤ 8 → get_or bs i 0 < 256 → Gathered bs (suc i) n
    → Gathered bs i (bit_or (n * 2 ^ 8 % 2 ^ 64) (get_or bs i 0))
unfolding le_number
gathered_more bs i n hi hl hb g =
    let one : length bs - i ≡ suc (length bs - suc i) = omega arith in
    let sum : bit_or (n * 2 ^ 8 % 2 ^ 64) (get_or bs i 0) ≡ n * 256 + get_or bs i 0
    = ap (λ (x : ℕ). bit_or x (get_or bs i 0)) (shl_exact (8 * (length bs - suc i)) 8 64 g.1 (omega arith)) ∙ or_shifted n 8 (get_or bs i 0) hb in (
      sum ∙ ap (λ (x : ℕ). x * 256 + get_or bs i 0) g.0 ∙ sym (ap le_number (drop-cons bs i 0 hi)),
      subst (λ (x : ℕ). x < 2 ^ (8 * (length bs - i))) (sym sum)
          (subst (λ (x : ℕ). n * 256 + get_or bs i 0 < 2 ^ (8 * x)) (sym one)
          (subst (λ (x : ℕ). n * 256 + get_or bs i 0 < x) (sym (pow8 (length bs - suc i))) (digits_lt g.1 hb))),
    )
