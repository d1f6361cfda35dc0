-- The definitions say what the papers say, in both byte orders: "Bit n of a payload is bit n mod 8 of byte n / 8, bit 0 lowest. A signal with start s and width
-- w has its lowest bit at s" (01); "There the start names the highest bit, and the signal runs down to bit 0 of that byte and on at bit 7 of the next" (02,
-- Req 04).
-- Assumes nothing.
use mathlib.Core.Path.{◌≡◌, refl, sym, ap, ap₂, ◌∙◌}
use mathlib.Core.Bool.{Bool, true, false, ◌&&◌}
use mathlib.Core.Logic.{◌⊎◌, inl, inr}
use mathlib.Core.List.{List, [], ◌∷◌}
use Prim.Native.Nat.{ℕ, zero, suc, ◌+◌, ◌-◌, ◌*◌, ◌/◌, ◌%◌, ◌^◌, ◌≤◌, ◌<◌}
use native.Mathlib.Nat.{sub-zero, le_of_suc-le, mul-suc, add_comm, div-one, mod-eq_of_lt, le_of_suc-le-suc, not-suc-le-zero}
use native.Mathlib.Omega.{arith}
use lib.Arith.{digits_div, digits_mod}
use lib.ListN.{length, get_or, get_or-eq_default}
use lib.Pow.{low, high}
use borrow.Author.Tests.{eq-eqb, ne_eqb, le-leb, lt-ltb}
use Rattle.signal.specs.Signal.{get_bits, covers}
use Rattle.payload.specs.Payload.{le_number, le_bytes, be_number, be_bytes, number_of, bytes_of, bit_at, Bytes}
use Rattle.payload.specs.Order.{spot, place, lowest, Inside, next, walk, bit_of, Has}
use Rattle.signal.proofs.Laws.{get_of_mod, get_of_div, get_get, get_zero, covers_in}
use Rattle.signal.proofs.Complement.{half_of}
use Rattle.payload.proofs.BigBytes.{be_lt}

-- ---- bytes

-- byte i stands at its spot in the number
pub byte_of : (big : Bool) (bs : List ℕ) (i : ℕ) → Bytes bs → i < length bs → get_bits (number_of big bs) (8 * spot big (length bs) i) 8 ≡ get_or bs i 0
unfolding le_number be_number get_bits
byte_of big [] i hb h = absurd (not-suc-le-zero h)
byte_of false (b ∷ bs) zero hb h = ap (λ (x : ℕ). x % 256) (div-one (le_number bs * 256 + b)) ∙ digits_mod (le_number bs) (hb zero)
byte_of false (b ∷ bs) (suc i) hb h =
    ap (λ (x : ℕ). (le_number bs * 256 + b) / 2 ^ x % 256) (mul-suc 8 i ∙ add_comm (8 * i) 8)
    ∙ sym (get_of_div (le_number bs * 256 + b) 8 (8 * i) 8)
    ∙ ap (λ (x : ℕ). x / 2 ^ (8 * i) % 256) (digits_div (le_number bs) (hb zero))
    ∙ byte_of false bs i (λ j. hb (suc j)) (le_of_suc-le-suc h)
byte_of true (b ∷ bs) zero hb h =
    let e : suc (length bs) - 1 - 0 ≡ length bs = omega arith in
    ap (λ (x : ℕ). (b * 2 ^ (8 * length bs) + be_number bs) / 2 ^ (8 * x) % 256) e
    ∙ ap (λ (x : ℕ). x % 256) (high b (8 * length bs) (be_lt bs (λ j. hb (suc j)))) ∙ mod-eq_of_lt (hb zero)
byte_of true (b ∷ bs) (suc i) hb h =
    let e : suc (length bs) - 1 - suc i ≡ length bs - 1 - i = omega arith in
    ap (λ (x : ℕ). (b * 2 ^ (8 * length bs) + be_number bs) / 2 ^ (8 * x) % 256) e
    ∙ sym (get_of_mod (b * 2 ^ (8 * length bs) + be_number bs) (8 * length bs) (8 * (length bs - 1 - i)) 8 (omega arith))
    ∙ ap (λ (x : ℕ). x / 2 ^ (8 * (length bs - 1 - i)) % 256) (low b (8 * length bs) (be_lt bs (λ j. hb (suc j))))
    ∙ byte_of true bs i (λ j. hb (suc j)) (le_of_suc-le-suc h)

-- the other way
pub byte_in : (big : Bool) (k n i : ℕ) → i < k → get_or (bytes_of big k n) i 0 ≡ get_bits n (8 * spot big k i) 8
unfolding le_bytes be_bytes get_bits
byte_in big zero n i h = absurd (not-suc-le-zero h)
byte_in false (suc k) n zero h = ap (λ (x : ℕ). x % 256) (sym (div-one n))
byte_in false (suc k) n (suc i) h =
    byte_in false k (n / 256) i (le_of_suc-le-suc h) ∙ get_of_div n 8 (8 * i) 8 ∙ ap (λ (x : ℕ). n / 2 ^ x % 256) (sym (mul-suc 8 i ∙ add_comm (8 * i) 8))
byte_in true (suc k) n zero h =
    let e : k ≡ suc k - 1 - 0 = omega arith in
    ap (λ (x : ℕ). n / 2 ^ (8 * x) % 256) e
byte_in true (suc k) n (suc i) h =
    let e : k - 1 - i ≡ suc k - 1 - suc i = omega arith in
    byte_in true k n i (le_of_suc-le-suc h) ∙ ap (λ (x : ℕ). n / 2 ^ (8 * x) % 256) e

-- ---- bits

-- each bit of k bytes has its place in their number, and each bit of the number is the place of one
pub place_lt : (big : Bool) (k n : ℕ) → n < 8 * k → place big k n < 8 * k
place_lt false k n h = omega arith
place_lt true k n h = omega arith

pub place_place : (big : Bool) (k n : ℕ) → n < 8 * k → place big k (place big k n) ≡ n
place_place false k n h = omega arith
place_place true k n h = omega arith

-- a payload's bit n stands at its place in the number
pub bit_of_lem : (big : Bool) (bs : List ℕ) (n : ℕ) → Bytes bs → n < 8 * length bs → get_bits (number_of big bs) (place big (length bs) n) 1 ≡ bit_at bs n
unfolding bit_at
bit_of_lem big bs n hb h =
    sym (get_get (number_of big bs) (8 * spot big (length bs) (n / 8)) 8 (n % 8) 1 (omega arith))
    ∙ ap (λ (x : ℕ). get_bits x (n % 8) 1) (byte_of big bs (n / 8) hb (omega arith))

-- the other way
pub bit_in : (big : Bool) (k n i : ℕ) → i < 8 * k → bit_at (bytes_of big k n) i ≡ get_bits n (place big k i) 1
unfolding bit_at
bit_in big k n i h =
    ap (λ (x : ℕ). get_bits x (i % 8) 1) (byte_in big k n (i / 8) (omega arith))
    ∙ get_get n (8 * spot big k (i / 8)) 8 (i % 8) 1 (omega arith)

-- past the payload's end stands 0
pub bit_past : (bs : List ℕ) (b : ℕ) → 8 * length bs ≤ b → bit_at bs b ≡ 0
unfolding bit_at
bit_past bs b h = ap (λ (x : ℕ). get_bits x (b % 8) 1) (get_or-eq_default bs 0 {n = b / 8} (omega arith)) ∙ get_zero (b % 8) 1

-- ---- signals

-- one step of the way is one bit down in the number
step : (k n : ℕ) → n < 8 * k → 1 ≤ place true k n → (next n < 8 * k) × (place true k (next n) ≡ place true k n - 1)
step k n h l = go (half_of 1 (n % 8))
  where
    go : (n % 8 < 1) ⊎ (1 ≤ n % 8) → (next n < 8 * k) × (place true k (next n) ≡ place true k n - 1)
    go (inl z) = rw (eq-eqb (n % 8) 0 (omega arith)) (omega arith)
    go (inr z) = rw (ne_eqb (n % 8) 0 (λ q. omega arith)) (omega arith)

one_down : (p q r i : ℕ) → q ≡ p - i → r ≡ q - 1 → r ≡ p - suc i
one_down p q r i e f = omega arith

some_left : (p q i : ℕ) → suc i ≤ p → q ≡ p - i → 1 ≤ q
some_left p q i h e = omega arith

walked : (k s i : ℕ) → s < 8 * k → i ≤ place true k s → (walk s i < 8 * k) × (place true k (walk s i) ≡ place true k s - i)
unfolding walk
walked k s zero h l = (h, sym (sub-zero (place true k s)))
walked k s (suc i) h l =
    let w = walked k s i h (le_of_suc-le l) in
    let t = step k (walk s i) w.0 (some_left (place true k s) (place true k (walk s i)) i l w.1) in
    (t.0, one_down (place true k s) (place true k (walk s i)) (place true k (next (walk s i))) i w.1 t.1)

top_in : (p w j : ℕ) → w ≤ p + 1 → j < w → w - 1 - j ≤ p
top_in p w j h l = omega arith

from_top : (p q w j : ℕ) → w ≤ p + 1 → j < w → q ≡ p - (w - 1 - j) → q ≡ p + 1 - w + j
from_top p q w j h l e = omega arith

-- the payload's bit that the papers name as bit j of a signal is one of the payload, and stands j above the signal's lowest
pub bit_place : (big : Bool) (k s w j : ℕ) → Inside big k s w → j < w
    → (bit_of big s w j < 8 * k) × (place big k (bit_of big s w j) ≡ lowest big k s w + j)
bit_place false k s w j hi hj = (omega arith, omega arith)
bit_place true k s w j hi hj =
    let p = place true k s in
    let r = walked k s (w - 1 - j) hi.0 (top_in p w j hi.1 hj) in
    (r.0, from_top p (place true k (walk s (w - 1 - j))) w j hi.1 hj r.1)

-- so bit j of a signal is the payload's bit that the papers name
pub signal_bit : (big : Bool) (bs : List ℕ) (s w j : ℕ) → Bytes bs → Inside big (length bs) s w → j < w
    → get_bits (get_bits (number_of big bs) (lowest big (length bs) s w) w) j 1 ≡ bit_at bs (bit_of big s w j)
signal_bit big bs s w j hb hi hj =
    let r = bit_place big (length bs) s w j hi hj in
    get_get (number_of big bs) (lowest big (length bs) s w) w j 1 (omega arith)
    ∙ ap (λ (x : ℕ). get_bits (number_of big bs) x 1) (sym r.1)
    ∙ bit_of_lem big bs (bit_of big s w j) hb r.0

-- ---- a signal's bits: the payload's bit b is one of them exactly where its place in the number is covered

module _ (big : Bool) (k s w : ℕ) (hi : Inside big k s w) (b : ℕ) where
  pub has_covers : Has big s w b → covers (lowest big k s w) w (place big k b) ≡ true
  has_covers h =
      let low = lowest big k s w in
      let j = h.0 in
      let e : place big k b ≡ low + j = ap (place big k) (sym h.2) ∙ (bit_place big k s w j hi h.1).1 in
      ap (covers low w) e ∙ ap₂ (λ (x y : Bool). x && y) (le-leb low (low + j) (omega arith)) (lt-ltb (low + j) (low + w) (omega (arith, h.1)))

  pub covers_has : b < 8 * k → covers (lowest big k s w) w (place big k b) ≡ true → Has big s w b
  covers_has l e =
      let low = lowest big k s w in
      let c = covers_in low w (place big k b) e in
      let j = place big k b - low in
      let h : j < w = omega (arith, c.0, c.1) in
      let p = bit_place big k s w j hi h in
      let q : place big k (bit_of big s w j) ≡ place big k b = omega (arith, p.1, c.0) in
      (j, h, sym (place_place big k (bit_of big s w j) p.0) ∙ ap (place big k) q ∙ place_place big k b l)

  pub not_has : b < 8 * k → (Has big s w b → ⊥) → covers (lowest big k s w) w (place big k b) ≡ false
  not_has l n = go (covers (lowest big k s w) w (place big k b)) refl
    where
      go : (x : Bool) → covers (lowest big k s w) w (place big k b) ≡ x → x ≡ false
      go true e = absurd (n (covers_has l e))
      go false e = refl
