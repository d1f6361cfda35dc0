-- 02, Req 06: a signal that starts and ends on byte edges may be stored directly. The payload with such a signal put is the payload with the
-- signal's own bytes in their place, since each byte is either one of the signal's or apart from it.
-- Assumes nothing.
use mathlib.Core.Path.{◌≡◌, sym, ap, ap₂, ◌∙◌, subst}
use mathlib.Core.Bool.{Bool, true, false}
use mathlib.Core.Logic.{◌⊎◌, inl, inr}
use mathlib.Core.List.{List, ◌++◌}
use Prim.Native.Nat.{ℕ, ◌+◌, ◌-◌, ◌*◌, ◌/◌, ◌%◌, ◌^◌, ◌≤◌, ◌<◌}
use native.Mathlib.Omega.{arith}
use lib.ListN.{length, get_or, take, drop, length-append, length-drop, get_or-append}
use lib.Seq.{ext_get_or, length-take-le, get_or-take, get_or-drop, get_or-append-add}
use Rattle.signal.specs.Signal.{get_bits, put_bits}
use Rattle.payload.specs.Payload.{number_of, bytes_of, Bytes}
use Rattle.payload.specs.Order.{spot, lowest, Inside, edge}
use Rattle.signal.proofs.Laws.{get_put_apart, get_put_part, Apart}
use Rattle.signal.proofs.Complement.{half_of}
use Rattle.payload.proofs.Orders.{length_of_lem}
use Rattle.payload.proofs.Words.{byte_of, byte_in}

-- the elements of two lists, one behind the other
at_first : (xs ys : List ℕ) (a i : ℕ) → length xs ≡ a → i < a → get_or (xs ++ ys) i 0 ≡ get_or xs i 0
at_first xs ys a i e h = get_or-append xs ys 0 i (omega arith)

at_second : (xs ys : List ℕ) (a i : ℕ) → length xs ≡ a → a ≤ i → get_or (xs ++ ys) i 0 ≡ get_or ys (i - a) 0
at_second xs ys a i e h =
    let j : i ≡ length xs + (i - a) = omega arith in
    ap (λ (x : ℕ). get_or (xs ++ ys) x 0) j ∙ get_or-append-add xs ys (i - a) 0

-- the k bytes from a on hold the signal, and v is its number
module _ (bs : List ℕ) (a k v : ℕ) (hb : Bytes bs) (fits : a + k ≤ length bs) (hv : v < 2 ^ (8 * k)) where
  -- where the signal's lowest bit stands, in bytes
  base : Bool → ℕ
  base false = a
  base true = length bs - (a + k)

  low-is : (big : Bool) → 1 ≤ k → lowest big (length bs) (8 * a + edge big) (8 * k) ≡ 8 * base big
  unfolding base
  low-is false o = omega arith
  low-is true o =
      let d : (8 * a + 7) / 8 ≡ a = omega arith in
      let m : (8 * a + 7) % 8 ≡ 7 = omega arith in
      ap₂ (λ (x y : ℕ). 8 * (length bs - 1 - x) + y + 1 - 8 * k) d m ∙ sum
    where
      sum : 8 * (length bs - 1 - a) + 7 + 1 - 8 * k ≡ 8 * (length bs - (a + k))
      sum = omega arith

  -- bytes outside the signal are apart from it
  apart : (big : Bool) (i : ℕ) → i < length bs → (i < a) ⊎ (a + k ≤ i) → Apart (8 * base big) (8 * k) (8 * spot big (length bs) i) 8
  unfolding base
  apart false i h (inl l) = inl (omega arith)
  apart false i h (inr l) = inr (omega arith)
  apart true i h (inl l) = inr (omega arith)
  apart true i h (inr l) = inl (omega arith)

  -- bytes inside it are parts of it
  within : (big : Bool) (i : ℕ) → a ≤ i → i < a + k → 8 * spot big (length bs) i ≡ 8 * base big + 8 * spot big k (i - a)
  unfolding base
  within false i h l = omega arith
  within true i h l = omega arith

  inner : (big : Bool) (j : ℕ) → j < k → 8 * spot big k j + 8 ≤ 8 * k
  inner false j h = omega arith
  inner true j h = omega arith

  abbrev new : Bool → List ℕ
  new big = take a bs ++ (bytes_of big k v ++ drop (a + k) bs)

  long : (big : Bool) → length (new big) ≡ length bs
  long big =
      let t : length (take a bs) ≡ a = length-take-le a bs (omega arith) in
      let m : length (bytes_of big k v) ≡ k = length_of_lem big k v in
      let d : length (drop (a + k) bs) ≡ length bs - (a + k) = length-drop (a + k) bs in
      length-append (take a bs) (bytes_of big k v ++ drop (a + k) bs)
      ∙ ap (λ (x : ℕ). length (take a bs) + x) (length-append (bytes_of big k v) (drop (a + k) bs))
      ∙ ends (length (take a bs)) (length (bytes_of big k v)) (length (drop (a + k) bs)) t m d
    where
      ends : (x y z : ℕ) → x ≡ a → y ≡ k → z ≡ length bs - (a + k) → x + (y + z) ≡ length bs
      ends x y z e f g = omega arith

  new-at : (big : Bool) (p i : ℕ) → p ≡ put_bits (number_of big bs) (8 * base big) (8 * k) v → i < length bs
      → get_bits p (8 * spot big (length bs) i) 8 ≡ get_or (new big) i 0
  new-at big p i e h = go (half_of a i)
    where
      t : length (take a bs) ≡ a
      t = length-take-le a bs (omega arith)

      out : (i < a) ⊎ (a + k ≤ i) → get_bits p (8 * spot big (length bs) i) 8 ≡ get_or bs i 0
      out o =
          ap (λ (x : ℕ). get_bits x (8 * spot big (length bs) i) 8) e
          ∙ get_put_apart (number_of big bs) (8 * base big) (8 * k) v (8 * spot big (length bs) i) 8 hv (apart big i h o)
          ∙ byte_of big bs i hb h

      past : a ≤ i → get_or (new big) i 0 ≡ get_or (bytes_of big k v ++ drop (a + k) bs) (i - a) 0
      past l = at_second (take a bs) (bytes_of big k v ++ drop (a + k) bs) a i t l

      mid : a ≤ i → (i < a + k) ⊎ (a + k ≤ i) → get_bits p (8 * spot big (length bs) i) 8 ≡ get_or (new big) i 0
      mid l (inl u) =
          ap₂ (λ (x y : ℕ). get_bits x y 8) e (within big i l u)
          ∙ get_put_part (number_of big bs) (8 * base big) (8 * k) v (8 * spot big k (i - a)) 8 hv (inner big (i - a) (omega arith))
          ∙ sym (byte_in big k v (i - a) (omega arith))
          ∙ sym (at_first (bytes_of big k v) (drop (a + k) bs) k (i - a) (length_of_lem big k v) (omega arith))
          ∙ sym (past l)
      mid l (inr u) =
          let j : i ≡ a + k + (i - a - k) = omega arith in
          out (inr u)
          ∙ ap (λ (x : ℕ). get_or bs x 0) j
          ∙ sym (get_or-drop (a + k) bs (i - a - k) 0)
          ∙ sym (at_second (bytes_of big k v) (drop (a + k) bs) k (i - a) (length_of_lem big k v) (omega arith))
          ∙ sym (past l)

      go : (i < a) ⊎ (a ≤ i) → get_bits p (8 * spot big (length bs) i) 8 ≡ get_or (new big) i 0
      go (inl l) =
          out (inl l) ∙ sym (get_or-take a bs i 0 l) ∙ sym (at_first (take a bs) (bytes_of big k v ++ drop (a + k) bs) a i t l)
      go (inr l) = mid l (half_of (a + k) i)

  whole-bytes : (big : Bool) → 1 ≤ k
      → bytes_of big (length bs) (put_bits (number_of big bs) (lowest big (length bs) (8 * a + edge big) (8 * k)) (8 * k) v) ≡ new big
  whole-bytes big o =
      let p = put_bits (number_of big bs) (lowest big (length bs) (8 * a + edge big) (8 * k)) (8 * k) v in
      let n : length (bytes_of big (length bs) p) ≡ length bs = length_of_lem big (length bs) p in
      ext_get_or 0 (bytes_of big (length bs) p) (new big) (n ∙ sym (long big))
      (λ i h.
      let l : i < length bs = subst (λ (x : ℕ). i < x) n h in
      byte_in big (length bs) p i l
      ∙ new-at big p i (ap (λ (x : ℕ). put_bits (number_of big bs) x (8 * k) v) (low-is big o)) l)

-- ---- by start and width

pub record WholeFacts (big : Bool) (k s w : ℕ) : Type 0 where
  pub start : 8 * (s / 8) + edge big ≡ s
  pub width : 8 * (w / 8) ≡ w
  pub fits : s / 8 + w / 8 ≤ k

pub whole_facts : (big : Bool) (k s w : ℕ) → s % 8 ≡ edge big → w % 8 ≡ 0 → Inside big k s w → WholeFacts big k s w
whole_facts false k s w p q h = record { start = omega arith; width = omega arith; fits = omega arith }
whole_facts true k s w p q h =
    record { start = omega arith; width = omega arith; fits = ends k (s / 8) (w / 8) (s % 8) (w % 8) (down h.0) p q (top h.1) }
  where
    down : s < 8 * k → s / 8 < k
    down l = omega arith

    top : w ≤ 8 * (k - 1 - s / 8) + s % 8 + 1 → 8 * (w / 8) + w % 8 ≤ 8 * (k - 1 - s / 8) + s % 8 + 1
    top l = omega arith

    ends : (k a m r t : ℕ) → a < k → r ≡ 7 → t ≡ 0 → 8 * m + t ≤ 8 * (k - 1 - a) + r + 1 → a + m ≤ k
    ends k a m r t l p q u = omega arith

-- the law: the direct store is the definition's
pub whole_stored : (big : Bool) (bs : List ℕ) (s w v : ℕ) → Bytes bs → Inside big (length bs) s w → s % 8 ≡ edge big → w % 8 ≡ 0 → 1 ≤ w → v < 2 ^ w
    → bytes_of big (length bs) (put_bits (number_of big bs) (lowest big (length bs) s w) w v) ≡ take (s / 8) bs ++ (bytes_of big (w / 8) v ++ drop (s / 8 + w / 8) bs)
whole_stored big bs s w v hb hi hs hw o hv =
    let f = whole_facts big (length bs) s w hs hw hi in
    let l : v < 2 ^ (8 * (w / 8)) = subst (λ (x : ℕ). v < 2 ^ x) (sym f.width) hv in
    ap₂ (λ (x y : ℕ). bytes_of big (length bs) (put_bits (number_of big bs) (lowest big (length bs) x y) y v)) (sym f.start) (sym f.width)
    ∙ whole-bytes bs (s / 8) (w / 8) v hb f.fits l big (omega (arith, f.width))
