-- The writer in the papers' words, over both byte orders and every start and width: of a payload with the number v put into a signal's place, bit j of the
-- signal is bit j of v (`written-bit`), and every bit that is not the signal's is as it was (`written-kept`). A number that is stored in a buffer has its bits
-- at their places (`stored-bit`), and behind its bytes the buffer is as it was (`stored-behind`).
-- Assumes nothing.
use mathlib.Core.Path.{◌≡◌, sym, ap, ◌∙◌, subst}
use mathlib.Core.Bool.{Bool}
use mathlib.Core.Logic.{◌⊎◌, inl, inr}
use mathlib.Core.List.{List, ◌++◌}
use Prim.Native.Nat.{ℕ, ◌+◌, ◌-◌, ◌*◌, ◌/◌, ◌%◌, ◌^◌, ◌≤◌, ◌<◌}
use native.Mathlib.Omega.{arith}
use lib.ListN.{length, get_or, drop, get_or-append}
use lib.Seq.{get_or-drop, get_or-append-add}
use Rattle.signal.specs.Signal.{get_bits, put_bits}
use Rattle.payload.specs.Payload.{number_of, bytes_of, stored_in, bit_at, Bytes}
use Rattle.payload.specs.Order.{place, lowest, Inside, bit_of, Has}
use Rattle.signal.proofs.Laws.{get_put_part, bit_kept}
use Rattle.signal.proofs.Complement.{half_of}
use Rattle.payload.proofs.Orders.{length_of_lem}
use Rattle.payload.proofs.Stored.{stored_in_lem}
use Rattle.payload.proofs.Words.{bit_of_lem, bit_in, bit_past, bit_place, not_has}

-- THEOREM: "A signal with start s and width w has its lowest bit at s", or the walk of 02, Req 04, in what is written
pub written_bit : (big : Bool) (bs : List ℕ) (s w v j : ℕ) → Inside big (length bs) s w → v < 2 ^ w → j < w
    → bit_at (bytes_of big (length bs) (put_bits (number_of big bs) (lowest big (length bs) s w) w v)) (bit_of big s w j) ≡ get_bits v j 1
written_bit big bs s w v j hi hv hj =
    let k = length bs in
    let n = put_bits (number_of big bs) (lowest big k s w) w v in
    let r = bit_place big k s w j hi hj in
    bit_in big k n (bit_of big s w j) r.0
    ∙ ap (λ (x : ℕ). get_bits n x 1) r.1
    ∙ get_put_part (number_of big bs) (lowest big k s w) w v j 1 hv (omega arith)

-- THEOREM: nothing else is written
pub written_kept : (big : Bool) (bs : List ℕ) (s w v b : ℕ) → Bytes bs → Inside big (length bs) s w → v < 2 ^ w → (Has big s w b → ⊥)
    → bit_at (bytes_of big (length bs) (put_bits (number_of big bs) (lowest big (length bs) s w) w v)) b ≡ bit_at bs b
written_kept big bs s w v b hb hi hv u = go (half_of (8 * length bs) b)
  where
    go : (b < 8 * length bs) ⊎ (8 * length bs ≤ b)
        → bit_at (bytes_of big (length bs) (put_bits (number_of big bs) (lowest big (length bs) s w) w v)) b ≡ bit_at bs b
    go (inl l) =
        let k = length bs in
        bit_in big k (put_bits (number_of big bs) (lowest big k s w) w v) b l
        ∙ bit_kept (number_of big bs) (lowest big k s w) w v (place big k b) hv (not_has big k s w hi b l u)
        ∙ bit_of_lem big bs b hb l
    go (inr l) =
        let n = put_bits (number_of big bs) (lowest big (length bs) s w) w v in
        bit_past (bytes_of big (length bs) n) b (subst (λ (x : ℕ). 8 * x ≤ b) (sym (length_of_lem big (length bs) n)) l) ∙ sym (bit_past bs b l)

-- ---- a buffer

pub stored_bit : (big : Bool) (k n : ℕ) (buf : List ℕ) (b : ℕ) → k ≤ length buf → b < 8 * k → bit_at (stored_in big k n buf) b ≡ get_bits n (place big k b) 1
unfolding bit_at
stored_bit big k n buf b room l =
    ap (λ (cs : List ℕ). bit_at cs b) (stored_in_lem big k n buf room)
    ∙ ap (λ (x : ℕ). get_bits x (b % 8) 1) (get_or-append (bytes_of big k n) (drop k buf) 0 (b / 8) (omega (arith, length_of_lem big k n)))
    ∙ bit_in big k n b l

pub stored_behind : (big : Bool) (k n : ℕ) (buf : List ℕ) (b : ℕ) → k ≤ length buf → 8 * k ≤ b → bit_at (stored_in big k n buf) b ≡ bit_at buf b
unfolding bit_at
stored_behind big k n buf b room l =
    let i : b / 8 ≡ length (bytes_of big k n) + (b / 8 - k) = omega (arith, length_of_lem big k n) in
    let j : k + (b / 8 - k) ≡ b / 8 = omega arith in
    ap (λ (cs : List ℕ). bit_at cs b) (stored_in_lem big k n buf room)
    ∙ ap (λ (x : ℕ). get_bits x (b % 8) 1)
    (ap (λ (x : ℕ). get_or (bytes_of big k n ++ drop k buf) x 0) i ∙ get_or-append-add (bytes_of big k n) (drop k buf) (b / 8 - k) 0
    ∙ get_or-drop k buf (b / 8 - k) 0 ∙ ap (λ (x : ℕ). get_or buf x 0) j)
