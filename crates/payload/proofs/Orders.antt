-- The laws of a payload's bytes and its number, and of a signal's place in it, once over both byte orders.
-- Assumes nothing.
use mathlib.Core.Path.{◌≡◌, ◌∙◌}
use mathlib.Core.Bool.{Bool, true, false}
use mathlib.Core.List.{List}
use Prim.Native.Nat.{ℕ, ◌+◌, ◌*◌, ◌^◌, ◌≤◌, ◌<◌}
use native.Mathlib.Nat.{mod-eq_of_lt}
use native.Mathlib.Omega.{arith}
use lib.Dec.{leb, ltb}
use lib.ListN.{length}
use borrow.Author.Tests.{ltb-true, leb-true}
use Rattle.payload.specs.Payload.{number_of, bytes_of, Bytes}
use Rattle.payload.specs.Order.{place, lowest, Inside, inside}
use Rattle.signal.proofs.RawLaws.{both}
use Rattle.payload.proofs.Bytes.{number_lt, length_bytes, bytes_are, number_bytes_lem, bytes_number}
use Rattle.payload.proofs.BigBytes.{be_lt, length_be, be_are, be_number_bytes, be_bytes_number}

-- ---- number and bytes

-- a payload of k bytes has a number of 8 k bits
pub number_bound : (big : Bool) (bs : List ℕ) → Bytes bs → number_of big bs < 2 ^ (8 * length bs)
number_bound false bs h = number_lt bs h
number_bound true bs h = be_lt bs h

pub length_of_lem : (big : Bool) (k n : ℕ) → length (bytes_of big k n) ≡ k
length_of_lem false k n = length_bytes k n
length_of_lem true k n = length_be k n

pub are_of : (big : Bool) (k n : ℕ) → Bytes (bytes_of big k n)
are_of false k n = bytes_are k n
are_of true k n = be_are k n

-- a number of 8 k bits is that of its k bytes
pub number_of_lem : (big : Bool) (k n : ℕ) → n < 2 ^ (8 * k) → number_of big (bytes_of big k n) ≡ n
number_of_lem false k n h = number_bytes_lem k n h
number_of_lem true k n h = be_number_bytes k n ∙ mod-eq_of_lt h

-- bytes are those of their number
pub bytes_of_lem : (big : Bool) (bs : List ℕ) → Bytes bs → bytes_of big (length bs) (number_of big bs) ≡ bs
bytes_of_lem false bs h = bytes_number bs h
bytes_of_lem true bs h = be_bytes_number bs h

-- ---- a signal's place

-- a signal that lies within k bytes lies within their number
pub inside_fits : (big : Bool) (k s w : ℕ) → Inside big k s w → lowest big k s w + w ≤ 8 * k
inside_fits false k s w h = h
inside_fits true k s w h = omega arith

-- the test says so
pub inside_true : (big : Bool) (k s w : ℕ) → inside big k s w ≡ true → Inside big k s w
inside_true false k s w e = leb-true (s + w) (8 * k) e
inside_true true k s w e =
    let t : (ltb s (8 * k) ≡ true) × (leb w (place true k s + 1) ≡ true) = both (ltb s (8 * k)) (leb w (place true k s + 1)) e in
    (ltb-true s (8 * k) t.0, leb-true w (place true k s + 1) t.1)
