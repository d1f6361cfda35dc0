-- Where a signal lies in a payload, in both byte orders: a start names the lowest bit where byte 0 is lowest, and the highest where byte 0 is highest (`big`).
use Rattle.std.specs.Prelude.{ℕ, zero, suc, ◌+◌, ◌-◌, ◌*◌, ◌/◌, ◌%◌, ◌≤◌, ◌<◌, ◌≡◌, Bool, true, false, cond, ◌&&◌, eqb, leb, ltb}

-- ---- in the payload's number

-- where byte i of k bytes stands, in bytes from below
abbrev pub spot : Bool → ℕ → ℕ → ℕ
spot false k i = i
spot true k i = k - 1 - i

-- where bit n of k bytes, which is bit n % 8 of byte n / 8, stands
abbrev pub place : Bool → ℕ → ℕ → ℕ
place big k n = 8 * spot big k (n / 8) + n % 8

-- the lowest bit of the signal with start s and width w
abbrev pub lowest : Bool → ℕ → ℕ → ℕ → ℕ
lowest false k s w = s
lowest true k s w = place true k s + 1 - w

-- the signal lies within k bytes
abbrev pub Inside : Bool → ℕ → ℕ → ℕ → Type 0
Inside false k s w = s + w ≤ 8 * k
Inside true k s w = (s < 8 * k) × (w ≤ place true k s + 1)

-- its test
abbrev pub inside : Bool → ℕ → ℕ → ℕ → Bool
inside false k s w = leb (s + w) (8 * k)
inside true k s w = ltb s (8 * k) && leb w (place true k s + 1)

-- ---- in the payload itself, bit by bit

-- 02, Req 04: "the signal runs down to bit 0 of that byte and on at bit 7 of the next"
abbrev pub next : ℕ → ℕ
next n = cond (eqb (n % 8) 0) (n + 15) (n - 1)

-- the i-th bit after s on that way
unfoldable pub walk : ℕ → ℕ → ℕ
walk s zero = s
walk s (suc i) = next (walk s i)

-- the payload's bit that is bit j of the signal with start s and width w (the law `signal-bit`)
abbrev pub bit_of : Bool → ℕ → ℕ → ℕ → ℕ
bit_of false s w j = s + j
bit_of true s w j = walk s (w - 1 - j)

-- the payload's bit b is one of the signal's
abbrev pub Has : Bool → ℕ → ℕ → ℕ → Type 0
Has big s w b = (j : ℕ) × (j < w) × (bit_of big s w j ≡ b)

-- 02, Req 06: the bit of a byte at which a signal of whole bytes starts: the lowest, or where byte 0 is highest the highest
abbrev pub edge : Bool → ℕ
edge big = cond big 7 0
