-- A payload's bytes and its number, in both byte orders: `big` is false where byte 0 is lowest, and true where it is highest.
use Rattle.std.specs.Prelude.{ℕ, zero, suc, ◌+◌, ◌*◌, ◌/◌, ◌%◌, ◌^◌, ◌<◌, Bool, true, false, cond, List, [], ◌∷◌, ◌++◌, leb, length, get_or, drop}
use Rattle.signal.specs.Signal.{get_bits}

-- 01: "Bit n of a payload is bit n mod 8 of byte n / 8, bit 0 lowest"; past the payload's end stands 0
unfoldable pub bit_at : List ℕ → ℕ → ℕ
bit_at bs n = get_bits (get_or bs (n / 8) 0) (n % 8) 1

-- each element is a byte
abbrev pub Bytes : List ℕ → Type 0
Bytes bs = (i : ℕ) → get_or bs i 0 < 256

-- ---- byte 0 lowest

unfoldable pub le_number : List ℕ → ℕ
le_number [] = 0
le_number (b ∷ bs) = le_number bs * 256 + b

-- the k low bytes of a number, the lowest first
unfoldable pub le_bytes : ℕ → ℕ → List ℕ
le_bytes zero n = []
le_bytes (suc k) n = n % 256 ∷ le_bytes k (n / 256)

-- ---- byte 0 highest

unfoldable pub be_number : List ℕ → ℕ
be_number [] = 0
be_number (b ∷ bs) = b * 2 ^ (8 * length bs) + be_number bs

-- the k low bytes of a number, the highest first
unfoldable pub be_bytes : ℕ → ℕ → List ℕ
be_bytes zero n = []
be_bytes (suc k) n = n / 2 ^ (8 * k) % 256 ∷ be_bytes k n

-- ---- both orders

-- the law `bit-of` says where the payload's bit n stands in it
abbrev pub number_of : Bool → List ℕ → ℕ
number_of false bs = le_number bs
number_of true bs = be_number bs

abbrev pub bytes_of : Bool → ℕ → ℕ → List ℕ
bytes_of false k n = le_bytes k n
bytes_of true k n = be_bytes k n

-- a buffer with the k low bytes of a number from index 0 on, and else as it was; one shorter than k stays whole
unfoldable pub stored_in : Bool → ℕ → ℕ → List ℕ → List ℕ
stored_in big k n buf = cond (leb k (length buf)) (bytes_of big k n ++ drop k buf) buf
