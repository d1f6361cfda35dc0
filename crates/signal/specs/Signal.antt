-- A signal in a payload number: 01, "A signal with start s and width w has its lowest bit at s."
use Rattle.std.specs.Prelude.{ℕ, ◌+◌, ◌*◌, ◌/◌, ◌%◌, ◌^◌, Bool, cond, ◌&&◌, leb, ltb}

-- the w bits of n from bit s on
unfoldable pub get_bits : ℕ → ℕ → ℕ → ℕ
get_bits n s w = n / 2 ^ s % 2 ^ w

-- n with v in the place of its w bits from s on: what stands above them, v, what stands below them
unfoldable pub put_bits : ℕ → ℕ → ℕ → ℕ → ℕ
put_bits n s w v = n / 2 ^ (s + w) * 2 ^ (s + w) + v * 2 ^ s + n % 2 ^ s

-- the signal has a bit, and its last one is among the 64 of a payload number
abbrev pub in_word : ℕ → ℕ → Bool
in_word s w = leb 1 w && leb (s + w) 64

-- bit i is one of the signal's
abbrev pub covers : ℕ → ℕ → ℕ → Bool
covers s w i = leb s i && ltb i (s + w)

-- ---- the answers of `get` and `put`, for every start and width

-- a signal that lies outside has no bits
unfoldable pub get_of : ℕ → ℕ → ℕ → ℕ
get_of n s w = cond (in_word s w) (get_bits n s w) 0

-- where the signal lies outside, or v is wider than it, nothing is put
unfoldable pub put_of : ℕ → ℕ → ℕ → ℕ → ℕ
put_of n s w v = cond (in_word s w && ltb v (2 ^ w)) (put_bits n s w v) n
