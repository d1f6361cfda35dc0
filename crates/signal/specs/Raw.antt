-- A raw whole number, and the w bits of a signal that carry it.
use Rattle.std.specs.Prelude.{ℕ, ◌-◌, ◌^◌, Bool, true, false, cond, ◌&&◌, ◌||◌, ℤ, pos, leb, ltb}
use Rattle.std.specs.Int.Signed.{mag, non_neg}
use Rattle.signal.specs.Twos.{to_signed, of_signed}

-- z fits: -2 ^ (w - 1) to 2 ^ (w - 1) - 1 in a signed signal, 0 to 2 ^ w - 1 in another
abbrev pub fits_in : Bool → ℕ → ℤ → Bool
fits_in true w z = ltb (mag z) (2 ^ (w - 1))
fits_in false w z = non_neg z && ltb (mag z) (2 ^ w)

-- the bits of a z that fits
abbrev pub bits_in : Bool → ℕ → ℤ → ℕ
bits_in true w z = of_signed w z
bits_in false w z = mag z

-- the number that w bits carry
abbrev pub value_in : Bool → ℕ → ℕ → ℤ
value_in true w v = to_signed w v
value_in false w v = pos v

-- ---- the answers of `fits`, `bits` and `whole`, for every width

-- a signal has 1 to 64 bits
abbrev pub is_width : ℕ → Bool
is_width w = leb 1 w && leb w 64

unfoldable pub fits_of : Bool → ℕ → ℤ → Bool
fits_of sgn w z = is_width w && fits_in sgn w z

-- 0 where z does not fit
unfoldable pub bits_of : Bool → ℕ → ℤ → ℕ
bits_of sgn w z = cond (fits_of sgn w z) (bits_in sgn w z) 0

-- v has w bits, and the number that they carry is an i64: an unsigned one is below 2 ^ 63
abbrev pub carries : Bool → ℕ → ℕ → Bool
carries sgn w v = is_width w && (ltb v (2 ^ w) && (sgn || ltb v (2 ^ 63)))

-- 0 where v carries none
unfoldable pub whole_of : Bool → ℕ → ℕ → ℤ
whole_of sgn w v = cond (carries sgn w v) (value_in sgn w v) (pos 0)
