-- A field's value of its signal's raw number, and back. Every raw number of the pages fits its field (`Field` of proofs/FieldLaws.antt); for any other the
-- field takes the low bits, or 0.
use Rattle.std.specs.Prelude.{ℕ, ◌*◌, ◌/◌, ◌%◌, ◌^◌, Bool, true, false, cond, List, eqb, ltb, get_or, ℤ, pos, negsuc, ◌+ℤ◌, ◌-ℤ◌}
use Rattle.signal.specs.Raw.{fits_in}

-- the raw number at each place of a list, and 0 past its end
abbrev pub at : List ℤ → ℕ → ℤ
at zs j = get_or zs j (pos 0)

abbrev pub natural_of : ℤ → ℕ
natural_of (pos n) = n
natural_of (negsuc n) = 0

abbrev pub byte_of : ℤ → ℕ
byte_of z = natural_of z % 256

-- 01: "Volts and amperes stay whole tenths."
abbrev pub word_of : ℤ → ℕ
word_of z = natural_of z % 65536

abbrev pub short_of : ℤ → ℤ
short_of z = cond (fits_in true 16 z) z (pos 0)

-- 02, Req 04: "A duty above 100.0 % keeps its raw number, so that writing returns the bytes; the limited number is worked out apart."
abbrev pub duty_of : ℤ → ℕ
duty_of z = word_of z

-- 01: "A temperature is the raw number minus 40, so -40 to 215 °C."
abbrev pub celsius_of : ℤ → ℤ
celsius_of z = pos (byte_of z) -ℤ pos 40

abbrev pub celsius_raw : ℤ → ℤ
celsius_raw z = z +ℤ pos 40

-- 01: "Insulation is twice the raw number in kOhm, even, 0 to 510."
abbrev pub kilohms_of : ℤ → ℕ
kilohms_of z = byte_of z * 2

-- an odd number of kOhm has no raw number
abbrev pub has_kilohms : ℕ → Bool
has_kilohms x = eqb (x % 2) 0

abbrev pub kilohms_raw : ℕ → ℤ
kilohms_raw x = pos (x / 2)

abbrev pub flag_of : ℤ → Bool
flag_of z = eqb (natural_of z % 2) 1

abbrev pub flag_raw : Bool → ℤ
flag_raw true = pos 1
flag_raw false = pos 0

-- 02, Req 14: "Reserved signals are carried, not dropped": up to 60 bits, as they are. A number above every i64 becomes one that no unsigned signal takes.
abbrev pub wide_raw : ℕ → ℤ
wide_raw x = cond (ltb x (2 ^ 63)) (pos x) (negsuc 0)
