-- The 32 bits of a NaN. Assumes nothing.
use mathlib.Core.Path.{◌≡◌, refl}
use mathlib.Core.Bool.{true, false≢true}
use lib.Ieee.{Float, nan, inf, fin, binary32, to_bits, is_nan}

pub no_number : (x : Float) → is_nan x ≡ true → 0x7fc00000 ≡ to_bits binary32 x
unfolding to_bits is_nan
no_number nan e = refl
no_number (inf s) e = absurd (false≢true e)
no_number (fin s m x) e = absurd (false≢true e)
