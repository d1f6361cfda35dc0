-- The 32 bits of degrees tell the degrees: no two readings have the same bits unless they are the same float. Assumes nothing.
use mathlib.Core.Path.{◌≡◌}
use Prim.Native.Nat.{suc}
use mathlib.Core.Bool.{true, false}
use lib.Dec.{T}
use lib.IntN.{ℤ, pos, negsuc}
use lib.Ieee.{binary32, fits, to_bits, of_bits}
use lib.Ieee.Fits.{round-fits}
use lib.Ieee.Bits.{of_bits-to_bits}
use Rattle.service.specs.Probes.{degrees_of}

pub degrees_fit : (z : ℤ) → T (fits binary32 (degrees_of z))
unfolding degrees_of
degrees_fit (pos n) = round-fits binary32 false n 10
degrees_fit (negsuc n) = round-fits binary32 true (suc n) 10

pub bits_back : (z : ℤ) → of_bits binary32 (to_bits binary32 (degrees_of z)) ≡ degrees_of z
bits_back z = of_bits-to_bits binary32 (degrees_of z) (degrees_fit z)
