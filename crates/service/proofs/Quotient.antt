-- The code's quotient of two floats is the exact quotient rounded once: a whole number of 16 bits is a float exactly, and so is ten. Assumes nothing.
use mathlib.Core.Path.{◌≡◌, ap, ◌∙◌}
use Prim.Native.Nat.{ℕ, suc, ◌*◌, ◌^◌, ◌<◌}
use native.Mathlib.Nat.{mul-pos, mul_assoc, mul_comm, zero-lt-suc}
use native.Mathlib.Omega.{arith}
use mathlib.Core.Bool.{Bool, true, false, true≢false, false≢true}
use lib.IntN.{ℤ, pos, negsuc}
use lib.Signed.{mag}
use lib.Ieee.{Float, nan, inf, fin, binary32, up, down, round, div, of_int, of_bits}
use lib.Ieee.Fits.{down_pos}
use lib.Ieee.Exact.{HasValue}
use lib.Ieee.Back.{round_whole}
use lib.Ieee.Scale.{round_same}
use Rattle.service.specs.Probes.{degrees_of}

-- the bits of 10.0 in the code
abbrev ten : Float
ten = of_bits binary32 1092616192

-- (m * 2 ^ e) / 10 and n / 10 are one fraction, written twice
same : (s : Bool) (m : ℕ) (e : ℤ) (n : ℕ) → m * up e * 1 ≡ n * down e → round binary32 s (m * up e * 1) (10 * down e) ≡ round binary32 s n 10
same s m e n h =
    round_same binary32 s (m * up e * 1) (10 * down e) n 10 (mul-pos (zero-lt-suc 9) (down_pos e)) (zero-lt-suc 9)
    (ap (λ (v : ℕ). v * 10) h ∙ mul_assoc n (down e) 10 ∙ ap (λ (v : ℕ). n * v) (mul_comm (down e) 10))

over_ten : (s : Bool) (x : Float) (n : ℕ) → HasValue x s n 1 → div binary32 x ten ≡ round binary32 s n 10
unfolding div of_bits
over_ten s nan n h = absurd h
over_ten s (inf t) n h = absurd h
over_ten true (fin false m e) n h = absurd (false≢true h.0)
over_ten false (fin true m e) n h = absurd (true≢false h.0)
over_ten true (fin true m e) n h = same true m e n h.1
over_ten false (fin false m e) n h = same false m e n h.1

-- |z| is at most 2 ^ 15, and a float of 24 digits holds it
pub quotient : (z : ℤ) → mag z < 2 ^ 15 → div binary32 (of_int binary32 z) ten ≡ degrees_of z
unfolding of_int degrees_of
quotient (pos n) h = over_ten false (round binary32 false n 1) n (round_whole binary32 false n (omega (arith, h)))
quotient (negsuc n) h = over_ten true (round binary32 true (suc n) 1) (suc n) (round_whole binary32 true (suc n) (omega (arith, h)))
