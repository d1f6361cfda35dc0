-- What the total answers `get_of` and `put_of` are within their range.
-- Assumes nothing.
use Rattle.std.proofs.lemmas.Bool.Decides.{nat_tests}
use mathlib.Core.Path.{◌≡◌}
use Prim.Native.Nat.{ℕ, ◌+◌, ◌^◌, ◌≤◌, ◌<◌}
use native.Mathlib.Omega.{arith}
use Rattle.signal.specs.Signal.{get_bits, put_bits, get_of, put_of}

pub get_in : (n s w : ℕ) → 1 ≤ w → s + w ≤ 64 → get_of n s w ≡ get_bits n s w
unfolding get_of
get_in n s w o h = grind (arith, nat_tests)

pub put_in : (n s w v : ℕ) → 1 ≤ w → s + w ≤ 64 → v < 2 ^ w → put_of n s w v ≡ put_bits n s w v
unfolding put_of
put_in n s w v o h l = grind (arith, nat_tests)
