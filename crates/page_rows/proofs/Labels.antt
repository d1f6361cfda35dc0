-- The labels of a signal are 64 bits, so no number from 64 on has one. Assumes nothing.
use mathlib.Core.Path.{◌≡◌}
use Prim.Native.Nat.{ℕ, ◌/◌, ◌^◌, ◌<◌, ◌≤◌}
use native.Mathlib.Nat.{lt_of_lt_of_le, div-eq_of_lt}
use lib.Pow.{pow_mono}

pub none_from_64 : (labels bits : ℕ) → labels < 2 ^ 64 → 64 ≤ bits → labels / 2 ^ bits ≡ 0
none_from_64 labels bits fits past = div-eq_of_lt (lt_of_lt_of_le fits (pow_mono past))
