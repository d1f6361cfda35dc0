-- 01's limits on both sides of each edge, closed by computing.
use Prim.Native.Nat.{ℕ}
use mathlib.Core.Path.{◌≡◌, refl}
use mathlib.Core.Bool.{true, false}
use Rattle.rule_limits.specs.declared.PlainLimits.{PlainLimits}
use Rattle.rule_limits.specs.Limits.{limits_fit, capped}

-- E13: "default 5000: Maximum_Voltage 0 or 6000 gives 5000, 4000 gives 4000"
pub received : (capped 5000 0 ≡ 5000) × (capped 5000 6000 ≡ 5000) × (capped 5000 4000 ≡ 4000)
received = (refl, refl, refl)

-- voltage, charge, discharge, silence, the sensor kind's number and the interface's
abbrev limits : ℕ → ℕ → ℕ → ℕ → ℕ → ℕ → PlainLimits
limits v c d w x i = record { voltage = v; charge = c; discharge = d; silence = w; sensor = x; interface = i }

-- "1 to 65,535", "1 to 32,767", "0 to 32,767", "100 to 60,000", a sensor kind and an interface
pub lowest : limits_fit (limits 1 1 0 100 0 0) ≡ true
unfolding limits_fit
lowest = refl

pub highest : limits_fit (limits 65535 32767 32767 60000 1 1) ≡ true
unfolding limits_fit
highest = refl

pub below : (limits_fit (limits 0 1 0 100 0 0) ≡ false) × (limits_fit (limits 1 0 0 100 0 0) ≡ false) × (limits_fit (limits 1 1 0 99 0 0) ≡ false)
unfolding limits_fit
below = (refl, refl, refl)

pub above : (limits_fit (limits 65536 1 0 100 0 0) ≡ false) × (limits_fit (limits 1 32768 0 100 0 0) ≡ false) × (limits_fit (limits 1 1 32768 100 0 0) ≡ false)
    × (limits_fit (limits 1 1 0 60001 0 0) ≡ false) × (limits_fit (limits 1 1 0 100 2 0) ≡ false) × (limits_fit (limits 1 1 0 100 0 2) ≡ false)
unfolding limits_fit
above = (refl, refl, refl, refl, refl, refl)
