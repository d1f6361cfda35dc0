-- What a rule asks of a Power_Modules_Status, on both sides of each edge, closed by computing.
use Prim.Native.Nat.{ℕ}
use mathlib.Core.Path.{◌≡◌, refl}
use mathlib.Core.Bool.{true, false}
use lib.IntN.{pos, negsuc}
use Rattle.message_types.specs.declared.SystemEnable.TheVariants.{Allowed}
use Rattle.message_types.specs.declared.PowerModulesStatus.{PowerModulesStatus}
use Rattle.rule_limits.specs.declared.Sensor.TheVariants.{Measuring, YesNo}
use Rattle.rule_asks.specs.Judgements.{outside, leaking, bad_insulation}

-- tenths of a volt and kOhm; insulation is twice the raw number
abbrev status : ℕ → ℕ → PowerModulesStatus
status v r = record { voltage = v; current = pos 0; modules = pos 25; enclosure = pos 25; enable = Allowed; insulation = r }

-- E8: "voltage raw 5000: insulation raw 25 no F9, raw 24 F9"; 02, Req 03: a measuring sensor's 0 at 0 V has none
pub measuring : (bad_insulation Measuring (status 5000 50) ≡ false) × (bad_insulation Measuring (status 5000 48) ≡ true) × (bad_insulation Measuring (status 0 0) ≡ false)
unfolding bad_insulation leaking
measuring = (refl, refl, refl)

-- 02, Req 03: "For a yes/no sensor F9's insulation test is raw 0 and nothing else"
pub yes_no : (bad_insulation YesNo (status 0 0) ≡ true) × (bad_insulation YesNo (status 5000 0) ≡ true) × (bad_insulation YesNo (status 5000 2) ≡ false)
unfolding bad_insulation leaking
yes_no = (refl, refl, refl)

-- F8: "current above the charge limit, or below minus the discharge limit"
pub currents : (outside (pos 1000) 1000 500 ≡ false) × (outside (pos 1001) 1000 500 ≡ true) × (outside (negsuc 499) 1000 500 ≡ false) × (outside (negsuc 500) 1000 500 ≡ true)
unfolding outside
currents = (refl, refl, refl, refl)
