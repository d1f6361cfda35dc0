-- 02, Req 04: "For the service screen, a probe reading is either degrees as a float or not used, which is raw 0x1FFF."
use Rattle.std.specs.Prelude.{suc, Bool, true, false, cond, eqb, ℤ, pos, negsuc, Float}
use Rattle.std.specs.Float.{binary32}
use Rattle.std.specs.Float.Ieee.{round}
use Rattle.service.specs.declared.Probe.{Probe}
use Rattle.service.specs.declared.Probe.TheVariants.{NotUsed, Degrees}

-- "The float is the raw whole number divided by ten, rounded once": `round binary32 s n d` is the f32 nearest to the exact fraction n / d
-- with the sign s, a tie going to the even one, as IEEE 754 rounds; the fraction itself is no float, and nothing is rounded before.
-- Said without `round`: every other f32 lies farther from a tenth of the raw number (`nearest`, proofs/Rounded.antt), so no tie comes up.
unfoldable pub degrees_of : ℤ → Float
degrees_of (pos n) = round binary32 false n 10
degrees_of (negsuc n) = round binary32 true (suc n) 10

abbrev pub is_unused : ℤ → Bool
is_unused (pos n) = eqb n 0x1fff
is_unused (negsuc n) = false

unfoldable pub probe_of : ℤ → Probe
probe_of z = cond (is_unused z) NotUsed (Degrees (degrees_of z))
