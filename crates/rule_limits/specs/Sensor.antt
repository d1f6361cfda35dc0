-- 02, Req 03: "A post's limits gain a sensor kind."; Req 11: "Set-up names a post's interface."
-- Both are named where limits are handed in and out, and are numbers where a post keeps them.
use Rattle.std.specs.Prelude.{ℕ, cond, eqb}
use Rattle.page_table.specs.Interfaces.{interface_number, interface_of}
use Rattle.rule_limits.specs.declared.Sensor.{Sensor}
use Rattle.rule_limits.specs.declared.Sensor.TheVariants.{Measuring, YesNo}
use Rattle.rule_limits.specs.declared.Limits.{Limits}
use Rattle.rule_limits.specs.declared.PlainLimits.{PlainLimits}

abbrev pub sensor_number : Sensor → ℕ
sensor_number Measuring = 0
sensor_number YesNo = 1

-- set-up lets no number but these two in
abbrev pub sensor_of : ℕ → Sensor
sensor_of n = cond (eqb n 1) YesNo Measuring

abbrev pub plain_of : Limits → PlainLimits
plain_of l = record { voltage = l.voltage; charge = l.charge; discharge = l.discharge; silence = l.silence; sensor = sensor_number l.sensor; interface = interface_number l.interface }

abbrev pub limits_of : PlainLimits → Limits
limits_of l = record { voltage = l.voltage; charge = l.charge; discharge = l.discharge; silence = l.silence; sensor = sensor_of l.sensor; interface = interface_of l.interface }
