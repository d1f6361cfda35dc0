-- A look-up after a set-up by value hands out the very limits that were handed in.
use mathlib.Core.Path.{◌≡◌, refl}
use Rattle.page_table.specs.declared.Interface.{Interface}
use Rattle.page_table.specs.declared.Interface.TheVariants.{Newer, Older}
use Rattle.page_table.specs.Interfaces.{interface_number, interface_of}
use Rattle.rule_limits.specs.declared.Sensor.{Sensor}
use Rattle.rule_limits.specs.declared.Sensor.TheVariants.{Measuring, YesNo}
use Rattle.rule_limits.specs.declared.Limits.{Limits}
use Rattle.rule_limits.specs.Sensor.{sensor_number, sensor_of, plain_of, limits_of}

sensor_back : (x : Sensor) → sensor_of (sensor_number x) ≡ x
sensor_back Measuring = refl
sensor_back YesNo = refl

interface_back : (x : Interface) → interface_of (interface_number x) ≡ x
interface_back Newer = refl
interface_back Older = refl

pub handed_back : (l : Limits) → limits_of (plain_of l) ≡ l
handed_back l = rw (sensor_back l.sensor, interface_back l.interface)
