-- The raw number of each signal of the messages of document 001 from Power_Modules_Limits to Charging_Loop that 000 has not alike, in
-- the table's order.
use Rattle.std.specs.Prelude.{List, [], ◌∷◌, ℤ, pos}
use Rattle.older_types.specs.declared.PowerModulesLimits.{PowerModulesLimits}
use Rattle.older_types.specs.declared.NewChargeSession.{NewChargeSession}
use Rattle.older_types.specs.declared.InsulationTest.{InsulationTest}
use Rattle.older_types.specs.declared.PrechargeTarget.{PrechargeTarget}
use Rattle.older_types.specs.declared.ChargingLoop.{ChargingLoop}
use Rattle.older_types.specs.message_types.specs.Labels as label
use Rattle.message_fields.specs.Fields.{wide_raw}
use Rattle.older_fields.specs.Forms.{capacity_raw}

abbrev pub limits_raws : PowerModulesLimits → List ℤ
limits_raws m = pos m.voltage ∷ m.current ∷ wide_raw m.reserved ∷ []

abbrev pub session_raws : NewChargeSession → List ℤ
session_raws m =
    pos (label.protocol_number m.protocol) ∷ pos (label.plug_number m.plug) ∷ pos m.voltage ∷ pos m.current
    ∷ capacity_raw m.capacity ∷ pos m.charge ∷ []

abbrev pub insulation_raws : InsulationTest → List ℤ
insulation_raws m = pos m.voltage ∷ []

abbrev pub precharge_raws : PrechargeTarget → List ℤ
precharge_raws m = pos m.voltage ∷ pos m.current ∷ []

abbrev pub charging_raws : ChargingLoop → List ℤ
charging_raws m = pos m.voltage ∷ m.current ∷ pos m.charge ∷ []
