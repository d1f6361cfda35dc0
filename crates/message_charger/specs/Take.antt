-- The raw number of each signal of the charger's messages, in the table's order.
use Rattle.std.specs.Prelude.{List, [], ◌∷◌, ℤ, pos}
use Rattle.message_types.specs.declared.PowerModulesStatus.{PowerModulesStatus}
use Rattle.message_types.specs.declared.DcPowerParameters.{DcPowerParameters}
use Rattle.message_types.specs.declared.ControllerStatus.{ControllerStatus}
use Rattle.message_types.specs.declared.NewChargeSession.{NewChargeSession}
use Rattle.message_types.specs.declared.ChargeStatusChange.{ChargeStatusChange}
use Rattle.message_types.specs.declared.DcPowerControl.{DcPowerControl}
use Rattle.message_types.specs.declared.ChargeSessionFinished.{ChargeSessionFinished}
use Rattle.message_types.specs.declared.EmergencyStop.{EmergencyStop}
use Rattle.message_types.specs.declared.EvId.{EvId}
use Rattle.message_types.specs.Labels.{enable_number, state_number, protocol_number, plug_number, status_number, function_number, mode_number, contactors_number, lowering_number, end_number, origin_number}
use Rattle.message_fields.specs.Fields.{celsius_raw, kilohms_raw, flag_raw}

abbrev pub one_raw : ℤ → List ℤ
one_raw z = z ∷ []

abbrev pub status_raws : PowerModulesStatus → List ℤ
status_raws m = pos m.voltage ∷ m.current ∷ celsius_raw m.modules ∷ celsius_raw m.enclosure ∷ pos (enable_number m.enable) ∷ kilohms_raw m.insulation ∷ []

abbrev pub parameters_raws : DcPowerParameters → List ℤ
parameters_raws m = pos m.voltage ∷ pos m.charge ∷ pos m.discharge ∷ m.target ∷ []

abbrev pub state_raws : ControllerStatus → List ℤ
state_raws m = one_raw (pos (state_number m.state))

abbrev pub session_raws : NewChargeSession → List ℤ
session_raws m = pos (protocol_number m.protocol) ∷ pos (plug_number m.plug) ∷ []

abbrev pub change_raws : ChargeStatusChange → List ℤ
change_raws m = one_raw (pos (status_number m.status))

abbrev pub control_raws : DcPowerControl → List ℤ
control_raws m =
    pos m.target ∷ m.max ∷ m.min ∷ pos (function_number m.function) ∷ flag_raw m.reserved
    ∷ pos (mode_number m.mode) ∷ pos (contactors_number m.contactors) ∷ pos (lowering_number m.lowering) ∷ []

abbrev pub finished_raws : ChargeSessionFinished → List ℤ
finished_raws m = one_raw (pos (end_number m.state))

abbrev pub stop_raws : EmergencyStop → List ℤ
stop_raws m = one_raw (pos (origin_number m.origin))

abbrev pub id_raws : EvId → List ℤ
id_raws m = pos m.byte0 ∷ pos m.byte1 ∷ pos m.byte2 ∷ pos m.byte3 ∷ pos m.byte4 ∷ pos m.byte5 ∷ []
