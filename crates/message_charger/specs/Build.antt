-- The charger's messages of which no rule asks a field, each of its signals' raw numbers in the table's order.
use Rattle.std.specs.Prelude.{ℕ, ℤ}
use Rattle.message_types.specs.declared.ControllerStatus.{ControllerStatus}
use Rattle.message_types.specs.declared.ChargeStatusChange.{ChargeStatusChange}
use Rattle.message_types.specs.declared.ChargeSessionFinished.{ChargeSessionFinished}
use Rattle.message_types.specs.declared.EmergencyStop.{EmergencyStop}
use Rattle.message_types.specs.declared.EvId.{EvId}
use Rattle.message_types.specs.Labels as label
use Rattle.message_fields.specs.Fields.{natural_of, byte_of}

abbrev pub controller_of : (ℕ → ℤ) → ControllerStatus
controller_of f = record { state = label.state_of (natural_of (f 0)) }

abbrev pub change_of : (ℕ → ℤ) → ChargeStatusChange
change_of f = record { status = label.status_of (natural_of (f 0)) }

abbrev pub finished_of : (ℕ → ℤ) → ChargeSessionFinished
finished_of f = record { state = label.end_of (natural_of (f 0)) }

abbrev pub stop_of : (ℕ → ℤ) → EmergencyStop
stop_of f = record { origin = label.origin_of (natural_of (f 0)) }

abbrev pub id_of : (ℕ → ℤ) → EvId
id_of f = record { byte0 = byte_of (f 0); byte1 = byte_of (f 1); byte2 = byte_of (f 2); byte3 = byte_of (f 3); byte4 = byte_of (f 4); byte5 = byte_of (f 5) }
