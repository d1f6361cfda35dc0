-- The raw numbers of a message of the older interface.
use Rattle.std.specs.Prelude.{Bool, true, List, ℤ}
use Rattle.page_write.specs.Raws.{pad}
use Rattle.page_table.specs.Table.{signal_count}
use Rattle.older_types.specs.declared.Message.{Message}
use Rattle.older_types.specs.declared.Message.TheVariants.{SafetyControl, SafetyState, Probes, Status, Limits, Sequence, Outputs, Session, Insulation, Precharge, Change, Charging, Stop, Finished, Controller, Cui, Secc, Id, Spcc, Ccs, Mcs}
use Rattle.message_fields.specs.Fields.{has_kilohms}
use Rattle.older_fields.specs.Forms.{has_capacity}
use Rattle.message_charger.specs.Take.{status_raws, state_raws, change_raws, finished_raws, stop_raws, id_raws}
use Rattle.message_safety.specs.Take.{safety_control_raws, safety_state_raws}
use Rattle.message_probes.specs.Take.{probes_raws}
use Rattle.message_inputs.specs.Take.{cui_raws, secc_raws}
use Rattle.message_extra.specs.Take.{spcc_raws, ccs_raws, mcs_raws}
use Rattle.message_sequence.specs.Take.{sequence_raws, outputs_raws}
use Rattle.older_power.specs.Take.{limits_raws, session_raws, insulation_raws, precharge_raws, charging_raws}

unfoldable pub raws_of : Message → List ℤ
raws_of (SafetyControl m) = safety_control_raws m
raws_of (SafetyState m) = safety_state_raws m
raws_of (Probes m) = probes_raws m
raws_of (Status m) = status_raws m
raws_of (Limits m) = limits_raws m
raws_of (Sequence m) = sequence_raws m
raws_of (Outputs m) = outputs_raws m
raws_of (Session m) = session_raws m
raws_of (Insulation m) = insulation_raws m
raws_of (Precharge m) = precharge_raws m
raws_of (Change m) = change_raws m
raws_of (Charging m) = charging_raws m
raws_of (Stop m) = stop_raws m
raws_of (Finished m) = finished_raws m
raws_of (Controller m) = state_raws m
raws_of (Cui m) = cui_raws m
raws_of (Secc m) = secc_raws m
raws_of (Id m) = id_raws m
raws_of (Spcc m) = spcc_raws m
raws_of (Ccs m) = ccs_raws m
raws_of (Mcs m) = mcs_raws m

-- each value has a raw number
abbrev pub has_raws : Message → Bool
has_raws (SafetyControl m) = true
has_raws (SafetyState m) = true
has_raws (Probes m) = true
has_raws (Status m) = has_kilohms m.insulation
has_raws (Limits m) = true
has_raws (Sequence m) = true
has_raws (Outputs m) = true
has_raws (Session m) = has_capacity m.capacity
has_raws (Insulation m) = true
has_raws (Precharge m) = true
has_raws (Change m) = true
has_raws (Charging m) = true
has_raws (Stop m) = true
has_raws (Finished m) = true
has_raws (Controller m) = true
has_raws (Cui m) = true
has_raws (Secc m) = true
has_raws (Id m) = true
has_raws (Spcc m) = true
has_raws (Ccs m) = true
has_raws (Mcs m) = true

-- the numbers as `write_raws` of page_write takes them
abbrev pub padded : Message → List ℤ
padded m = pad signal_count (raws_of m)
