-- The number of each kind of message of the older interface, in the table's order.
use Rattle.std.specs.Prelude.{ℕ}
use Rattle.older_types.specs.declared.Message.{Message}
use Rattle.older_types.specs.declared.Message.TheVariants.{SafetyControl, SafetyState, Probes, Status, Limits, Sequence, Outputs, Session, Insulation, Precharge, Change, Charging, Stop, Finished, Controller, Cui, Secc, Id, Spcc, Ccs, Mcs}
pub use Rattle.page_table.specs.Messages.{message_count}
pub use Rattle.message_types.specs.KindNumbers.{safety_control_kind, safety_state_kind, probes_kind}

abbrev pub status_kind : ℕ
status_kind = 12

abbrev pub limits_kind : ℕ
limits_kind = 13

abbrev pub sequence_kind : ℕ
sequence_kind = 14

abbrev pub outputs_kind : ℕ
outputs_kind = 15

abbrev pub session_kind : ℕ
session_kind = 16

abbrev pub insulation_kind : ℕ
insulation_kind = 17

abbrev pub precharge_kind : ℕ
precharge_kind = 18

abbrev pub change_kind : ℕ
change_kind = 19

abbrev pub charging_kind : ℕ
charging_kind = 20

abbrev pub stop_kind : ℕ
stop_kind = 21

abbrev pub finished_kind : ℕ
finished_kind = 22

abbrev pub controller_kind : ℕ
controller_kind = 23

abbrev pub cui_kind : ℕ
cui_kind = 24

abbrev pub secc_kind : ℕ
secc_kind = 25

abbrev pub id_kind : ℕ
id_kind = 26

abbrev pub spcc_kind : ℕ
spcc_kind = 27

abbrev pub ccs_kind : ℕ
ccs_kind = 28

abbrev pub mcs_kind : ℕ
mcs_kind = 29

abbrev pub kind_of : Message → ℕ
kind_of (SafetyControl m) = safety_control_kind
kind_of (SafetyState m) = safety_state_kind
kind_of (Probes m) = probes_kind
kind_of (Status m) = status_kind
kind_of (Limits m) = limits_kind
kind_of (Sequence m) = sequence_kind
kind_of (Outputs m) = outputs_kind
kind_of (Session m) = session_kind
kind_of (Insulation m) = insulation_kind
kind_of (Precharge m) = precharge_kind
kind_of (Change m) = change_kind
kind_of (Charging m) = charging_kind
kind_of (Stop m) = stop_kind
kind_of (Finished m) = finished_kind
kind_of (Controller m) = controller_kind
kind_of (Cui m) = cui_kind
kind_of (Secc m) = secc_kind
kind_of (Id m) = id_kind
kind_of (Spcc m) = spcc_kind
kind_of (Ccs m) = ccs_kind
kind_of (Mcs m) = mcs_kind
