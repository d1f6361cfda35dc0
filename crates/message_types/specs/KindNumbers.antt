-- The number of each kind of message, in the table's order; from 12 to 29 the kinds of document 001.
use Rattle.std.specs.Prelude.{ℕ}
use Rattle.message_types.specs.declared.Message.{Message}
use Rattle.message_types.specs.declared.Message.TheVariants.{Status, Parameters, Controller, Session, Change, Control, Finished, Stop, Id, SafetyControl, SafetyState, Probes, Sequence, Outputs, Battery, Voltages, ChargeLimits, DischargeLimits, Energy, Cui, Secc, Spcc, Ccs, Mcs, Ocpp}
pub use Rattle.message_laws.specs.page_table.specs.Messages.{kind_count, message_count}

abbrev pub status_kind : ℕ
status_kind = 0

abbrev pub parameters_kind : ℕ
parameters_kind = 1

abbrev pub controller_kind : ℕ
controller_kind = 2

abbrev pub session_kind : ℕ
session_kind = 3

abbrev pub change_kind : ℕ
change_kind = 4

abbrev pub control_kind : ℕ
control_kind = 5

abbrev pub finished_kind : ℕ
finished_kind = 6

abbrev pub stop_kind : ℕ
stop_kind = 7

abbrev pub id_kind : ℕ
id_kind = 8

abbrev pub safety_control_kind : ℕ
safety_control_kind = 9

abbrev pub safety_state_kind : ℕ
safety_state_kind = 10

abbrev pub probes_kind : ℕ
probes_kind = 11

abbrev pub sequence_kind : ℕ
sequence_kind = 30

abbrev pub outputs_kind : ℕ
outputs_kind = 31

abbrev pub battery_kind : ℕ
battery_kind = 32

abbrev pub voltages_kind : ℕ
voltages_kind = 33

abbrev pub charge_limits_kind : ℕ
charge_limits_kind = 34

abbrev pub discharge_limits_kind : ℕ
discharge_limits_kind = 35

abbrev pub energy_kind : ℕ
energy_kind = 36

abbrev pub cui_kind : ℕ
cui_kind = 37

abbrev pub secc_kind : ℕ
secc_kind = 38

abbrev pub spcc_kind : ℕ
spcc_kind = 39

abbrev pub ccs_kind : ℕ
ccs_kind = 40

abbrev pub mcs_kind : ℕ
mcs_kind = 41

abbrev pub ocpp_kind : ℕ
ocpp_kind = 42

abbrev pub kind_of : Message → ℕ
kind_of (Status m) = status_kind
kind_of (Parameters m) = parameters_kind
kind_of (Controller m) = controller_kind
kind_of (Session m) = session_kind
kind_of (Change m) = change_kind
kind_of (Control m) = control_kind
kind_of (Finished m) = finished_kind
kind_of (Stop m) = stop_kind
kind_of (Id m) = id_kind
kind_of (SafetyControl m) = safety_control_kind
kind_of (SafetyState m) = safety_state_kind
kind_of (Probes m) = probes_kind
kind_of (Sequence m) = sequence_kind
kind_of (Outputs m) = outputs_kind
kind_of (Battery m) = battery_kind
kind_of (Voltages m) = voltages_kind
kind_of (ChargeLimits m) = charge_limits_kind
kind_of (DischargeLimits m) = discharge_limits_kind
kind_of (Energy m) = energy_kind
kind_of (Cui m) = cui_kind
kind_of (Secc m) = secc_kind
kind_of (Spcc m) = spcc_kind
kind_of (Ccs m) = ccs_kind
kind_of (Mcs m) = mcs_kind
kind_of (Ocpp m) = ocpp_kind
