-- The message of a kind, of its signals' raw numbers and of a payload number.
use Rattle.std.specs.Prelude.{ℕ, cond, eqb, ℤ}
use Rattle.page_write.specs.Raws as pages
use Rattle.message_types.specs.declared.Message.{Message}
use Rattle.message_types.specs.declared.Message.TheVariants.{Status, Parameters, Controller, Session, Change, Control, Finished, Stop, Id, SafetyControl, SafetyState, Probes, Sequence, Outputs, Battery, Voltages, ChargeLimits, DischargeLimits, Energy, Cui, Secc, Spcc, Ccs, Mcs, Ocpp}
use Rattle.message_types.specs.KindNumbers.{status_kind, parameters_kind, controller_kind, session_kind, change_kind, control_kind, finished_kind, stop_kind, id_kind, safety_control_kind, safety_state_kind, probes_kind, sequence_kind, outputs_kind, battery_kind, voltages_kind, charge_limits_kind, discharge_limits_kind, energy_kind, cui_kind, secc_kind, spcc_kind, ccs_kind, mcs_kind}
use Rattle.message_fields.specs.Fields.{at}
use Rattle.message_charger.specs.message_parts.specs.Watched.{status_of, parameters_of, session_of, control_of}
use Rattle.message_charger.specs.Build.{controller_of, change_of, finished_of, stop_of, id_of}
use Rattle.message_safety.specs.Build.{safety_control_of, safety_state_of}
use Rattle.message_probes.specs.Build.{probes_of}
use Rattle.message_inputs.specs.Build.{cui_of, secc_of}
use Rattle.message_extra.specs.Build.{spcc_of, ccs_of, mcs_of}
use Rattle.message_sequence.specs.Build.{sequence_of, outputs_of}
use Rattle.message_vehicle.specs.Build.{battery_of, voltages_of, limits_of, energy_of, ocpp_of}

-- the message of a kind; for a number that is no kind, the last one
unfoldable pub built_of : ℕ → (ℕ → ℤ) → Message
built_of k f =
    cond (eqb k status_kind) (Status (status_of f))
    (cond (eqb k parameters_kind) (Parameters (parameters_of f))
    (cond (eqb k controller_kind) (Controller (controller_of f))
    (cond (eqb k session_kind) (Session (session_of f))
    (cond (eqb k change_kind) (Change (change_of f))
    (cond (eqb k control_kind) (Control (control_of f))
    (cond (eqb k finished_kind) (Finished (finished_of f))
    (cond (eqb k stop_kind) (Stop (stop_of f))
    (cond (eqb k id_kind) (Id (id_of f))
    (cond (eqb k safety_control_kind) (SafetyControl (safety_control_of f))
    (cond (eqb k safety_state_kind) (SafetyState (safety_state_of f))
    (cond (eqb k probes_kind) (Probes (probes_of f))
    (cond (eqb k sequence_kind) (Sequence (sequence_of f))
    (cond (eqb k outputs_kind) (Outputs (outputs_of f))
    (cond (eqb k battery_kind) (Battery (battery_of f))
    (cond (eqb k voltages_kind) (Voltages (voltages_of f))
    (cond (eqb k charge_limits_kind) (ChargeLimits (limits_of f))
    (cond (eqb k discharge_limits_kind) (DischargeLimits (limits_of f))
    (cond (eqb k energy_kind) (Energy (energy_of f))
    (cond (eqb k cui_kind) (Cui (cui_of f))
    (cond (eqb k secc_kind) (Secc (secc_of f))
    (cond (eqb k spcc_kind) (Spcc (spcc_of f))
    (cond (eqb k ccs_kind) (Ccs (ccs_of f))
    (cond (eqb k mcs_kind) (Mcs (mcs_of f))
    (Ocpp (ocpp_of f)))))))))))))))))))))))))

unfoldable pub message_of : ℕ → ℕ → Message
message_of k n = built_of k (at (pages.raws_of k n))
