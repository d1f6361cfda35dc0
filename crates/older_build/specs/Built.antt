-- The message of a kind of the older interface, of its signals' raw numbers and of a payload number.
use Rattle.std.specs.Prelude.{ℕ, cond, eqb, ℤ}
use Rattle.page_write.specs.Raws as pages
use Rattle.older_types.specs.declared.Message.{Message}
use Rattle.older_types.specs.declared.Message.TheVariants.{SafetyControl, SafetyState, Probes, Status, Limits, Sequence, Outputs, Session, Insulation, Precharge, Change, Charging, Stop, Finished, Controller, Cui, Secc, Id, Spcc, Ccs, Mcs}
use Rattle.older_types.specs.KindNumbers.{safety_control_kind, safety_state_kind, probes_kind, status_kind, limits_kind, sequence_kind, outputs_kind, session_kind, insulation_kind, precharge_kind, change_kind, charging_kind, stop_kind, finished_kind, controller_kind, cui_kind, secc_kind, id_kind, spcc_kind, ccs_kind}
use Rattle.message_fields.specs.Fields.{at}
use Rattle.message_charger.specs.message_parts.specs.Watched.{status_of}
use Rattle.message_charger.specs.Build.{controller_of, change_of, finished_of, stop_of, id_of}
use Rattle.message_safety.specs.Build.{safety_control_of, safety_state_of}
use Rattle.message_probes.specs.Build.{probes_of}
use Rattle.message_inputs.specs.Build.{cui_of, secc_of}
use Rattle.message_extra.specs.Build.{spcc_of, ccs_of, mcs_of}
use Rattle.message_sequence.specs.Build.{sequence_of, outputs_of}
use Rattle.older_power.specs.Build.{limits_of, session_of, insulation_of, precharge_of, charging_of}

-- the message of a kind; for a number that is no kind of the interface, the last one
unfoldable pub built_of : ℕ → (ℕ → ℤ) → Message
built_of k f =
    cond (eqb k safety_control_kind) (SafetyControl (safety_control_of f))
    (cond (eqb k safety_state_kind) (SafetyState (safety_state_of f))
    (cond (eqb k probes_kind) (Probes (probes_of f))
    (cond (eqb k status_kind) (Status (status_of f))
    (cond (eqb k limits_kind) (Limits (limits_of f))
    (cond (eqb k sequence_kind) (Sequence (sequence_of f))
    (cond (eqb k outputs_kind) (Outputs (outputs_of f))
    (cond (eqb k session_kind) (Session (session_of f))
    (cond (eqb k insulation_kind) (Insulation (insulation_of f))
    (cond (eqb k precharge_kind) (Precharge (precharge_of f))
    (cond (eqb k change_kind) (Change (change_of f))
    (cond (eqb k charging_kind) (Charging (charging_of f))
    (cond (eqb k stop_kind) (Stop (stop_of f))
    (cond (eqb k finished_kind) (Finished (finished_of f))
    (cond (eqb k controller_kind) (Controller (controller_of f))
    (cond (eqb k cui_kind) (Cui (cui_of f))
    (cond (eqb k secc_kind) (Secc (secc_of f))
    (cond (eqb k id_kind) (Id (id_of f))
    (cond (eqb k spcc_kind) (Spcc (spcc_of f))
    (cond (eqb k ccs_kind) (Ccs (ccs_of f))
    (Mcs (mcs_of f)))))))))))))))))))))

unfoldable pub message_of : ℕ → ℕ → Message
message_of k n = built_of k (at (pages.raws_of k n))
