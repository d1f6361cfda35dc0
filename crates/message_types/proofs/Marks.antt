-- Each label type against its signal of the table (`Label` of message_laws). Assumes nothing.
use mathlib.Core.Path.{refl}
use Rattle.message_laws.specs.page_table.specs.Table.{rows, of_kind}
use Rattle.message_laws.proofs.Labelled.{signal_at, Label, Mark, marked, same_label}
use Rattle.message_types.specs.declared.SystemEnable.{SystemEnable}
use Rattle.message_types.specs.declared.SystemEnable.TheVariants as enable
use Rattle.message_types.specs.declared.ControllerState.{ControllerState}
use Rattle.message_types.specs.declared.ControllerState.TheVariants as state
use Rattle.message_types.specs.declared.Protocol.{Protocol}
use Rattle.message_types.specs.declared.Protocol.TheVariants as protocol
use Rattle.message_types.specs.declared.Plug.{Plug}
use Rattle.message_types.specs.declared.Plug.TheVariants as plug
use Rattle.message_types.specs.declared.ChargeStatus.{ChargeStatus}
use Rattle.message_types.specs.declared.ChargeStatus.TheVariants as status
use Rattle.message_types.specs.declared.PowerFunction.{PowerFunction}
use Rattle.message_types.specs.declared.PowerFunction.TheVariants as function
use Rattle.message_types.specs.declared.SetpointsMode.{SetpointsMode}
use Rattle.message_types.specs.declared.SetpointsMode.TheVariants as mode
use Rattle.message_types.specs.declared.OutputContactors.{OutputContactors}
use Rattle.message_types.specs.declared.OutputContactors.TheVariants as contactors
use Rattle.message_types.specs.declared.LowerOutput.{LowerOutput}
use Rattle.message_types.specs.declared.LowerOutput.TheVariants as lowering
use Rattle.message_types.specs.declared.SessionEnd.{SessionEnd}
use Rattle.message_types.specs.declared.SessionEnd.TheVariants as end
use Rattle.message_types.specs.declared.StopOrigin.{StopOrigin}
use Rattle.message_types.specs.declared.StopOrigin.TheVariants as origin
use Rattle.message_types.specs.declared.CpState.{CpState}
use Rattle.message_types.specs.declared.CpState.TheVariants as cp
use Rattle.message_types.specs.declared.PpState.{PpState}
use Rattle.message_types.specs.declared.PpState.TheVariants as pp
use Rattle.message_types.specs.declared.Permission.{Permission}
use Rattle.message_types.specs.declared.Permission.TheVariants as permission
use Rattle.message_types.specs.declared.Button.{Button}
use Rattle.message_types.specs.declared.Button.TheVariants as button
use Rattle.message_types.specs.declared.Step.{Step}
use Rattle.message_types.specs.declared.Step.TheVariants as step
use Rattle.message_types.specs.declared.Validity.{Validity}
use Rattle.message_types.specs.declared.Validity.TheVariants as validity
use Rattle.message_types.specs.declared.PilotState.{PilotState}
use Rattle.message_types.specs.declared.PilotState.TheVariants as pilot
use Rattle.message_types.specs.declared.CeState.{CeState}
use Rattle.message_types.specs.declared.CeState.TheVariants as ce
use Rattle.message_types.specs.declared.Mating.{Mating}
use Rattle.message_types.specs.declared.Mating.TheVariants as mating
use Rattle.message_types.specs.KindNumbers.{status_kind, controller_kind, session_kind, change_kind, control_kind, finished_kind, stop_kind, safety_state_kind, sequence_kind, ccs_kind, mcs_kind}
use Rattle.message_types.specs.Labels.{enable_number, enable_of, state_number, state_of, protocol_number, protocol_of, plug_number, plug_of, status_number, status_of, function_number, function_of, mode_number, mode_of, contactors_number, contactors_of, lowering_number, lowering_of, end_number, end_of, origin_number, origin_of, cp_number, cp_of, pp_number, pp_of, permission_number, permission_of, button_number, button_of, step_number, step_of, validity_number, validity_of, pilot_number, pilot_of, ce_number, ce_of, mating_number, mating_of}

-- ---- the label types, each at its signal

pub enable_label : Label enable_number enable_of (signal_at status_kind 4)
unfolding rows of_kind
enable_label = marked each tt
  where
    each : (l : SystemEnable) → Mark enable_number enable_of (signal_at status_kind 4) l
    each enable.NotAllowed = (refl, refl, refl)
    each enable.Allowed = (refl, refl, refl)

pub state_label : Label state_number state_of (signal_at controller_kind 0)
unfolding rows of_kind
state_label = marked each tt
  where
    each : (l : ControllerState) → Mark state_number state_of (signal_at controller_kind 0) l
    each state.Initialising = (refl, refl, refl)
    each state.WaitingForPev = (refl, refl, refl)
    each state.NegotiatingConnection = (refl, refl, refl)
    each state.ConnectedWithFullInfo = (refl, refl, refl)
    each state.InsulationTest = (refl, refl, refl)
    each state.Precharge = (refl, refl, refl)
    each state.WaitingForCharge = (refl, refl, refl)
    each state.Charging = (refl, refl, refl)
    each state.EndingCharge = (refl, refl, refl)
    each state.WeldingDetection = (refl, refl, refl)
    each state.ClosingCommunication = (refl, refl, refl)
    each state.CcsAuthorisationProcess = (refl, refl, refl)
    each state.NotAvailable = (refl, refl, refl)
    each state.ChargePause = (refl, refl, refl)

pub protocol_label : Label protocol_number protocol_of (signal_at session_kind 0)
unfolding rows of_kind
protocol_label = marked each tt
  where
    each : (l : Protocol) → Mark protocol_number protocol_of (signal_at session_kind 0) l
    each protocol.CcsDin70121v2012 = (refl, refl, refl)
    each protocol.CcsIso15118v2010 = (refl, refl, refl)
    each protocol.CcsIso15118v2013 = (refl, refl, refl)
    each protocol.Chademo09 = (refl, refl, refl)
    each protocol.Chademo10 = (refl, refl, refl)
    each protocol.Chademo20 = (refl, refl, refl)
    each protocol.CcsPwm = (refl, refl, refl)
    each protocol.CcsIso15118v2022 = (refl, refl, refl)

pub plug_label : Label plug_number plug_of (signal_at session_kind 1)
unfolding rows of_kind
plug_label = marked each tt
  where
    each : (l : Plug) → Mark plug_number plug_of (signal_at session_kind 1) l
    each plug.CcsDcCore = (refl, refl, refl)
    each plug.CcsDcExtended = (refl, refl, refl)
    each plug.Chademo = (refl, refl, refl)
    each plug.CcsAc = (refl, refl, refl)
    each plug.Mcs = (refl, refl, refl)

pub status_label : Label status_number status_of (signal_at change_kind 0)
unfolding rows of_kind
status_label = marked each tt
  where
    each : (l : ChargeStatus) → Mark status_number status_of (signal_at change_kind 0) l
    each status.ChargeStopped = (refl, refl, refl)
    each status.ChargeStarted = (refl, refl, refl)

pub function_label : Label function_number function_of (signal_at control_kind 3)
unfolding rows of_kind
function_label = marked each tt
  where
    each : (l : PowerFunction) → Mark function_number function_of (signal_at control_kind 3) l
    each function.Off = (refl, refl, refl)
    each function.Standby = (refl, refl, refl)
    each function.InsulationTest = (refl, refl, refl)
    each function.Precharge = (refl, refl, refl)
    each function.PowerTransfer = (refl, refl, refl)

pub mode_label : Label mode_number mode_of (signal_at control_kind 5)
unfolding rows of_kind
mode_label = marked each tt
  where
    each : (l : SetpointsMode) → Mark mode_number mode_of (signal_at control_kind 5) l
    each mode.TargetMode = (refl, refl, refl)
    each mode.RangeMode = (refl, refl, refl)

pub contactors_label : Label contactors_number contactors_of (signal_at control_kind 6)
unfolding rows of_kind
contactors_label = marked each tt
  where
    each : (l : OutputContactors) → Mark contactors_number contactors_of (signal_at control_kind 6) l
    each contactors.Open = (refl, refl, refl)
    each contactors.Close = (refl, refl, refl)

pub lowering_label : Label lowering_number lowering_of (signal_at control_kind 7)
unfolding rows of_kind
lowering_label = marked each tt
  where
    each : (l : LowerOutput) → Mark lowering_number lowering_of (signal_at control_kind 7) l
    each lowering.NoLowering = (refl, refl, refl)
    each lowering.Lowering = (refl, refl, refl)

pub end_label : Label end_number end_of (signal_at finished_kind 0)
unfolding rows of_kind
end_label = marked each tt
  where
    each : (l : SessionEnd) → Mark end_number end_of (signal_at finished_kind 0) l
    each end.CleanStop = (refl, refl, refl)
    each end.RushedStop = (refl, refl, refl)

pub origin_label : Label origin_number origin_of (signal_at stop_kind 0)
unfolding rows of_kind
origin_label = marked each tt
  where
    each : (l : StopOrigin) → Mark origin_number origin_of (signal_at stop_kind 0) l
    each origin.Evse = (refl, refl, refl)
    each origin.Pev = (refl, refl, refl)

pub cp_label : Label cp_number cp_of (signal_at safety_state_kind 2)
unfolding rows of_kind
cp_label = marked each tt
  where
    each : (l : CpState) → Mark cp_number cp_of (signal_at safety_state_kind 2) l
    each cp.Unknown = (refl, refl, refl)
    each cp.A = (refl, refl, refl)
    each cp.B = (refl, refl, refl)
    each cp.C = (refl, refl, refl)
    each cp.D = (refl, refl, refl)
    each cp.E = (refl, refl, refl)
    each cp.F = (refl, refl, refl)
    each cp.Invalid = (refl, refl, refl)

pub pp_label : Label pp_number pp_of (signal_at safety_state_kind 5)
unfolding rows of_kind
pp_label = marked each tt
  where
    each : (l : PpState) → Mark pp_number pp_of (signal_at safety_state_kind 5) l
    each pp.NoCable = (refl, refl, refl)
    each pp.Amps13 = (refl, refl, refl)
    each pp.Amps20 = (refl, refl, refl)
    each pp.Amps32 = (refl, refl, refl)
    each pp.Amps63 = (refl, refl, refl)
    each pp.Type1 = (refl, refl, refl)
    each pp.Type1Pressed = (refl, refl, refl)
    each pp.Error = (refl, refl, refl)

pub permission_label : Label permission_number permission_of (signal_at sequence_kind 0)
unfolding rows of_kind
permission_label = marked each tt
  where
    each : (l : Permission) → Mark permission_number permission_of (signal_at sequence_kind 0) l
    each permission.NotAllowed = (refl, refl, refl)
    each permission.Allowed = (refl, refl, refl)

pub button_label : Label button_number button_of (signal_at sequence_kind 1)
unfolding rows of_kind
button_label = marked each tt
  where
    each : (l : Button) → Mark button_number button_of (signal_at sequence_kind 1) l
    each button.NotPressed = (refl, refl, refl)
    each button.Pressed = (refl, refl, refl)

pub step_label : Label step_number step_of (signal_at sequence_kind 2)
unfolding rows of_kind
step_label = marked each tt
  where
    each : (l : Step) → Mark step_number step_of (signal_at sequence_kind 2) l
    each step.NotDone = (refl, refl, refl)
    each step.Done = (refl, refl, refl)

pub validity_label : Label validity_number validity_of (signal_at sequence_kind 3)
unfolding rows of_kind
validity_label = marked each tt
  where
    each : (l : Validity) → Mark validity_number validity_of (signal_at sequence_kind 3) l
    each validity.Invalid = (refl, refl, refl)
    each validity.Valid = (refl, refl, refl)

pub parameters_label : Label step_number step_of (signal_at sequence_kind 4)
unfolding rows of_kind
parameters_label = same_label (signal_at sequence_kind 4) refl refl step_label

pub stop_label : Label button_number button_of (signal_at sequence_kind 5)
unfolding rows of_kind
stop_label = same_label (signal_at sequence_kind 5) refl refl button_label

pub pilot_label : Label pilot_number pilot_of (signal_at ccs_kind 0)
unfolding rows of_kind
pilot_label = marked each tt
  where
    each : (l : PilotState) → Mark pilot_number pilot_of (signal_at ccs_kind 0) l
    each pilot.EOrF = (refl, refl, refl)
    each pilot.D = (refl, refl, refl)
    each pilot.C = (refl, refl, refl)
    each pilot.B = (refl, refl, refl)
    each pilot.A = (refl, refl, refl)

pub ce_label : Label ce_number ce_of (signal_at mcs_kind 0)
unfolding rows of_kind
ce_label = marked each tt
  where
    each : (l : CeState) → Mark ce_number ce_of (signal_at mcs_kind 0) l
    each ce.Undefined = (refl, refl, refl)
    each ce.A = (refl, refl, refl)
    each ce.B0 = (refl, refl, refl)
    each ce.B0Aux = (refl, refl, refl)
    each ce.B = (refl, refl, refl)
    each ce.BAux = (refl, refl, refl)
    each ce.C = (refl, refl, refl)
    each ce.CAux = (refl, refl, refl)
    each ce.Ec = (refl, refl, refl)
    each ce.E = (refl, refl, refl)

pub mating_label : Label mating_number mating_of (signal_at mcs_kind 1)
unfolding rows of_kind
mating_label = marked each tt
  where
    each : (l : Mating) → Mark mating_number mating_of (signal_at mcs_kind 1) l
    each mating.Unmated = (refl, refl, refl)
    each mating.Mated = (refl, refl, refl)
    each mating.MatedEvAux = (refl, refl, refl)
    each mating.MatedEvseAux = (refl, refl, refl)
