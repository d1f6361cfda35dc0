-- The label tables of documents 000 and 004: each label with its number. A raw number without a label is refused (`unlabelled` of pages) before its label is
-- asked; the last one stands there.
use Rattle.std.specs.Prelude.{ℕ, cond, eqb}
use Rattle.message_types.specs.declared.SystemEnable.{SystemEnable}
use Rattle.message_types.specs.declared.SystemEnable.TheVariants as enable
use Rattle.message_types.specs.declared.ControllerState.{ControllerState}
use Rattle.message_types.specs.declared.ControllerState.TheVariants as state
use Rattle.message_types.specs.declared.Protocol.{Protocol}
use Rattle.message_types.specs.declared.Protocol.TheVariants as protocol
use Rattle.message_types.specs.declared.Plug.{Plug}
use Rattle.message_types.specs.declared.Plug.TheVariants as plug
use Rattle.message_types.specs.declared.ChargeStatus.{ChargeStatus}
use Rattle.message_types.specs.declared.ChargeStatus.TheVariants as status
use Rattle.message_types.specs.declared.PowerFunction.{PowerFunction}
use Rattle.message_types.specs.declared.PowerFunction.TheVariants as function
use Rattle.message_types.specs.declared.SetpointsMode.{SetpointsMode}
use Rattle.message_types.specs.declared.SetpointsMode.TheVariants as mode
use Rattle.message_types.specs.declared.OutputContactors.{OutputContactors}
use Rattle.message_types.specs.declared.OutputContactors.TheVariants as contactors
use Rattle.message_types.specs.declared.LowerOutput.{LowerOutput}
use Rattle.message_types.specs.declared.LowerOutput.TheVariants as lowering
use Rattle.message_types.specs.declared.SessionEnd.{SessionEnd}
use Rattle.message_types.specs.declared.SessionEnd.TheVariants as end
use Rattle.message_types.specs.declared.StopOrigin.{StopOrigin}
use Rattle.message_types.specs.declared.StopOrigin.TheVariants as origin
use Rattle.message_types.specs.declared.CpState.{CpState}
use Rattle.message_types.specs.declared.CpState.TheVariants as cp
use Rattle.message_types.specs.declared.PpState.{PpState}
use Rattle.message_types.specs.declared.PpState.TheVariants as pp
use Rattle.message_types.specs.declared.Permission.{Permission}
use Rattle.message_types.specs.declared.Permission.TheVariants as permission
use Rattle.message_types.specs.declared.Button.{Button}
use Rattle.message_types.specs.declared.Button.TheVariants as button
use Rattle.message_types.specs.declared.Step.{Step}
use Rattle.message_types.specs.declared.Step.TheVariants as step
use Rattle.message_types.specs.declared.Validity.{Validity}
use Rattle.message_types.specs.declared.Validity.TheVariants as validity
use Rattle.message_types.specs.declared.PilotState.{PilotState}
use Rattle.message_types.specs.declared.PilotState.TheVariants as pilot
use Rattle.message_types.specs.declared.CeState.{CeState}
use Rattle.message_types.specs.declared.CeState.TheVariants as ce
use Rattle.message_types.specs.declared.Mating.{Mating}
use Rattle.message_types.specs.declared.Mating.TheVariants as mating

abbrev pub enable_number : SystemEnable → ℕ
enable_number enable.NotAllowed = 0
enable_number enable.Allowed = 1

abbrev pub enable_of : ℕ → SystemEnable
enable_of x = cond (eqb x 0) enable.NotAllowed enable.Allowed

abbrev pub state_number : ControllerState → ℕ
state_number state.Initialising = 0
state_number state.WaitingForPev = 1
state_number state.NegotiatingConnection = 2
state_number state.ConnectedWithFullInfo = 3
state_number state.InsulationTest = 4
state_number state.Precharge = 5
state_number state.WaitingForCharge = 6
state_number state.Charging = 7
state_number state.EndingCharge = 8
state_number state.WeldingDetection = 9
state_number state.ClosingCommunication = 10
state_number state.CcsAuthorisationProcess = 11
state_number state.NotAvailable = 12
state_number state.ChargePause = 13

abbrev pub state_of : ℕ → ControllerState
state_of x =
    cond (eqb x 0) state.Initialising
    (cond (eqb x 1) state.WaitingForPev
    (cond (eqb x 2) state.NegotiatingConnection
    (cond (eqb x 3) state.ConnectedWithFullInfo
    (cond (eqb x 4) state.InsulationTest
    (cond (eqb x 5) state.Precharge
    (cond (eqb x 6) state.WaitingForCharge
    (cond (eqb x 7) state.Charging
    (cond (eqb x 8) state.EndingCharge
    (cond (eqb x 9) state.WeldingDetection
    (cond (eqb x 10) state.ClosingCommunication
    (cond (eqb x 11) state.CcsAuthorisationProcess
    (cond (eqb x 12) state.NotAvailable state.ChargePause))))))))))))

abbrev pub protocol_number : Protocol → ℕ
protocol_number protocol.CcsDin70121v2012 = 0
protocol_number protocol.CcsIso15118v2010 = 1
protocol_number protocol.CcsIso15118v2013 = 2
protocol_number protocol.Chademo09 = 3
protocol_number protocol.Chademo10 = 4
protocol_number protocol.Chademo20 = 5
protocol_number protocol.CcsPwm = 6
protocol_number protocol.CcsIso15118v2022 = 7

abbrev pub protocol_of : ℕ → Protocol
protocol_of x =
    cond (eqb x 0) protocol.CcsDin70121v2012
    (cond (eqb x 1) protocol.CcsIso15118v2010
    (cond (eqb x 2) protocol.CcsIso15118v2013
    (cond (eqb x 3) protocol.Chademo09
    (cond (eqb x 4) protocol.Chademo10
    (cond (eqb x 5) protocol.Chademo20
    (cond (eqb x 6) protocol.CcsPwm protocol.CcsIso15118v2022))))))

abbrev pub plug_number : Plug → ℕ
plug_number plug.CcsDcCore = 0
plug_number plug.CcsDcExtended = 1
plug_number plug.Chademo = 2
plug_number plug.CcsAc = 3
plug_number plug.Mcs = 4

abbrev pub plug_of : ℕ → Plug
plug_of x =
    cond (eqb x 0) plug.CcsDcCore
    (cond (eqb x 1) plug.CcsDcExtended
    (cond (eqb x 2) plug.Chademo
    (cond (eqb x 3) plug.CcsAc plug.Mcs)))

abbrev pub status_number : ChargeStatus → ℕ
status_number status.ChargeStopped = 0
status_number status.ChargeStarted = 1

abbrev pub status_of : ℕ → ChargeStatus
status_of x = cond (eqb x 0) status.ChargeStopped status.ChargeStarted

abbrev pub function_number : PowerFunction → ℕ
function_number function.Off = 0
function_number function.Standby = 1
function_number function.InsulationTest = 2
function_number function.Precharge = 4
function_number function.PowerTransfer = 8

abbrev pub function_of : ℕ → PowerFunction
function_of x =
    cond (eqb x 0) function.Off
    (cond (eqb x 1) function.Standby
    (cond (eqb x 2) function.InsulationTest
    (cond (eqb x 4) function.Precharge function.PowerTransfer)))

abbrev pub mode_number : SetpointsMode → ℕ
mode_number mode.TargetMode = 0
mode_number mode.RangeMode = 1

abbrev pub mode_of : ℕ → SetpointsMode
mode_of x = cond (eqb x 0) mode.TargetMode mode.RangeMode

abbrev pub contactors_number : OutputContactors → ℕ
contactors_number contactors.Open = 0
contactors_number contactors.Close = 1

abbrev pub contactors_of : ℕ → OutputContactors
contactors_of x = cond (eqb x 0) contactors.Open contactors.Close

abbrev pub lowering_number : LowerOutput → ℕ
lowering_number lowering.NoLowering = 0
lowering_number lowering.Lowering = 1

abbrev pub lowering_of : ℕ → LowerOutput
lowering_of x = cond (eqb x 0) lowering.NoLowering lowering.Lowering

abbrev pub end_number : SessionEnd → ℕ
end_number end.CleanStop = 0
end_number end.RushedStop = 1

abbrev pub end_of : ℕ → SessionEnd
end_of x = cond (eqb x 0) end.CleanStop end.RushedStop

abbrev pub origin_number : StopOrigin → ℕ
origin_number origin.Evse = 1
origin_number origin.Pev = 3

abbrev pub origin_of : ℕ → StopOrigin
origin_of x = cond (eqb x 1) origin.Evse origin.Pev

abbrev pub cp_number : CpState → ℕ
cp_number cp.Unknown = 0
cp_number cp.A = 1
cp_number cp.B = 2
cp_number cp.C = 3
cp_number cp.D = 4
cp_number cp.E = 5
cp_number cp.F = 6
cp_number cp.Invalid = 7

abbrev pub cp_of : ℕ → CpState
cp_of x =
    cond (eqb x 0) cp.Unknown
    (cond (eqb x 1) cp.A
    (cond (eqb x 2) cp.B
    (cond (eqb x 3) cp.C
    (cond (eqb x 4) cp.D
    (cond (eqb x 5) cp.E
    (cond (eqb x 6) cp.F cp.Invalid))))))

abbrev pub pp_number : PpState → ℕ
pp_number pp.NoCable = 0
pp_number pp.Amps13 = 1
pp_number pp.Amps20 = 2
pp_number pp.Amps32 = 3
pp_number pp.Amps63 = 4
pp_number pp.Type1 = 5
pp_number pp.Type1Pressed = 6
pp_number pp.Error = 7

abbrev pub pp_of : ℕ → PpState
pp_of x =
    cond (eqb x 0) pp.NoCable
    (cond (eqb x 1) pp.Amps13
    (cond (eqb x 2) pp.Amps20
    (cond (eqb x 3) pp.Amps32
    (cond (eqb x 4) pp.Amps63
    (cond (eqb x 5) pp.Type1
    (cond (eqb x 6) pp.Type1Pressed pp.Error))))))

abbrev pub permission_number : Permission → ℕ
permission_number permission.NotAllowed = 0
permission_number permission.Allowed = 1

abbrev pub permission_of : ℕ → Permission
permission_of x = cond (eqb x 0) permission.NotAllowed permission.Allowed

abbrev pub button_number : Button → ℕ
button_number button.NotPressed = 0
button_number button.Pressed = 1

abbrev pub button_of : ℕ → Button
button_of x = cond (eqb x 0) button.NotPressed button.Pressed

abbrev pub step_number : Step → ℕ
step_number step.NotDone = 0
step_number step.Done = 1

abbrev pub step_of : ℕ → Step
step_of x = cond (eqb x 0) step.NotDone step.Done

abbrev pub validity_number : Validity → ℕ
validity_number validity.Invalid = 0
validity_number validity.Valid = 1

abbrev pub validity_of : ℕ → Validity
validity_of x = cond (eqb x 0) validity.Invalid validity.Valid

abbrev pub pilot_number : PilotState → ℕ
pilot_number pilot.EOrF = 0
pilot_number pilot.D = 3
pilot_number pilot.C = 6
pilot_number pilot.B = 9
pilot_number pilot.A = 12

abbrev pub pilot_of : ℕ → PilotState
pilot_of x =
    cond (eqb x 0) pilot.EOrF
    (cond (eqb x 3) pilot.D
    (cond (eqb x 6) pilot.C
    (cond (eqb x 9) pilot.B pilot.A)))

abbrev pub ce_number : CeState → ℕ
ce_number ce.Undefined = 0
ce_number ce.A = 1
ce_number ce.B0 = 2
ce_number ce.B0Aux = 3
ce_number ce.B = 4
ce_number ce.BAux = 5
ce_number ce.C = 6
ce_number ce.CAux = 7
ce_number ce.Ec = 8
ce_number ce.E = 9

abbrev pub ce_of : ℕ → CeState
ce_of x =
    cond (eqb x 0) ce.Undefined
    (cond (eqb x 1) ce.A
    (cond (eqb x 2) ce.B0
    (cond (eqb x 3) ce.B0Aux
    (cond (eqb x 4) ce.B
    (cond (eqb x 5) ce.BAux
    (cond (eqb x 6) ce.C
    (cond (eqb x 7) ce.CAux
    (cond (eqb x 8) ce.Ec ce.E))))))))

abbrev pub mating_number : Mating → ℕ
mating_number mating.Unmated = 0
mating_number mating.Mated = 1
mating_number mating.MatedEvAux = 2
mating_number mating.MatedEvseAux = 3

abbrev pub mating_of : ℕ → Mating
mating_of x =
    cond (eqb x 0) mating.Unmated
    (cond (eqb x 1) mating.Mated
    (cond (eqb x 2) mating.MatedEvAux mating.MatedEvseAux))
