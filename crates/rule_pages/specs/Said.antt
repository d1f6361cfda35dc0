-- What a frame that answers a question of 01's rules says, in the words of 000: of a frame of 001, by the pages of 001 (02, Req 11).
use Rattle.std.specs.Prelude.{ℕ, false, cond, eqb, pos}
use Rattle.page_write.specs.Raws.{raws_of}
use Rattle.message_fields.specs.Fields.{at, word_of}
use Rattle.older_types.specs.message_types.specs.declared.PowerModulesStatus.{PowerModulesStatus}
use Rattle.older_types.specs.message_types.specs.declared.DcPowerParameters.{DcPowerParameters}
use Rattle.older_types.specs.message_types.specs.declared.NewChargeSession.{NewChargeSession}
use Rattle.older_types.specs.message_types.specs.declared.DcPowerControl.{DcPowerControl}
use Rattle.older_types.specs.message_types.specs.declared.PowerFunction.{PowerFunction}
use Rattle.older_types.specs.message_types.specs.declared.PowerFunction.TheVariants.{InsulationTest, Precharge, PowerTransfer}
use Rattle.older_types.specs.message_types.specs.declared.SetpointsMode.TheVariants.{TargetMode}
use Rattle.older_types.specs.message_types.specs.declared.OutputContactors.TheVariants.{Open}
use Rattle.older_types.specs.message_types.specs.declared.LowerOutput.TheVariants.{NoLowering}
use Rattle.message_parts.specs.Watched.{status_of}
use Rattle.message_parts.specs.Parts.{status_in, parameters_in, session_in, control_in}
use Rattle.older_types.specs.declared.NewChargeSession as older_session
use Rattle.older_types.specs.declared.PowerModulesLimits.{PowerModulesLimits}
use Rattle.older_types.specs.KindNumbers as older
use Rattle.older_power.specs.Build as page

-- ---- Power_Modules_Status, field by field

abbrev pub same_status : PowerModulesStatus → PowerModulesStatus
same_status s =
    record {
      voltage = s.voltage;
      current = s.current;
      modules = s.modules;
      enclosure = s.enclosure;
      enable = s.enable;
      insulation = s.insulation;
    }

unfoldable pub status_by : ℕ → ℕ → PowerModulesStatus
status_by k n = cond (eqb k older.status_kind) (same_status (status_of (at (raws_of older.status_kind n)))) (status_in n)

-- ---- New_Charge_Session: "F10 compares protocol and plug only"

abbrev pub protocol_and_plug : older_session.NewChargeSession → NewChargeSession
protocol_and_plug s = record { protocol = s.protocol; plug = s.plug }

unfoldable pub opening_by : ℕ → ℕ → NewChargeSession
opening_by k n = cond (eqb k older.session_kind) (protocol_and_plug (page.session_of (at (raws_of older.session_kind n)))) (session_in n)

-- ---- DC_Power_Parameters: "Power_Modules_Limits sets the voltage and charge limits, a current of 0 or less meaning the default"

-- 0 means the default; a current below 0 says 0, and a discharge current is never told
abbrev pub told_by : PowerModulesLimits → DcPowerParameters
told_by m = record { voltage = m.voltage; charge = word_of m.current; discharge = 0; target = pos 0 }

unfoldable pub limits_in : ℕ → PowerModulesLimits
limits_in n = page.limits_of (at (raws_of older.limits_kind n))

unfoldable pub limits_by : ℕ → ℕ → DcPowerParameters
limits_by k n = cond (eqb k older.limits_kind) (told_by (limits_in n)) (parameters_in n)

-- ---- DC_Power_Control: the three functions, whatever the numbers of their messages; no contactors, no target and no lowering,
-- so that "F3, F6 and F7 give no finding there"

abbrev pub acting : PowerFunction → DcPowerControl
acting f =
    record {
      target = 0;
      max = pos 0;
      min = pos 0;
      function = f;
      reserved = false;
      mode = TargetMode;
      contactors = Open;
      lowering = NoLowering;
    }

unfoldable pub command_by : ℕ → ℕ → DcPowerControl
command_by k n =
    cond (eqb k older.insulation_kind) (acting InsulationTest)
    (cond (eqb k older.precharge_kind) (acting Precharge)
    (cond (eqb k older.charging_kind) (acting PowerTransfer)
    (control_in n)))
