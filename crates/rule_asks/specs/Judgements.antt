-- What a rule asks of a message's fields.
use Rattle.std.specs.Prelude.{ℕ, ◌*◌, Bool, true, false, not, ◌&&◌, ◌||◌, eqb, ltb, ℤ, pos, negsuc, neg_ℤ}
use Rattle.std.specs.Int.Signed.{lt_z}
use Rattle.message_types.specs.declared.SystemEnable.{SystemEnable}
use Rattle.message_types.specs.declared.SystemEnable.TheVariants.{NotAllowed, Allowed}
use Rattle.message_types.specs.declared.PowerFunction.{PowerFunction}
use Rattle.message_types.specs.declared.PowerFunction.TheVariants.{Off, Standby, InsulationTest, Precharge, PowerTransfer}
use Rattle.message_types.specs.declared.OutputContactors.{OutputContactors}
use Rattle.message_types.specs.declared.OutputContactors.TheVariants.{Open, Close}
use Rattle.message_types.specs.declared.LowerOutput.{LowerOutput}
use Rattle.message_types.specs.declared.LowerOutput.TheVariants.{NoLowering, Lowering}
use Rattle.message_types.specs.declared.PowerModulesStatus.{PowerModulesStatus}
use Rattle.message_types.specs.declared.NewChargeSession.{NewChargeSession}
use Rattle.message_types.specs.declared.DcPowerControl.{DcPowerControl}
use Rattle.message_types.specs.Labels.{protocol_number, plug_number}
use Rattle.rule_limits.specs.declared.Sensor.{Sensor}
use Rattle.rule_limits.specs.declared.Sensor.TheVariants.{Measuring, YesNo}

abbrev pub is_allowed : SystemEnable → Bool
is_allowed NotAllowed = false
is_allowed Allowed = true

-- "contactors Close"
abbrev pub is_close : OutputContactors → Bool
is_close Open = false
is_close Close = true

-- "insulation test, precharge or power transfer"
abbrev pub is_powered : PowerFunction → Bool
is_powered Off = false
is_powered Standby = false
is_powered InsulationTest = true
is_powered Precharge = true
is_powered PowerTransfer = true

-- "precharge or power transfer"
abbrev pub is_carrying : PowerFunction → Bool
is_carrying Off = false
is_carrying Standby = false
is_carrying InsulationTest = false
is_carrying Precharge = true
is_carrying PowerTransfer = true

abbrev pub is_off : PowerFunction → Bool
is_off Off = true
is_off Standby = false
is_off InsulationTest = false
is_off Precharge = false
is_off PowerTransfer = false

abbrev pub is_standby : PowerFunction → Bool
is_standby Off = false
is_standby Standby = true
is_standby InsulationTest = false
is_standby Precharge = false
is_standby PowerTransfer = false

abbrev pub is_lowering : LowerOutput → Bool
is_lowering NoLowering = false
is_lowering Lowering = true

abbrev pub is_zero : ℤ → Bool
is_zero (pos n) = eqb n 0
is_zero (negsuc n) = false

-- F6: "Lowering with a function other than standby, or with any DC_Power_Control signal in Volts or Amps not 0"
unfoldable pub lowers_badly : DcPowerControl → Bool
lowers_badly d = is_lowering d.lowering && not (is_standby d.function && (eqb d.target 0 && (is_zero d.max && is_zero d.min)))

-- F8: "current above the charge limit, or below minus the discharge limit"
unfoldable pub outside : ℤ → ℕ → ℕ → Bool
outside z charge discharge = lt_z (pos charge) z || lt_z z (neg_ℤ (pos discharge))

-- F9: "under 100 Ohm per volt of the same message's voltage": kOhm times 1,000 below 100 times tenths of a volt over 10
unfoldable pub leaking : PowerModulesStatus → Bool
leaking s = ltb (s.insulation * 100) s.voltage

-- 02, Req 03: "For a yes/no sensor F9's insulation test is raw 0 and nothing else; for a measuring one F9 stays."
-- Insulation is twice the raw number: 0 exactly where that is 0.
unfoldable pub bad_insulation : Sensor → PowerModulesStatus → Bool
bad_insulation Measuring s = leaking s
bad_insulation YesNo s = eqb s.insulation 0

-- F10: "another protocol or plug"
unfoldable pub differs : NewChargeSession → NewChargeSession → Bool
differs a b = not (eqb (protocol_number a.protocol) (protocol_number b.protocol)) || not (eqb (plug_number a.plug) (plug_number b.plug))

-- a flag that is kept as a word: 1, and every other number is none
abbrev pub is_set : ℕ → Bool
is_set n = eqb n 1

-- finding k is bit k - 1 of the answer
abbrev pub bit : Bool → ℕ → ℕ
bit true w = w
bit false w = 0
