-- The messages that the session watch names, each of its signals' raw numbers in the table's order.
use Rattle.std.specs.Prelude.{ℕ, ℤ}
use Rattle.message_types.specs.declared.PowerModulesStatus.{PowerModulesStatus}
use Rattle.message_types.specs.declared.DcPowerParameters.{DcPowerParameters}
use Rattle.message_types.specs.declared.NewChargeSession.{NewChargeSession}
use Rattle.message_types.specs.declared.DcPowerControl.{DcPowerControl}
use Rattle.message_types.specs.Labels as label
use Rattle.message_fields.specs.Fields.{natural_of, word_of, short_of, celsius_of, kilohms_of, flag_of}

abbrev pub status_of : (ℕ → ℤ) → PowerModulesStatus
status_of f =
    record {
      voltage = word_of (f 0);
      current = short_of (f 1);
      modules = celsius_of (f 2);
      enclosure = celsius_of (f 3);
      enable = label.enable_of (natural_of (f 4));
      insulation = kilohms_of (f 5);
    }

abbrev pub parameters_of : (ℕ → ℤ) → DcPowerParameters
parameters_of f = record { voltage = word_of (f 0); charge = word_of (f 1); discharge = word_of (f 2); target = short_of (f 3) }

abbrev pub session_of : (ℕ → ℤ) → NewChargeSession
session_of f = record { protocol = label.protocol_of (natural_of (f 0)); plug = label.plug_of (natural_of (f 1)) }

abbrev pub control_of : (ℕ → ℤ) → DcPowerControl
control_of f =
    record {
      target = word_of (f 0);
      max = short_of (f 1);
      min = short_of (f 2);
      function = label.function_of (natural_of (f 3));
      reserved = flag_of (f 4);
      mode = label.mode_of (natural_of (f 5));
      contactors = label.contactors_of (natural_of (f 6));
      lowering = label.lowering_of (natural_of (f 7));
    }
