-- The messages of document 001 from Power_Modules_Limits to Charging_Loop that 000 has not alike, each of its signals' raw numbers in the table's order.
use Rattle.std.specs.Prelude.{ℕ, ℤ}
use Rattle.older_types.specs.declared.PowerModulesLimits.{PowerModulesLimits}
use Rattle.older_types.specs.declared.NewChargeSession.{NewChargeSession}
use Rattle.older_types.specs.declared.InsulationTest.{InsulationTest}
use Rattle.older_types.specs.declared.PrechargeTarget.{PrechargeTarget}
use Rattle.older_types.specs.declared.ChargingLoop.{ChargingLoop}
use Rattle.older_types.specs.message_types.specs.Labels as label
use Rattle.message_fields.specs.Fields.{byte_of, natural_of, short_of, word_of}
use Rattle.older_fields.specs.Forms.{capacity_of}

abbrev pub limits_of : (ℕ → ℤ) → PowerModulesLimits
limits_of f =
    record {
      voltage = word_of (f 0);
      current = short_of (f 1);
      reserved = natural_of (f 2);
    }

abbrev pub session_of : (ℕ → ℤ) → NewChargeSession
session_of f =
    record {
      protocol = label.protocol_of (natural_of (f 0));
      plug = label.plug_of (natural_of (f 1));
      voltage = word_of (f 2);
      current = word_of (f 3);
      capacity = capacity_of (f 4);
      charge = byte_of (f 5);
    }

abbrev pub insulation_of : (ℕ → ℤ) → InsulationTest
insulation_of f =
    record {
      voltage = word_of (f 0);
    }

abbrev pub precharge_of : (ℕ → ℤ) → PrechargeTarget
precharge_of f =
    record {
      voltage = word_of (f 0);
      current = word_of (f 1);
    }

abbrev pub charging_of : (ℕ → ℤ) → ChargingLoop
charging_of f =
    record {
      voltage = word_of (f 0);
      current = short_of (f 1);
      charge = byte_of (f 2);
    }
