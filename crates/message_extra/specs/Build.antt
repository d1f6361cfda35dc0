-- ADM_CS_SPCC_Inputs, CCS_ and MCS_Extra_Information, which documents 000 and 001 lay out alike, each of its signals' raw numbers in the table's order.
use Rattle.std.specs.Prelude.{ℕ, ℤ}
use Rattle.message_types.specs.declared.SpccInputs.{SpccInputs}
use Rattle.message_types.specs.declared.CcsExtraInformation.{CcsExtraInformation}
use Rattle.message_types.specs.declared.McsExtraInformation.{McsExtraInformation}
use Rattle.message_types.specs.Labels as label
use Rattle.message_fields.specs.Fields.{celsius_of, flag_of, natural_of, word_of}

abbrev pub spcc_of : (ℕ → ℤ) → SpccInputs
spcc_of f =
    record {
      input1 = flag_of (f 0);
      input2 = flag_of (f 1);
      input3 = flag_of (f 2);
      input4 = flag_of (f 3);
      reserved = natural_of (f 4);
      cpu0 = celsius_of (f 5);
      cpu1 = celsius_of (f 6);
      pt1ka = celsius_of (f 7);
      pt1kb = celsius_of (f 8);
      pt1ksc = celsius_of (f 9);
      pt1ksd = celsius_of (f 10);
    }

abbrev pub ccs_of : (ℕ → ℤ) → CcsExtraInformation
ccs_of f =
    record {
      state = label.pilot_of (natural_of (f 0));
      duty = word_of (f 1);
      reserved = natural_of (f 2);
    }

abbrev pub mcs_of : (ℕ → ℤ) → McsExtraInformation
mcs_of f =
    record {
      ce = label.ce_of (natural_of (f 0));
      id = label.mating_of (natural_of (f 1));
      reserved = natural_of (f 2);
    }
