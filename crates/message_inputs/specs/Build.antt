-- ADM_CO_CUI1_Inputs and ADM_CS_SECC_Inputs, which documents 000 and 001 lay out alike, each of its signals' raw numbers in the table's order.
use Rattle.std.specs.Prelude.{ℕ, ℤ}
use Rattle.message_types.specs.declared.CuiInputs.{CuiInputs}
use Rattle.message_types.specs.declared.SeccInputs.{SeccInputs}
use Rattle.message_fields.specs.Fields.{celsius_of, flag_of, natural_of}

abbrev pub cui_of : (ℕ → ℤ) → CuiInputs
cui_of f =
    record {
      switch0 = flag_of (f 0);
      switch1 = flag_of (f 1);
      switch2 = flag_of (f 2);
      switch3 = flag_of (f 3);
      switch4 = flag_of (f 4);
      switch5 = flag_of (f 5);
      reserved = natural_of (f 6);
      colibri = celsius_of (f 7);
      cpu = celsius_of (f 8);
      pistol1 = celsius_of (f 9);
      pistol2 = celsius_of (f 10);
    }

abbrev pub secc_of : (ℕ → ℤ) → SeccInputs
secc_of f =
    record {
      input1 = flag_of (f 0);
      input2 = flag_of (f 1);
      input3 = flag_of (f 2);
      input4 = flag_of (f 3);
      reserved = natural_of (f 4);
      cpu = celsius_of (f 5);
      pistol1 = celsius_of (f 6);
      pistol2 = celsius_of (f 7);
    }
