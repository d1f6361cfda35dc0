-- PT1000State of document 004 of its signals' raw numbers, in the table's order.
use Rattle.std.specs.Prelude.{ℕ, ℤ}
use Rattle.message_types.specs.declared.Pt1000State.{Pt1000State}
use Rattle.message_fields.specs.Fields.{short_of, flag_of}

abbrev pub probes_of : (ℕ → ℤ) → Pt1000State
probes_of f =
    record {
      temperature1 = short_of (f 0);
      stopped1 = flag_of (f 1);
      failed1 = flag_of (f 2);
      temperature2 = short_of (f 3);
      stopped2 = flag_of (f 4);
      failed2 = flag_of (f 5);
      temperature3 = short_of (f 6);
      stopped3 = flag_of (f 7);
      failed3 = flag_of (f 8);
      temperature4 = short_of (f 9);
      stopped4 = flag_of (f 10);
      failed4 = flag_of (f 11);
    }
