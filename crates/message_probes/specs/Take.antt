-- The raw number of each signal of PT1000State of document 004, in the table's order.
use Rattle.std.specs.Prelude.{List, [], ◌∷◌, ℤ}
use Rattle.message_types.specs.declared.Pt1000State.{Pt1000State}
use Rattle.message_fields.specs.Fields.{flag_raw}

abbrev pub probes_raws : Pt1000State → List ℤ
probes_raws m =
    m.temperature1 ∷ flag_raw m.stopped1 ∷ flag_raw m.failed1
    ∷ m.temperature2 ∷ flag_raw m.stopped2 ∷ flag_raw m.failed2
    ∷ m.temperature3 ∷ flag_raw m.stopped3 ∷ flag_raw m.failed3
    ∷ m.temperature4 ∷ flag_raw m.stopped4 ∷ flag_raw m.failed4 ∷ []
