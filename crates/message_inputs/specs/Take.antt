-- The raw number of each signal of ADM_CO_CUI1_Inputs and ADM_CS_SECC_Inputs, which documents 000 and 001 lay out alike, in the table's order.
use Rattle.std.specs.Prelude.{List, [], ◌∷◌, ℤ}
use Rattle.message_types.specs.declared.CuiInputs.{CuiInputs}
use Rattle.message_types.specs.declared.SeccInputs.{SeccInputs}
use Rattle.message_fields.specs.Fields.{celsius_raw, flag_raw, wide_raw}

abbrev pub cui_raws : CuiInputs → List ℤ
cui_raws m =
    flag_raw m.switch0 ∷ flag_raw m.switch1 ∷ flag_raw m.switch2 ∷ flag_raw m.switch3 ∷ flag_raw m.switch4
    ∷ flag_raw m.switch5 ∷ wide_raw m.reserved ∷ celsius_raw m.colibri ∷ celsius_raw m.cpu ∷ celsius_raw m.pistol1
    ∷ celsius_raw m.pistol2 ∷ []

abbrev pub secc_raws : SeccInputs → List ℤ
secc_raws m =
    flag_raw m.input1 ∷ flag_raw m.input2 ∷ flag_raw m.input3 ∷ flag_raw m.input4 ∷ wide_raw m.reserved ∷ celsius_raw m.cpu
    ∷ celsius_raw m.pistol1 ∷ celsius_raw m.pistol2 ∷ []
