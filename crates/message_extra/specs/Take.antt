-- The raw number of each signal of ADM_CS_SPCC_Inputs, CCS_ and MCS_Extra_Information, which documents 000 and 001 lay out alike, in the table's order.
use Rattle.std.specs.Prelude.{List, [], ◌∷◌, ℤ, pos}
use Rattle.message_types.specs.declared.SpccInputs.{SpccInputs}
use Rattle.message_types.specs.declared.CcsExtraInformation.{CcsExtraInformation}
use Rattle.message_types.specs.declared.McsExtraInformation.{McsExtraInformation}
use Rattle.message_types.specs.Labels as label
use Rattle.message_fields.specs.Fields.{celsius_raw, flag_raw, wide_raw}

abbrev pub spcc_raws : SpccInputs → List ℤ
spcc_raws m =
    flag_raw m.input1 ∷ flag_raw m.input2 ∷ flag_raw m.input3 ∷ flag_raw m.input4 ∷ wide_raw m.reserved ∷ celsius_raw m.cpu0
    ∷ celsius_raw m.cpu1 ∷ celsius_raw m.pt1ka ∷ celsius_raw m.pt1kb ∷ celsius_raw m.pt1ksc ∷ celsius_raw m.pt1ksd ∷ []

abbrev pub ccs_raws : CcsExtraInformation → List ℤ
ccs_raws m = pos (label.pilot_number m.state) ∷ pos m.duty ∷ wide_raw m.reserved ∷ []

abbrev pub mcs_raws : McsExtraInformation → List ℤ
mcs_raws m = pos (label.ce_number m.ce) ∷ pos (label.mating_number m.id) ∷ wide_raw m.reserved ∷ []
