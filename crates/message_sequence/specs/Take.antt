-- The raw number of each signal of Sequence_Control and ADM_CS_SECC_Outputs, which documents 000 and 001 lay out alike, in the table's order.
use Rattle.std.specs.Prelude.{List, [], ◌∷◌, ℤ, pos}
use Rattle.message_types.specs.declared.SequenceControl.{SequenceControl}
use Rattle.message_types.specs.declared.SeccOutputs.{SeccOutputs}
use Rattle.message_types.specs.Labels as label
use Rattle.message_fields.specs.Fields.{flag_raw, wide_raw}

abbrev pub sequence_raws : SequenceControl → List ℤ
sequence_raws m =
    pos (label.permission_number m.authorisation) ∷ pos (label.button_number m.chademo) ∷ pos (label.step_number m.done)
    ∷ pos (label.validity_number m.valid) ∷ pos (label.step_number m.parameters) ∷ pos (label.button_number m.stop) ∷ []

abbrev pub outputs_raws : SeccOutputs → List ℤ
outputs_raws m = flag_raw m.output1 ∷ flag_raw m.output2 ∷ flag_raw m.output3 ∷ flag_raw m.output4 ∷ wide_raw m.reserved ∷ []
