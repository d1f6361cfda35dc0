-- Sequence_Control and ADM_CS_SECC_Outputs, which documents 000 and 001 lay out alike, there and back at 000's kinds (`Ways` of message_laws): each field
-- and each label at its signal. Assumes nothing.
use mathlib.Core.Path.{refl}
use mathlib.Core.List.{[], ◌∷◌}
use Rattle.page_write.specs.page_table.specs.Table.{rows, of_kind}
use Rattle.page_write.specs.Raws.{wholes_of}
use Rattle.message_fields.proofs.FieldLaws.{flags}
use Rattle.message_fields.proofs.Wides.{wides}
use Rattle.message_types.specs.message_laws.proofs.Signals.{fits_at, field_back, label_back}
use Rattle.message_types.specs.message_laws.proofs.Ways.{Ways, always}
use Rattle.message_types.specs.KindNumbers.{sequence_kind, outputs_kind}
use Rattle.message_types.proofs.Marks.{permission_label, button_label, step_label, validity_label, parameters_label, stop_label}
use Rattle.message_sequence.specs.Build.{sequence_of, outputs_of}
use Rattle.message_sequence.specs.Take.{sequence_raws, outputs_raws}

pub sequence_ways : Ways sequence_kind sequence_raws always sequence_of
unfolding rows of_kind wholes_of
sequence_ways =
    record {
      counted = λ s. refl;
      labelled = λ s. rw (permission_label.labelled s.authorisation, button_label.labelled s.chademo, step_label.labelled s.done, validity_label.labelled s.valid, parameters_label.labelled s.parameters, stop_label.labelled s.stop);
      there = λ s h e.
          λ i. record {
            authorisation = permission_label.there s.authorisation i;
            chademo = button_label.there s.chademo i;
            done = step_label.there s.done i;
            valid = validity_label.there s.valid i;
            parameters = parameters_label.there s.parameters i;
            stop = stop_label.there s.stop i;
          };
      back = λ n e i. label_back n sequence_kind e 0 tt permission_label i
          ∷ label_back n sequence_kind e 1 tt button_label i
          ∷ label_back n sequence_kind e 2 tt step_label i
          ∷ label_back n sequence_kind e 3 tt validity_label i
          ∷ label_back n sequence_kind e 4 tt parameters_label i
          ∷ label_back n sequence_kind e 5 tt stop_label i
          ∷ [];
      backed = λ n. refl;
    }

pub outputs_ways : Ways outputs_kind outputs_raws always outputs_of
unfolding rows of_kind wholes_of
outputs_ways =
    record {
      counted = λ s. refl;
      labelled = λ s. refl;
      there = λ s h e.
          let f = fits_at outputs_kind (outputs_raws s) e in
          λ i. record {
            output1 = flags.there s.output1 (f 0 tt) i;
            output2 = flags.there s.output2 (f 1 tt) i;
            output3 = flags.there s.output3 (f 2 tt) i;
            output4 = flags.there s.output4 (f 3 tt) i;
            reserved = (wides 60 tt).there s.reserved (f 4 tt) i;
          };
      back = λ n e i. field_back n outputs_kind 0 tt flags i
          ∷ field_back n outputs_kind 1 tt flags i
          ∷ field_back n outputs_kind 2 tt flags i
          ∷ field_back n outputs_kind 3 tt flags i
          ∷ field_back n outputs_kind 4 tt (wides 60 tt) i
          ∷ [];
      backed = λ n. refl;
    }
