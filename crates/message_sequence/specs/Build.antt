-- Sequence_Control and ADM_CS_SECC_Outputs, which documents 000 and 001 lay out alike, each of its signals' raw numbers in the table's order.
use Rattle.std.specs.Prelude.{ℕ, ℤ}
use Rattle.message_types.specs.declared.SequenceControl.{SequenceControl}
use Rattle.message_types.specs.declared.SeccOutputs.{SeccOutputs}
use Rattle.message_types.specs.Labels as label
use Rattle.message_fields.specs.Fields.{flag_of, natural_of}

abbrev pub sequence_of : (ℕ → ℤ) → SequenceControl
sequence_of f =
    record {
      authorisation = label.permission_of (natural_of (f 0));
      chademo = label.button_of (natural_of (f 1));
      done = label.step_of (natural_of (f 2));
      valid = label.validity_of (natural_of (f 3));
      parameters = label.step_of (natural_of (f 4));
      stop = label.button_of (natural_of (f 5));
    }

abbrev pub outputs_of : (ℕ → ℤ) → SeccOutputs
outputs_of f =
    record {
      output1 = flag_of (f 0);
      output2 = flag_of (f 1);
      output3 = flag_of (f 2);
      output4 = flag_of (f 3);
      reserved = natural_of (f 4);
    }
