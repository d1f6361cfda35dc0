-- ADM_CS_SPCC_Inputs, CCS_ and MCS_Extra_Information, which documents 000 and 001 lay out alike, there and back at 000's kinds (`Ways` of message_laws):
-- each field and each label at its signal. Assumes nothing.
use mathlib.Core.Path.{refl}
use mathlib.Core.List.{[], ◌∷◌}
use Rattle.page_write.specs.page_table.specs.Table.{rows, of_kind}
use Rattle.page_write.specs.Raws.{wholes_of}
use Rattle.message_fields.proofs.FieldLaws.{degrees, flags, words}
use Rattle.message_fields.proofs.Wides.{wides}
use Rattle.message_types.specs.message_laws.proofs.Signals.{fits_at, field_back, label_back}
use Rattle.message_types.specs.message_laws.proofs.Ways.{Ways, always}
use Rattle.message_types.specs.KindNumbers.{spcc_kind, ccs_kind, mcs_kind}
use Rattle.message_types.proofs.Marks.{pilot_label, ce_label, mating_label}
use Rattle.message_extra.specs.Build.{spcc_of, ccs_of, mcs_of}
use Rattle.message_extra.specs.Take.{spcc_raws, ccs_raws, mcs_raws}

pub spcc_ways : Ways spcc_kind spcc_raws always spcc_of
unfolding rows of_kind wholes_of
spcc_ways =
    record {
      counted = λ s. refl;
      labelled = λ s. refl;
      there = λ s h e.
          let f = fits_at spcc_kind (spcc_raws s) e in
          λ i. record {
            input1 = flags.there s.input1 (f 0 tt) i;
            input2 = flags.there s.input2 (f 1 tt) i;
            input3 = flags.there s.input3 (f 2 tt) i;
            input4 = flags.there s.input4 (f 3 tt) i;
            reserved = (wides 4 tt).there s.reserved (f 4 tt) i;
            cpu0 = degrees.there s.cpu0 (f 5 tt) i;
            cpu1 = degrees.there s.cpu1 (f 6 tt) i;
            pt1ka = degrees.there s.pt1ka (f 7 tt) i;
            pt1kb = degrees.there s.pt1kb (f 8 tt) i;
            pt1ksc = degrees.there s.pt1ksc (f 9 tt) i;
            pt1ksd = degrees.there s.pt1ksd (f 10 tt) i;
          };
      back = λ n e i. field_back n spcc_kind 0 tt flags i
          ∷ field_back n spcc_kind 1 tt flags i
          ∷ field_back n spcc_kind 2 tt flags i
          ∷ field_back n spcc_kind 3 tt flags i
          ∷ field_back n spcc_kind 4 tt (wides 4 tt) i
          ∷ field_back n spcc_kind 5 tt degrees i
          ∷ field_back n spcc_kind 6 tt degrees i
          ∷ field_back n spcc_kind 7 tt degrees i
          ∷ field_back n spcc_kind 8 tt degrees i
          ∷ field_back n spcc_kind 9 tt degrees i
          ∷ field_back n spcc_kind 10 tt degrees i
          ∷ [];
      backed = λ n. refl;
    }

pub ccs_ways : Ways ccs_kind ccs_raws always ccs_of
unfolding rows of_kind wholes_of
ccs_ways =
    record {
      counted = λ s. refl;
      labelled = λ s. rw (pilot_label.labelled s.state);
      there = λ s h e.
          let f = fits_at ccs_kind (ccs_raws s) e in
          λ i. record {
            state = pilot_label.there s.state i;
            duty = (words 16 tt).there s.duty (f 1 tt) i;
            reserved = (wides 40 tt).there s.reserved (f 2 tt) i;
          };
      back = λ n e i. label_back n ccs_kind e 0 tt pilot_label i
          ∷ field_back n ccs_kind 1 tt (words 16 tt) i
          ∷ field_back n ccs_kind 2 tt (wides 40 tt) i
          ∷ [];
      backed = λ n. refl;
    }

pub mcs_ways : Ways mcs_kind mcs_raws always mcs_of
unfolding rows of_kind wholes_of
mcs_ways =
    record {
      counted = λ s. refl;
      labelled = λ s. rw (ce_label.labelled s.ce, mating_label.labelled s.id);
      there = λ s h e.
          let f = fits_at mcs_kind (mcs_raws s) e in
          λ i. record {
            ce = ce_label.there s.ce i;
            id = mating_label.there s.id i;
            reserved = (wides 48 tt).there s.reserved (f 2 tt) i;
          };
      back = λ n e i. label_back n mcs_kind e 0 tt ce_label i
          ∷ label_back n mcs_kind e 1 tt mating_label i
          ∷ field_back n mcs_kind 2 tt (wides 48 tt) i
          ∷ [];
      backed = λ n. refl;
    }
