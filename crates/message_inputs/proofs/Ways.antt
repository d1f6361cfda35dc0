-- ADM_CO_CUI1_Inputs and ADM_CS_SECC_Inputs, which documents 000 and 001 lay out alike, there and back at 000's kinds (`Ways` of message_laws): each field
-- at its signal. Assumes nothing.
use mathlib.Core.Path.{refl}
use mathlib.Core.List.{[], ◌∷◌}
use Rattle.page_write.specs.page_table.specs.Table.{rows, of_kind}
use Rattle.page_write.specs.Raws.{wholes_of}
use Rattle.message_fields.proofs.FieldLaws.{degrees, flags}
use Rattle.message_fields.proofs.Wides.{wides}
use Rattle.message_types.specs.message_laws.proofs.Signals.{fits_at, field_back}
use Rattle.message_types.specs.message_laws.proofs.Ways.{Ways, always}
use Rattle.message_types.specs.KindNumbers.{cui_kind, secc_kind}
use Rattle.message_inputs.specs.Build.{cui_of, secc_of}
use Rattle.message_inputs.specs.Take.{cui_raws, secc_raws}

pub cui_ways : Ways cui_kind cui_raws always cui_of
unfolding rows of_kind wholes_of
cui_ways =
    record {
      counted = λ s. refl;
      labelled = λ s. refl;
      there = λ s h e.
          let f = fits_at cui_kind (cui_raws s) e in
          λ i. record {
            switch0 = flags.there s.switch0 (f 0 tt) i;
            switch1 = flags.there s.switch1 (f 1 tt) i;
            switch2 = flags.there s.switch2 (f 2 tt) i;
            switch3 = flags.there s.switch3 (f 3 tt) i;
            switch4 = flags.there s.switch4 (f 4 tt) i;
            switch5 = flags.there s.switch5 (f 5 tt) i;
            reserved = (wides 26 tt).there s.reserved (f 6 tt) i;
            colibri = degrees.there s.colibri (f 7 tt) i;
            cpu = degrees.there s.cpu (f 8 tt) i;
            pistol1 = degrees.there s.pistol1 (f 9 tt) i;
            pistol2 = degrees.there s.pistol2 (f 10 tt) i;
          };
      back = λ n e i. field_back n cui_kind 0 tt flags i
          ∷ field_back n cui_kind 1 tt flags i
          ∷ field_back n cui_kind 2 tt flags i
          ∷ field_back n cui_kind 3 tt flags i
          ∷ field_back n cui_kind 4 tt flags i
          ∷ field_back n cui_kind 5 tt flags i
          ∷ field_back n cui_kind 6 tt (wides 26 tt) i
          ∷ field_back n cui_kind 7 tt degrees i
          ∷ field_back n cui_kind 8 tt degrees i
          ∷ field_back n cui_kind 9 tt degrees i
          ∷ field_back n cui_kind 10 tt degrees i
          ∷ [];
      backed = λ n. refl;
    }

pub secc_ways : Ways secc_kind secc_raws always secc_of
unfolding rows of_kind wholes_of
secc_ways =
    record {
      counted = λ s. refl;
      labelled = λ s. refl;
      there = λ s h e.
          let f = fits_at secc_kind (secc_raws s) e in
          λ i. record {
            input1 = flags.there s.input1 (f 0 tt) i;
            input2 = flags.there s.input2 (f 1 tt) i;
            input3 = flags.there s.input3 (f 2 tt) i;
            input4 = flags.there s.input4 (f 3 tt) i;
            reserved = (wides 36 tt).there s.reserved (f 4 tt) i;
            cpu = degrees.there s.cpu (f 5 tt) i;
            pistol1 = degrees.there s.pistol1 (f 6 tt) i;
            pistol2 = degrees.there s.pistol2 (f 7 tt) i;
          };
      back = λ n e i. field_back n secc_kind 0 tt flags i
          ∷ field_back n secc_kind 1 tt flags i
          ∷ field_back n secc_kind 2 tt flags i
          ∷ field_back n secc_kind 3 tt flags i
          ∷ field_back n secc_kind 4 tt (wides 36 tt) i
          ∷ field_back n secc_kind 5 tt degrees i
          ∷ field_back n secc_kind 6 tt degrees i
          ∷ field_back n secc_kind 7 tt degrees i
          ∷ [];
      backed = λ n. refl;
    }
