-- ChargeControl1 and ChargeState1 of document 004, there and back (`Ways` of message_laws): each field and each label at its signal. Assumes nothing.
use mathlib.Core.Path.{refl}
use mathlib.Core.List.{[], ◌∷◌}
use Rattle.page_write.specs.page_table.specs.Table.{rows, of_kind}
use Rattle.page_write.specs.Raws.{wholes_of}
use Rattle.message_fields.proofs.FieldLaws.{duties, flags}
use Rattle.message_types.specs.message_laws.proofs.Signals.{fits_at, field_back, label_back}
use Rattle.message_types.specs.message_laws.proofs.Ways.{Ways, always}
use Rattle.message_types.specs.KindNumbers.{safety_control_kind, safety_state_kind}
use Rattle.message_types.proofs.Marks.{cp_label, pp_label}
use Rattle.message_safety.specs.Build.{safety_control_of, safety_state_of}
use Rattle.message_safety.specs.Take.{safety_control_raws, safety_state_raws}

pub safety_control_ways : Ways safety_control_kind safety_control_raws always safety_control_of
unfolding rows of_kind wholes_of
safety_control_ways =
    record {
      counted = λ s. refl;
      labelled = λ s. refl;
      there = λ s h e.
          let f = fits_at safety_control_kind (safety_control_raws s) e in
          λ i. record {
            duty = duties.there s.duty (f 0 tt) i;
            pwm = flags.there s.pwm (f 1 tt) i;
            contactor1 = flags.there s.contactor1 (f 2 tt) i;
            contactor2 = flags.there s.contactor2 (f 3 tt) i;
          };
      back = λ n e i. field_back n safety_control_kind 0 tt duties i
          ∷ field_back n safety_control_kind 1 tt flags i
          ∷ field_back n safety_control_kind 2 tt flags i
          ∷ field_back n safety_control_kind 3 tt flags i
          ∷ [];
      backed = λ n. refl;
    }

pub safety_state_ways : Ways safety_state_kind safety_state_raws always safety_state_of
unfolding rows of_kind wholes_of
safety_state_ways =
    record {
      counted = λ s. refl;
      labelled = λ s. rw (cp_label.labelled s.cp, pp_label.labelled s.pp);
      there = λ s h e.
          let f = fits_at safety_state_kind (safety_state_raws s) e in
          λ i. record {
            duty = duties.there s.duty (f 0 tt) i;
            pwm = flags.there s.pwm (f 1 tt) i;
            cp = cp_label.there s.cp i;
            short = flags.there s.short (f 3 tt) i;
            diode = flags.there s.diode (f 4 tt) i;
            pp = pp_label.there s.pp i;
            contactor1 = flags.there s.contactor1 (f 6 tt) i;
            contactor2 = flags.there s.contactor2 (f 7 tt) i;
            error1 = flags.there s.error1 (f 8 tt) i;
            error2 = flags.there s.error2 (f 9 tt) i;
            estop1 = flags.there s.estop1 (f 10 tt) i;
            estop2 = flags.there s.estop2 (f 11 tt) i;
            estop3 = flags.there s.estop3 (f 12 tt) i;
            imdabort = flags.there s.imdabort (f 13 tt) i;
            imdfailure = flags.there s.imdfailure (f 14 tt) i;
          };
      back = λ n e i. field_back n safety_state_kind 0 tt duties i
          ∷ field_back n safety_state_kind 1 tt flags i
          ∷ label_back n safety_state_kind e 2 tt cp_label i
          ∷ field_back n safety_state_kind 3 tt flags i
          ∷ field_back n safety_state_kind 4 tt flags i
          ∷ label_back n safety_state_kind e 5 tt pp_label i
          ∷ field_back n safety_state_kind 6 tt flags i
          ∷ field_back n safety_state_kind 7 tt flags i
          ∷ field_back n safety_state_kind 8 tt flags i
          ∷ field_back n safety_state_kind 9 tt flags i
          ∷ field_back n safety_state_kind 10 tt flags i
          ∷ field_back n safety_state_kind 11 tt flags i
          ∷ field_back n safety_state_kind 12 tt flags i
          ∷ field_back n safety_state_kind 13 tt flags i
          ∷ field_back n safety_state_kind 14 tt flags i
          ∷ [];
      backed = λ n. refl;
    }
