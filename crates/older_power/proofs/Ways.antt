-- The messages of document 001 from Power_Modules_Limits to Charging_Loop that 000 has not alike, there and back (`Ways` of message_laws): each field and each
-- label at its signal. Assumes nothing.
use mathlib.Core.Path.{refl}
use mathlib.Core.List.{[], ◌∷◌}
use Rattle.page_table.specs.Table.{rows, of_kind}
use Rattle.page_write.specs.Raws.{whole_at, wholes_of}
use Rattle.message_fields.proofs.FieldLaws.{bytes, shorts, words, kilohms_there, kilohms_back, kilohms_even}
use Rattle.message_fields.proofs.Wides.{wides}
use Rattle.older_types.specs.message_laws.proofs.Signals.{fits_at, whole_fits, field_back, label_back}
use Rattle.older_types.specs.message_laws.proofs.Ways.{Ways, always}
use Rattle.older_types.specs.message_laws.proofs.Labelled.{signal_at}
use Rattle.older_fields.specs.Forms.{has_capacity}
use Rattle.older_types.specs.declared.NewChargeSession.{NewChargeSession}
use Rattle.older_types.specs.KindNumbers.{limits_kind, session_kind, insulation_kind, precharge_kind, charging_kind}
use Rattle.older_types.proofs.Marks.{plug_label, protocol_label}
use Rattle.older_power.specs.Build.{limits_of, session_of, insulation_of, precharge_of, charging_of}
use Rattle.older_power.specs.Take.{limits_raws, session_raws, insulation_raws, precharge_raws, charging_raws}

pub limits_ways : Ways limits_kind limits_raws always limits_of
unfolding rows of_kind wholes_of
limits_ways =
    record {
      counted = λ s. refl;
      labelled = λ s. refl;
      there = λ s h e.
          let f = fits_at limits_kind (limits_raws s) e in
          λ i. record {
            voltage = (words 16 tt).there s.voltage (f 0 tt) i;
            current = (shorts 16 tt).there s.current (f 1 tt) i;
            reserved = (wides 32 tt).there s.reserved (f 2 tt) i;
          };
      back = λ n e i. field_back n limits_kind 0 tt (words 16 tt) i
          ∷ field_back n limits_kind 1 tt (shorts 16 tt) i
          ∷ field_back n limits_kind 2 tt (wides 32 tt) i
          ∷ [];
      backed = λ n. refl;
    }

pub session_ways : Ways session_kind session_raws (λ (m : NewChargeSession). has_capacity m.capacity) session_of
unfolding rows of_kind wholes_of
session_ways =
    record {
      counted = λ s. refl;
      labelled = λ s. rw (protocol_label.labelled s.protocol, plug_label.labelled s.plug);
      there = λ s h e.
          let f = fits_at session_kind (session_raws s) e in
          λ i. record {
            protocol = protocol_label.there s.protocol i;
            plug = plug_label.there s.plug i;
            voltage = (words 16 tt).there s.voltage (f 2 tt) i;
            current = (words 16 tt).there s.current (f 3 tt) i;
            capacity = kilohms_there s.capacity h (f 4 tt) i;
            charge = bytes.there s.charge (f 5 tt) i;
          };
      back = λ n e i. label_back n session_kind e 0 tt protocol_label i
          ∷ label_back n session_kind e 1 tt plug_label i
          ∷ field_back n session_kind 2 tt (words 16 tt) i
          ∷ field_back n session_kind 3 tt (words 16 tt) i
          ∷ kilohms_back (whole_at n (signal_at session_kind 4)) (whole_fits n session_kind 4 tt) i
          ∷ field_back n session_kind 5 tt bytes i
          ∷ [];
      backed = λ n. kilohms_even (whole_at n (signal_at session_kind 4));
    }

pub insulation_ways : Ways insulation_kind insulation_raws always insulation_of
unfolding rows of_kind wholes_of
insulation_ways =
    record {
      counted = λ s. refl;
      labelled = λ s. refl;
      there = λ s h e.
          let f = fits_at insulation_kind (insulation_raws s) e in
          λ i. record {
            voltage = (words 16 tt).there s.voltage (f 0 tt) i;
          };
      back = λ n e i. field_back n insulation_kind 0 tt (words 16 tt) i
          ∷ [];
      backed = λ n. refl;
    }

pub precharge_ways : Ways precharge_kind precharge_raws always precharge_of
unfolding rows of_kind wholes_of
precharge_ways =
    record {
      counted = λ s. refl;
      labelled = λ s. refl;
      there = λ s h e.
          let f = fits_at precharge_kind (precharge_raws s) e in
          λ i. record {
            voltage = (words 16 tt).there s.voltage (f 0 tt) i;
            current = (words 16 tt).there s.current (f 1 tt) i;
          };
      back = λ n e i. field_back n precharge_kind 0 tt (words 16 tt) i
          ∷ field_back n precharge_kind 1 tt (words 16 tt) i
          ∷ [];
      backed = λ n. refl;
    }

pub charging_ways : Ways charging_kind charging_raws always charging_of
unfolding rows of_kind wholes_of
charging_ways =
    record {
      counted = λ s. refl;
      labelled = λ s. refl;
      there = λ s h e.
          let f = fits_at charging_kind (charging_raws s) e in
          λ i. record {
            voltage = (words 16 tt).there s.voltage (f 0 tt) i;
            current = (shorts 16 tt).there s.current (f 1 tt) i;
            charge = bytes.there s.charge (f 2 tt) i;
          };
      back = λ n e i. field_back n charging_kind 0 tt (words 16 tt) i
          ∷ field_back n charging_kind 1 tt (shorts 16 tt) i
          ∷ field_back n charging_kind 2 tt bytes i
          ∷ [];
      backed = λ n. refl;
    }
