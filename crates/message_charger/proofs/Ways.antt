-- The charger's messages, there and back (`Ways` of message_laws): each field and each label at its signal. Assumes nothing.
use mathlib.Core.Path.{refl}
use mathlib.Core.List.{[], ◌∷◌}
use Rattle.page_table.specs.Table.{rows, of_kind}
use Rattle.page_write.specs.Raws.{whole_at, wholes_of}
use Rattle.message_fields.specs.Fields.{has_kilohms}
use Rattle.message_fields.proofs.FieldLaws.{bytes, words, shorts, degrees, flags, kilohms_there, kilohms_back, kilohms_even}
use Rattle.message_types.specs.message_laws.proofs.Labelled.{signal_at}
use Rattle.message_types.specs.message_laws.proofs.Signals.{fits_at, whole_fits, field_back, label_back}
use Rattle.message_types.specs.message_laws.proofs.Ways.{Ways, always}
use Rattle.message_types.specs.KindNumbers.{status_kind, parameters_kind, controller_kind, session_kind, change_kind, control_kind, finished_kind, stop_kind, id_kind}
use Rattle.message_types.proofs.Marks.{enable_label, state_label, protocol_label, plug_label, status_label, function_label, mode_label, contactors_label, lowering_label, end_label, origin_label}
use Rattle.message_parts.specs.Watched.{status_of, parameters_of, session_of, control_of}
use Rattle.message_charger.specs.Build.{controller_of, change_of, finished_of, stop_of, id_of}
use Rattle.message_charger.specs.Take.{status_raws, parameters_raws, state_raws, session_raws, change_raws, control_raws, finished_raws, stop_raws, id_raws}

pub status_ways : Ways status_kind status_raws (λ s. has_kilohms s.insulation) status_of
unfolding rows of_kind wholes_of
status_ways =
    record {
      counted = λ s. refl;
      labelled = λ s. rw (enable_label.labelled s.enable);
      there = λ s h e.
          let f = fits_at status_kind (status_raws s) e in
          λ i. record {
            voltage = (words 16 tt).there s.voltage (f 0 tt) i;
            current = (shorts 16 tt).there s.current (f 1 tt) i;
            modules = degrees.there s.modules (f 2 tt) i;
            enclosure = degrees.there s.enclosure (f 3 tt) i;
            enable = enable_label.there s.enable i;
            insulation = kilohms_there s.insulation h (f 5 tt) i;
          };
      back = λ n e i. field_back n status_kind 0 tt (words 16 tt) i
          ∷ field_back n status_kind 1 tt (shorts 16 tt) i
          ∷ field_back n status_kind 2 tt degrees i
          ∷ field_back n status_kind 3 tt degrees i
          ∷ label_back n status_kind e 4 tt enable_label i
          ∷ kilohms_back (whole_at n (signal_at status_kind 5)) (whole_fits n status_kind 5 tt) i
          ∷ [];
      backed = λ n. kilohms_even (whole_at n (signal_at status_kind 5));
    }

pub parameters_ways : Ways parameters_kind parameters_raws always parameters_of
unfolding rows of_kind wholes_of
parameters_ways =
    record {
      counted = λ s. refl;
      labelled = λ s. refl;
      there = λ s h e.
          let f = fits_at parameters_kind (parameters_raws s) e in
          λ i. record {
            voltage = (words 16 tt).there s.voltage (f 0 tt) i;
            charge = (words 16 tt).there s.charge (f 1 tt) i;
            discharge = (words 16 tt).there s.discharge (f 2 tt) i;
            target = (shorts 16 tt).there s.target (f 3 tt) i;
          };
      back = λ n e i. field_back n parameters_kind 0 tt (words 16 tt) i
          ∷ field_back n parameters_kind 1 tt (words 16 tt) i
          ∷ field_back n parameters_kind 2 tt (words 16 tt) i
          ∷ field_back n parameters_kind 3 tt (shorts 16 tt) i
          ∷ [];
      backed = λ n. refl;
    }

pub controller_ways : Ways controller_kind state_raws always controller_of
unfolding rows of_kind wholes_of
controller_ways =
    record {
      counted = λ s. refl;
      labelled = λ s. rw (state_label.labelled s.state);
      there = λ s h e i. record { state = state_label.there s.state i };
      back = λ n e i. label_back n controller_kind e 0 tt state_label i ∷ [];
      backed = λ n. refl;
    }

pub session_ways : Ways session_kind session_raws always session_of
unfolding rows of_kind wholes_of
session_ways =
    record {
      counted = λ s. refl;
      labelled = λ s. rw (protocol_label.labelled s.protocol, plug_label.labelled s.plug);
      there = λ s h e i. record { protocol = protocol_label.there s.protocol i; plug = plug_label.there s.plug i };
      back = λ n e i. label_back n session_kind e 0 tt protocol_label i ∷ label_back n session_kind e 1 tt plug_label i ∷ [];
      backed = λ n. refl;
    }

pub change_ways : Ways change_kind change_raws always change_of
unfolding rows of_kind wholes_of
change_ways =
    record {
      counted = λ s. refl;
      labelled = λ s. rw (status_label.labelled s.status);
      there = λ s h e i. record { status = status_label.there s.status i };
      back = λ n e i. label_back n change_kind e 0 tt status_label i ∷ [];
      backed = λ n. refl;
    }

pub control_ways : Ways control_kind control_raws always control_of
unfolding rows of_kind wholes_of
control_ways =
    record {
      counted = λ s. refl;
      labelled = λ s. rw (function_label.labelled s.function, mode_label.labelled s.mode, contactors_label.labelled s.contactors, lowering_label.labelled s.lowering);
      there = λ s h e.
          let f = fits_at control_kind (control_raws s) e in
          λ i. record {
            target = (words 16 tt).there s.target (f 0 tt) i;
            max = (shorts 16 tt).there s.max (f 1 tt) i;
            min = (shorts 16 tt).there s.min (f 2 tt) i;
            function = function_label.there s.function i;
            reserved = flags.there s.reserved (f 4 tt) i;
            mode = mode_label.there s.mode i;
            contactors = contactors_label.there s.contactors i;
            lowering = lowering_label.there s.lowering i;
          };
      back = λ n e i. field_back n control_kind 0 tt (words 16 tt) i
          ∷ field_back n control_kind 1 tt (shorts 16 tt) i
          ∷ field_back n control_kind 2 tt (shorts 16 tt) i
          ∷ label_back n control_kind e 3 tt function_label i
          ∷ field_back n control_kind 4 tt flags i
          ∷ label_back n control_kind e 5 tt mode_label i
          ∷ label_back n control_kind e 6 tt contactors_label i
          ∷ label_back n control_kind e 7 tt lowering_label i
          ∷ [];
      backed = λ n. refl;
    }

pub finished_ways : Ways finished_kind finished_raws always finished_of
unfolding rows of_kind wholes_of
finished_ways =
    record {
      counted = λ s. refl;
      labelled = λ s. rw (end_label.labelled s.state);
      there = λ s h e i. record { state = end_label.there s.state i };
      back = λ n e i. label_back n finished_kind e 0 tt end_label i ∷ [];
      backed = λ n. refl;
    }

pub stop_ways : Ways stop_kind stop_raws always stop_of
unfolding rows of_kind wholes_of
stop_ways =
    record {
      counted = λ s. refl;
      labelled = λ s. rw (origin_label.labelled s.origin);
      there = λ s h e i. record { origin = origin_label.there s.origin i };
      back = λ n e i. label_back n stop_kind e 0 tt origin_label i ∷ [];
      backed = λ n. refl;
    }

pub id_ways : Ways id_kind id_raws always id_of
unfolding rows of_kind wholes_of
id_ways =
    record {
      counted = λ s. refl;
      labelled = λ s. refl;
      there = λ s h e.
          let f = fits_at id_kind (id_raws s) e in
          λ i. record {
            byte0 = bytes.there s.byte0 (f 0 tt) i;
            byte1 = bytes.there s.byte1 (f 1 tt) i;
            byte2 = bytes.there s.byte2 (f 2 tt) i;
            byte3 = bytes.there s.byte3 (f 3 tt) i;
            byte4 = bytes.there s.byte4 (f 4 tt) i;
            byte5 = bytes.there s.byte5 (f 5 tt) i;
          };
      back = λ n e i. field_back n id_kind 0 tt bytes i
          ∷ field_back n id_kind 1 tt bytes i
          ∷ field_back n id_kind 2 tt bytes i
          ∷ field_back n id_kind 3 tt bytes i
          ∷ field_back n id_kind 4 tt bytes i
          ∷ field_back n id_kind 5 tt bytes i
          ∷ [];
      backed = λ n. refl;
    }
