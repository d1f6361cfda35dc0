-- The messages of document 000 about the vehicle and OCPP_Control, there and back (`Ways` of message_laws): each field at its signal. Assumes nothing.
use mathlib.Core.Path.{refl}
use mathlib.Core.List.{[], ◌∷◌}
use Rattle.page_table.specs.Table.{rows, of_kind}
use Rattle.page_write.specs.Raws.{wholes_of}
use Rattle.message_fields.proofs.FieldLaws.{bytes, words, shorts}
use Rattle.message_types.specs.message_laws.proofs.Signals.{fits_at, field_back}
use Rattle.message_types.specs.message_laws.proofs.Alike.{alike}
use Rattle.message_types.specs.message_laws.proofs.Ways.{Ways, always}
use Rattle.message_types.specs.KindNumbers.{battery_kind, voltages_kind, charge_limits_kind, discharge_limits_kind, energy_kind, ocpp_kind}
use Rattle.message_vehicle.specs.Build.{battery_of, voltages_of, limits_of, energy_of, ocpp_of}
use Rattle.message_vehicle.specs.Take.{battery_raws, voltages_raws, limits_raws, energy_raws, ocpp_raws}

pub battery_ways : Ways battery_kind battery_raws always battery_of
unfolding rows of_kind wholes_of
battery_ways =
    record {
      counted = λ s. refl;
      labelled = λ s. refl;
      there = λ s h e.
          let f = fits_at battery_kind (battery_raws s) e in
          λ i. record {
            capacity = (words 16 tt).there s.capacity (f 0 tt) i;
            present = bytes.there s.present (f 1 tt) i;
            minimum = bytes.there s.minimum (f 2 tt) i;
            target = bytes.there s.target (f 3 tt) i;
            maximum = bytes.there s.maximum (f 4 tt) i;
          };
      back = λ n e i. field_back n battery_kind 0 tt (words 16 tt) i
          ∷ field_back n battery_kind 1 tt bytes i
          ∷ field_back n battery_kind 2 tt bytes i
          ∷ field_back n battery_kind 3 tt bytes i
          ∷ field_back n battery_kind 4 tt bytes i
          ∷ [];
      backed = λ n. refl;
    }

pub voltages_ways : Ways voltages_kind voltages_raws always voltages_of
unfolding rows of_kind wholes_of
voltages_ways =
    record {
      counted = λ s. refl;
      labelled = λ s. refl;
      there = λ s h e.
          let f = fits_at voltages_kind (voltages_raws s) e in
          λ i. record {
            minimum = (words 16 tt).there s.minimum (f 0 tt) i;
            maximum = (words 16 tt).there s.maximum (f 1 tt) i;
            present = (words 16 tt).there s.present (f 2 tt) i;
          };
      back = λ n e i. field_back n voltages_kind 0 tt (words 16 tt) i
          ∷ field_back n voltages_kind 1 tt (words 16 tt) i
          ∷ field_back n voltages_kind 2 tt (words 16 tt) i
          ∷ [];
      backed = λ n. refl;
    }

pub charge_limits_ways : Ways charge_limits_kind limits_raws always limits_of
unfolding rows of_kind wholes_of
charge_limits_ways =
    record {
      counted = λ s. refl;
      labelled = λ s. refl;
      there = λ s h e.
          let f = fits_at charge_limits_kind (limits_raws s) e in
          λ i. record {
            mincurrent = (words 16 tt).there s.mincurrent (f 0 tt) i;
            maxcurrent = (words 16 tt).there s.maxcurrent (f 1 tt) i;
            minpower = (words 16 tt).there s.minpower (f 2 tt) i;
            maxpower = (words 16 tt).there s.maxpower (f 3 tt) i;
          };
      back = λ n e i. field_back n charge_limits_kind 0 tt (words 16 tt) i
          ∷ field_back n charge_limits_kind 1 tt (words 16 tt) i
          ∷ field_back n charge_limits_kind 2 tt (words 16 tt) i
          ∷ field_back n charge_limits_kind 3 tt (words 16 tt) i
          ∷ [];
      backed = λ n. refl;
    }

-- laid out as the limits to charge with
pub discharge_limits_ways : Ways discharge_limits_kind limits_raws always limits_of
unfolding rows of_kind
discharge_limits_ways = alike charge_limits_kind discharge_limits_kind refl charge_limits_ways

pub energy_ways : Ways energy_kind energy_raws always energy_of
unfolding rows of_kind wholes_of
energy_ways =
    record {
      counted = λ s. refl;
      labelled = λ s. refl;
      there = λ s h e.
          let f = fits_at energy_kind (energy_raws s) e in
          λ i. record {
            minimum = (shorts 16 tt).there s.minimum (f 0 tt) i;
            target = (shorts 16 tt).there s.target (f 1 tt) i;
            maximum = (shorts 16 tt).there s.maximum (f 2 tt) i;
          };
      back = λ n e i. field_back n energy_kind 0 tt (shorts 16 tt) i
          ∷ field_back n energy_kind 1 tt (shorts 16 tt) i
          ∷ field_back n energy_kind 2 tt (shorts 16 tt) i
          ∷ [];
      backed = λ n. refl;
    }

pub ocpp_ways : Ways ocpp_kind ocpp_raws always ocpp_of
unfolding rows of_kind wholes_of
ocpp_ways =
    record {
      counted = λ s. refl;
      labelled = λ s. refl;
      there = λ s h e.
          let f = fits_at ocpp_kind (ocpp_raws s) e in
          λ i. record {
            target = (shorts 16 tt).there s.target (f 0 tt) i;
          };
      back = λ n e i. field_back n ocpp_kind 0 tt (shorts 16 tt) i
          ∷ [];
      backed = λ n. refl;
    }
