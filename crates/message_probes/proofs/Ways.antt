-- PT1000State of document 004, there and back (`Ways` of message_laws): each field at its signal. Assumes nothing.
use mathlib.Core.Path.{refl}
use mathlib.Core.List.{[], ◌∷◌}
use Rattle.page_write.specs.page_table.specs.Table.{rows, of_kind}
use Rattle.page_write.specs.Raws.{wholes_of}
use Rattle.message_fields.proofs.FieldLaws.{shorts, flags}
use Rattle.message_types.specs.message_laws.proofs.Signals.{fits_at, field_back}
use Rattle.message_types.specs.message_laws.proofs.Ways.{Ways, always}
use Rattle.message_types.specs.KindNumbers.{probes_kind}
use Rattle.message_probes.specs.Build.{probes_of}
use Rattle.message_probes.specs.Take.{probes_raws}

pub probes_ways : Ways probes_kind probes_raws always probes_of
unfolding rows of_kind wholes_of
probes_ways =
    record {
      counted = λ s. refl;
      labelled = λ s. refl;
      there = λ s h e.
          let f = fits_at probes_kind (probes_raws s) e in
          λ i. record {
            temperature1 = (shorts 14 tt).there s.temperature1 (f 0 tt) i;
            stopped1 = flags.there s.stopped1 (f 1 tt) i;
            failed1 = flags.there s.failed1 (f 2 tt) i;
            temperature2 = (shorts 14 tt).there s.temperature2 (f 3 tt) i;
            stopped2 = flags.there s.stopped2 (f 4 tt) i;
            failed2 = flags.there s.failed2 (f 5 tt) i;
            temperature3 = (shorts 14 tt).there s.temperature3 (f 6 tt) i;
            stopped3 = flags.there s.stopped3 (f 7 tt) i;
            failed3 = flags.there s.failed3 (f 8 tt) i;
            temperature4 = (shorts 14 tt).there s.temperature4 (f 9 tt) i;
            stopped4 = flags.there s.stopped4 (f 10 tt) i;
            failed4 = flags.there s.failed4 (f 11 tt) i;
          };
      back = λ n e i. field_back n probes_kind 0 tt (shorts 14 tt) i
          ∷ field_back n probes_kind 1 tt flags i
          ∷ field_back n probes_kind 2 tt flags i
          ∷ field_back n probes_kind 3 tt (shorts 14 tt) i
          ∷ field_back n probes_kind 4 tt flags i
          ∷ field_back n probes_kind 5 tt flags i
          ∷ field_back n probes_kind 6 tt (shorts 14 tt) i
          ∷ field_back n probes_kind 7 tt flags i
          ∷ field_back n probes_kind 8 tt flags i
          ∷ field_back n probes_kind 9 tt (shorts 14 tt) i
          ∷ field_back n probes_kind 10 tt flags i
          ∷ field_back n probes_kind 11 tt flags i
          ∷ [];
      backed = λ n. refl;
    }
