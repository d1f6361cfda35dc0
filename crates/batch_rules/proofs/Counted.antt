-- 02, Req 08, of runs with batches among the requests: the table's count of refused frames and ticks is that of the same requests without batches, and
-- "Accepted ever plus refused equals handed in".
use Prim.Native.Nat.{ℕ, ◌+◌, ◌≤◌, min}
use native.Mathlib.Omega.{arith}
use mathlib.Core.Path.{◌≡◌, refl, ap, ◌∙◌}
use mathlib.Core.Bool.{true}
use mathlib.Core.Option.{Option, none, some}
use mathlib.Core.List.{List, [], ◌∷◌}
use lib.ListN.{length}
use Rattle.refusals.specs.declared.Refusal.{Refusal}
use Rattle.log_records.specs.Record.{Rec}
use Rattle.log_records.specs.Record as rec
use Rattle.log_records.specs.Reading.{log_of, records_in}
use Rattle.rule_asks.specs.Judgements.{bit}
use Rattle.rules.specs.Counts.{largest}
use Rattle.watch_rules.specs.declared.Table.{Table}
use Rattle.watch_rules.specs.Run.{Request, is_arrival, handed_in, refused_ever, accepted_ever}
use Rattle.watch_rules.proofs.Handed.{refused_counted, all_handed}
use Rattle.batch_rules.specs.Batch.{request_of, why_batch}
use Rattle.batch_rules.specs.Runs.{Asked, single, batch, asked_run, with_records, with_batch, flat, handed_by, handed_asked}
use Rattle.batch_rules.proofs.Flat.{flat_run}

-- ---- what was handed in

-- a record is a frame or a tick
arrives : (r : Rec) → is_arrival (request_of r) ≡ true
arrives (rec.tick time c) = refl
arrives (rec.frame time c x m bs) = refl

records_handed : (earlier : List Request) (rs : List Rec) → handed_in (with_records earlier rs) ≡ length rs + handed_in earlier
unfolding with_records
records_handed earlier [] = omega arith
records_handed earlier (r ∷ rs) = omega (arith, records_handed (request_of r ∷ earlier) rs, ap (λ b. bit b 1) (arrives r))

batch_handed : (o : Option Refusal) (earlier : List Request) (rs : List Rec) → handed_in (with_batch o earlier rs) ≡ handed_by o rs + handed_in earlier
batch_handed none earlier rs = records_handed earlier rs
batch_handed (some w) earlier rs = omega arith

-- a batch hands in each of its records, and refused whole none
pub flat_handed : (xs : List Asked) → handed_in (flat xs) ≡ handed_asked xs
unfolding flat
flat_handed [] = refl
flat_handed (single a ∷ xs) = ap (λ (n : ℕ). bit (is_arrival a) 1 + n) (flat_handed xs)
flat_handed (batch s places ∷ xs) =
    batch_handed (why_batch s places) (flat xs) (records_in (log_of s)) ∙ ap (λ (n : ℕ). handed_by (why_batch s places) (records_in (log_of s)) + n) (flat_handed xs)

-- ---- the table's count

module _ (t : Table) (xs : List Asked) where
  pub asked_refused : (asked_run t xs).refused ≡ min (refused_ever (flat xs)) largest
  asked_refused = ap (λ (u : Table). u.refused) (flat_run t xs) ∙ refused_counted (flat xs)

  -- "the sum holds until a refusal finds it there"
  pub asked_handed : refused_ever (flat xs) ≤ largest → accepted_ever (flat xs) + (asked_run t xs).refused ≡ handed_asked xs
  asked_handed few = omega (arith, asked_refused, all_handed (flat xs), flat_handed xs, few)
