-- A run with batches is the run without: each accepted batch replaced by its records, each refused one left out (`flat-run`). So every theorem of
-- demand 3 (watch_rules/proofs/Demand.antt, Own.antt) is one of runs with batches, and the words of a batch are 01's replies, read afresh (`flat-words`).
use Prim.Native.Nat.{ℕ}
use mathlib.Core.Path.{◌≡◌, refl, ap, ap₂, ◌∙◌}
use mathlib.Core.Option.{Option, none, some}
use mathlib.Core.List.{List, [], ◌∷◌}
use Rattle.refusals.specs.declared.Refusal.{Refusal}
use Rattle.log_records.specs.Record.{Rec}
use Rattle.log_records.specs.Reading.{log_of, records_in}
use Rattle.watch_rules.specs.declared.Table.{Table}
use Rattle.watch_rules.specs.Run.{Request, run, reply01, accepted}
use Rattle.lent_runs.specs.Runs.{lent_by, lent_run, word_of}
use Rattle.lent_runs.proofs.Lents.{lent_run_lem, lent_answer}
use Rattle.batch_rules.specs.Batch.{request_of, table_after, words_of, why_batch, batch_by, batch_of}
use Rattle.batch_rules.specs.Runs.{Asked, single, batch, asked_run, with_records, with_batch, flat, words01}

module _ (t : Table) where
  -- ---- records behind requests

  records-run : (earlier : List Request) (rs : List Rec) → table_after (lent_run t earlier) rs ≡ lent_run t (with_records earlier rs)
  unfolding table_after with_records lent_run
  records-run earlier [] = refl
  records-run earlier (r ∷ rs) = records-run (request_of r ∷ earlier) rs

  records-words : (earlier : List Request) (rs : List Rec) → words_of (lent_run t earlier) rs ≡ words01 earlier rs
  unfolding words_of words01 lent_run
  records-words earlier [] = refl
  records-words earlier (r ∷ rs) = ap₂ (λ (w : ℕ) (ws : List ℕ). w ∷ ws) (lent_answer t earlier (request_of r)) (records-words (request_of r ∷ earlier) rs)

  batch_run : (o : Option Refusal) (earlier : List Request) (rs : List Rec) → (batch_by o (lent_run t earlier) rs).table ≡ lent_run t (with_batch o earlier rs)
  batch_run none earlier rs = records-run earlier rs
  batch_run (some w) earlier rs = refl

  -- ---- any requests and batches

  lent-flat : (xs : List Asked) → asked_run t xs ≡ lent_run t (flat xs)
  unfolding asked_run flat lent_run batch_of
  lent-flat [] = refl
  lent-flat (single a ∷ xs) = ap (λ (u : Table). (lent_by u a).table) (lent-flat xs)
  lent-flat (batch s places ∷ xs) =
      ap (λ (u : Table). (batch_by (why_batch s places) u (records_in (log_of s))).table) (lent-flat xs) ∙ batch_run (why_batch s places) (flat xs) (records_in (log_of s))

  pub flat_run : (xs : List Asked) → asked_run t xs ≡ run (flat xs)
  flat_run xs = lent-flat xs ∙ lent_run_lem t (flat xs)

  -- the words of the records of a batch behind them, and of a single call
  pub flat_words : (xs : List Asked) (rs : List Rec) → words_of (asked_run t xs) rs ≡ words01 (flat xs) rs
  flat_words xs rs = ap (λ (u : Table). words_of u rs) (lent-flat xs) ∙ records-words (flat xs) rs

  pub flat_answer : (xs : List Asked) (a : Request) → (lent_by (asked_run t xs) a).answer ≡ word_of (reply01 (accepted (flat xs)) a)
  flat_answer xs a = ap (λ (u : Table). (lent_by u a).answer) (lent-flat xs) ∙ lent_answer t (flat xs) a
