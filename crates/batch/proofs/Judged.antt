-- What `feed_batch` finds in its first pass, and what follows for the batch.
use Prim.Native.Nat.{ℕ, ◌+◌, ◌≤◌, ◌<◌}
use native.Mathlib.Omega.{arith}
use mathlib.Core.Path.{◌≡◌, refl, ap, sym, subst, ◌∙◌}
use mathlib.Core.Bool.{true, false}
use mathlib.Core.Option.{none, some}
use mathlib.Core.List.{List, []}
use lib.ListN.{length}
use borrow.Author.Tests.{lt-ltb, le-ltb}
use Rattle.refusals.specs.declared.Refusal.{Refusal}
use Rattle.refusals.specs.declared.Refusal.TheVariants.{BatchBytes, BatchRecord, BatchAnswers}
use Rattle.log_records.specs.Reading.{Log, ends, then, clean, piece, refused, log_of, records_in}
use Rattle.log_read.specs.declared.Scan.{Scan}
use Rattle.log_read.specs.declared.Ending.{Ending}
use Rattle.log_read.specs.declared.Ending.TheVariants as ending
use Rattle.log_read.specs.Scan.{scan_of}
use Rattle.watch_rules.specs.declared.Table.{Table}
use Rattle.batch_rules.specs.lent_words.specs.Lent.{Lent}
use Rattle.batch_rules.specs.Batch.{most_bytes, is_whole, table_after, why_batch, batch_by, answers_by, batch_of, answers_after}

-- ---- the first pass

abbrev pub ToldBy : ℕ → Log → ℕ → Ending → Type 0
ToldBy m l n ending.Clean = (is_whole l ≡ true) × (n ≡ m + length (records_in l))
ToldBy m l n (ending.Cut at) = is_whole l ≡ false
ToldBy m l n (ending.Refused w at) = is_whole l ≡ false

abbrev pub Told : ℕ → Log → Scan → Type 0
Told m l x = ToldBy m l x.records x.ending

told_then : (m : ℕ) (r : _) (l : Log) (n : ℕ) (e : Ending) → ToldBy (m + 1) l n e → ToldBy m (then r l) n e
unfolding is_whole records_in
told_then m r l n ending.Clean h = (h.0, omega (arith, h.1))
told_then m r l n (ending.Cut at) h = h
told_then m r l n (ending.Refused w at) h = h

told_by_lem : (m : ℕ) (l : Log) → Told m l (scan_of m l)
unfolding scan_of is_whole records_in
told_by_lem m (ends clean) = (refl, omega arith)
told_by_lem m (ends (piece at)) = refl
told_by_lem m (ends (refused w at)) = refl
told_by_lem m (then r l) = told_then m r l (scan_of (m + 1) l).records (scan_of (m + 1) l).ending (told_by_lem (m + 1) l)

pub told : (s : List ℕ) {r : Scan} → r ≡ scan_of 0 (log_of s) → (e : Ending) → r.ending ≡ e → ToldBy 0 (log_of s) r.records e
told s {r} q e f = subst (ToldBy 0 (log_of s) r.records) f (subst (Told 0 (log_of s)) (sym q) (told_by_lem 0 (log_of s)))

-- a log that does not end behind a whole record
pub told_broken : (s : List ℕ) {r : Scan} → r ≡ scan_of 0 (log_of s) → ¬ (r.ending ≡ ending.Clean) → is_whole (log_of s) ≡ false
told_broken s {r} q n = by r.ending refl
  where
    by : (e : Ending) → r.ending ≡ e → is_whole (log_of s) ≡ false
    by ending.Clean f = absurd (n f)
    by (ending.Cut at) f = told s q (ending.Cut at) f
    by (ending.Refused w at) f = told s q (ending.Refused w at) f

-- ---- the case

module _ (s : List ℕ) (places : ℕ) where
  pub why_bytes : most_bytes < length s → why_batch s places ≡ some BatchBytes
  unfolding why_batch
  why_bytes h = rw (lt-ltb most_bytes (length s) h)

  module _ (fits : length s ≤ most_bytes) where
    pub why_record : is_whole (log_of s) ≡ false → why_batch s places ≡ some BatchRecord
    unfolding why_batch
    why_record e = rw (le-ltb most_bytes (length s) fits, e)

    pub why_answers : is_whole (log_of s) ≡ true → places < length (records_in (log_of s)) → why_batch s places ≡ some BatchAnswers
    unfolding why_batch
    why_answers e h = rw (le-ltb most_bytes (length s) fits, e, lt-ltb places (length (records_in (log_of s))) h)

    pub why_none : is_whole (log_of s) ≡ true → length (records_in (log_of s)) ≤ places → why_batch s places ≡ none
    unfolding why_batch
    why_none e h = rw (le-ltb most_bytes (length s) fits, e, le-ltb places (length (records_in (log_of s))) h)

-- ---- the batch

module _ (t : Table) (s a : List ℕ) where
  pub refused_whole : (w : Refusal) {r : Lent} → r ≡ batch_by (some w) t [] → why_batch s (length a) ≡ some w → (r ≡ batch_of t s (length a)) × (a ≡ answers_after t s a)
  unfolding batch_of answers_after
  refused_whole w q e = (q ∙ sym (ap (λ o. batch_by o t (records_in (log_of s))) e), sym (ap (λ o. answers_by o t (records_in (log_of s)) a) e))

  pub taken_whole : (u : Table) (n : ℕ) (b : List ℕ) → why_batch s (length a) ≡ none → n ≡ length (records_in (log_of s))
      → (u ≡ table_after t (records_in (log_of s))) × (b ≡ answers_by none t (records_in (log_of s)) a)
      → (record { table = u; answer = n } ≡ batch_of t s (length a)) × (b ≡ answers_after t s a)
  unfolding batch_of answers_after
  taken_whole u n b e m w = (
    (λ i. record { table = w.0 i; answer = m i }) ∙ sym (ap (λ o. batch_by o t (records_in (log_of s))) e),
    w.1 ∙ sym (ap (λ o. answers_by o t (records_in (log_of s)) a) e),
  )
