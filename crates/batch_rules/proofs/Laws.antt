-- 02, Req 07: each refusal of a batch exactly in its case and in 02's order, what stays, what an accepted batch leaves, and that the records are
-- those that a log wrote.
use Prim.Native.Nat.{ℕ, zero, suc, ◌+◌, ◌≤◌, ◌<◌}
use native.Mathlib.Omega.{arith}
use mathlib.Core.Path.{◌≡◌, refl, ap, sym, subst, ◌∙◌}
use mathlib.Core.Bool.{Bool, true, false, cond}
use mathlib.Core.Option.{Option, none, some}
use mathlib.Core.List.{List, [], ◌∷◌, ◌++◌}
use lib.Dec.{ltb}
use lib.ListN.{length, get_or, take, drop, length-append, length-drop}
use lib.Seq.{drop_at, get_or-drop}
use borrow.Author.Tests.{ltb-true, ltb-false}
use Rattle.refusals.specs.declared.Refusal.{Refusal}
use Rattle.refusals.specs.declared.Refusal.TheVariants.{BatchBytes, BatchRecord, BatchAnswers}
use Rattle.refusals.specs.Refusals.{number_of}
use Rattle.log_records.specs.declared.Found.{Found}
use Rattle.log_records.specs.declared.Found.TheVariants as found
use Rattle.log_records.specs.Record.{Rec, AllLoggable, log_bytes}
use Rattle.log_records.specs.Reading.{Log, found_at, onward, read_from, log_of, whole, records_in}
use Rattle.log_records.proofs.Logs.{log_reads, records_whole}
use Rattle.watch_rules.specs.declared.Table.{Table}
use Rattle.batch_rules.specs.Batch.{called_with, table_after, words_of, most_bytes, is_whole, why_batch, batch_by, answers_by, batch_of, answers_after}
use Rattle.batch_rules.specs.Cases.{TooLong, Broken, NoRoom, Taken}

-- ---- a record takes a byte at least

few_by : (k : ℕ) (s : List ℕ) (go : ℕ → Log) (f : Found) → ((n : ℕ) → length (records_in (go n)) ≤ k) → length (records_in (onward s go f)) ≤ suc k
unfolding records_in
few_by k s go (found.Record e) h = omega (arith, h e.next)
few_by k s go found.End h = omega arith
few_by k s go (found.Cut at) h = omega arith
few_by k s go (found.Refused w at) h = omega arith

few_from : (k : ℕ) (s : List ℕ) (at : ℕ) → length (records_in (read_from k s at)) ≤ k
unfolding read_from records_in
few_from zero s at = omega arith
few_from (suc k) s at = few_by k s (read_from k s) (found_at s at) (few_from k s)

pub few_records : (s : List ℕ) → length (records_in (log_of s)) ≤ length s
few_records s = few_from (length s) s 0

-- ---- the cases, in 02's order

abbrev pub Exactly : Type 0 → Type 0 → Type 0
Exactly A B = (A → B) × (B → A)

module _ (s : List ℕ) (places : ℕ) where
  abbrev records : List Rec
  records = records_in (log_of s)

  pub by_why : (P : Option Refusal → Type 0) → (TooLong s places → P (some BatchBytes)) → (Broken s places → P (some BatchRecord)) → (NoRoom s places → P (some BatchAnswers)) → (Taken s places → P none) → P (why_batch s places)
  unfolding why_batch
  by_why P long broken room taken = go (ltb most_bytes (length s)) (is_whole (log_of s)) (ltb places (length records)) refl refl refl
    where
      go : (x y z : Bool) → ltb most_bytes (length s) ≡ x → is_whole (log_of s) ≡ y → ltb places (length records) ≡ z
          → P (cond x (some BatchBytes) (cond y (cond z (some BatchAnswers) none) (some BatchRecord)))
      go true y z e f g = long (ltb-true most_bytes (length s) e)
      go false false z e f g = broken (ltb-false most_bytes (length s) e, f)
      go false true true e f g = room (ltb-false most_bytes (length s) e, f, ltb-true places (length records) g)
      go false true false e f g = taken (ltb-false most_bytes (length s) e, f, ltb-false places (length records) g)

  differ : {A : Type 0} → true ≡ false → A
  differ e = absurd (subst (λ (b : Bool). cond b (Unit {0}) ⊥) e tt)

  module _ (t : Table) where
    abbrev Word : Option Refusal → ℕ
    Word o = (batch_by o t records).answer

    -- "each refuse the whole batch with a number of their own, judged in this order"
    pub refused_22 : Exactly ((batch_of t s places).answer ≡ 65536 + number_of BatchBytes) (TooLong s places)
    unfolding batch_of
    refused_22 = (
      by_why (λ o. Word o ≡ 65558 → TooLong s places) (λ l e. l) (λ b e. absurd (omega arith)) (λ r e. absurd (omega arith)) (λ k e. absurd (omega (arith, few_records s))),
      λ l. by_why (λ o. Word o ≡ 65558) (λ l. refl) (λ b. absurd (omega (arith, b.0))) (λ r. absurd (omega (arith, r.0))) (λ k. absurd (omega (arith, k.0))),
    )

    pub refused_23 : Exactly ((batch_of t s places).answer ≡ 65536 + number_of BatchRecord) (Broken s places)
    unfolding batch_of
    refused_23 = (
      by_why (λ o. Word o ≡ 65559 → Broken s places) (λ l e. absurd (omega arith)) (λ b e. b) (λ r e. absurd (omega arith)) (λ k e. absurd (omega (arith, few_records s, k.0))),
      λ b. by_why (λ o. Word o ≡ 65559) (λ l. absurd (omega (arith, b.0))) (λ b. refl) (λ r. differ (sym r.1 ∙ b.1)) (λ k. differ (sym k.1 ∙ b.1)),
    )

    pub refused_24 : Exactly ((batch_of t s places).answer ≡ 65536 + number_of BatchAnswers) (NoRoom s places)
    unfolding batch_of
    refused_24 = (
      by_why (λ o. Word o ≡ 65560 → NoRoom s places) (λ l e. absurd (omega arith)) (λ b e. absurd (omega arith)) (λ r e. r) (λ k e. absurd (omega (arith, few_records s, k.0))),
      λ r. by_why (λ o. Word o ≡ 65560) (λ l. absurd (omega (arith, r.0))) (λ b. differ (sym r.1 ∙ b.1)) (λ r. refl) (λ k. absurd (omega (arith, r.2, k.2))),
    )

    -- and accepted where none of these is: a word below 65,536, the number of records
    pub accepted_word : Exactly ((batch_of t s places).answer < 65536) (Taken s places)
    unfolding batch_of
    accepted_word = (
      by_why (λ o. Word o < 65536 → Taken s places) (λ l e. absurd (omega arith)) (λ b e. absurd (omega arith)) (λ r e. absurd (omega arith)) (λ k e. k),
      λ k. by_why (λ o. Word o < 65536) (λ l. absurd (omega (arith, k.0))) (λ b. differ (sym k.1 ∙ b.1)) (λ r. absurd (omega (arith, r.2, k.2))) (λ k. omega (arith, few_records s, k.0)),
    )

    pub accepted_batch : Taken s places → batch_of t s places ≡ record { table = table_after t (records_in (log_of s)); answer = length (records_in (log_of s)) }
    unfolding batch_of
    accepted_batch k = by_why (λ o. batch_by o t records ≡ record { table = table_after t records; answer = length records })
        (λ l. absurd (omega (arith, k.0))) (λ b. differ (sym k.1 ∙ b.1)) (λ r. absurd (omega (arith, r.2, k.2))) (λ k. refl)

-- ---- the answers

pub words_length : (t : Table) (rs : List Rec) → length (words_of t rs) ≡ length rs
unfolding words_of
words_length t [] = refl
words_length t (r ∷ rs) = ap suc (words_length (called_with t r).table rs)

-- each is the word of the single call, on the table that the records before it left
pub word_at : (t : Table) (rs : List Rec) (k : ℕ) (d : Rec) → k < length rs → get_or (words_of t rs) k 0 ≡ (called_with (table_after t (take k rs)) (get_or rs k d)).answer
unfolding words_of table_after
word_at t [] k d l = absurd (omega arith)
word_at t (r ∷ rs) zero d l = refl
word_at t (r ∷ rs) (suc k) d l = word_at (called_with t r).table rs k d (omega arith)

module _ (t : Table) (s ws : List ℕ) where
  abbrev heard : List Rec
  heard = records_in (log_of s)

  pub accepted_answers : Taken s (length ws) → answers_after t s ws ≡ words_of t (records_in (log_of s)) ++ drop (length (records_in (log_of s))) ws
  unfolding answers_after
  accepted_answers k = by_why s (length ws) (λ o. answers_by o t heard ws ≡ words_of t heard ++ drop (length heard) ws)
      (λ l. absurd (omega (arith, k.0))) (λ b. differ s (length ws) (sym k.1 ∙ b.1)) (λ r. absurd (omega (arith, r.2, k.2))) (λ k. refl)

  -- "and nothing changes", the table's count of what was refused neither
  pub refused_nothing : 65536 ≤ (batch_of t s (length ws)).answer → ((batch_of t s (length ws)).table ≡ t) × (answers_after t s ws ≡ ws)
  unfolding batch_of answers_after
  refused_nothing = by_why s (length ws) (λ o. 65536 ≤ (batch_by o t heard).answer → ((batch_by o t heard).table ≡ t) × (answers_by o t heard ws ≡ ws))
      (λ l e. (refl, refl)) (λ b e. (refl, refl)) (λ r e. (refl, refl)) (λ k e. absurd (omega (arith, few_records s, k.0)))

  -- "Answers beyond the records stay as they were.", and there are as many places as before
  pub answers_length : length (answers_after t s ws) ≡ length ws
  unfolding answers_after
  answers_length = by_why s (length ws) (λ o. length (answers_by o t heard ws) ≡ length ws) (λ l. refl) (λ b. refl) (λ r. refl)
      (λ k. length-append (words_of t heard) (drop (length heard) ws) ∙ omega (arith, words_length t heard, length-drop (length heard) ws, k.2))

  pub answers_beyond : drop (length (records_in (log_of s))) (answers_after t s ws) ≡ drop (length (records_in (log_of s))) ws
  unfolding answers_after
  answers_beyond = by_why s (length ws) (λ o. drop (length heard) (answers_by o t heard ws) ≡ drop (length heard) ws) (λ l. refl) (λ b. refl) (λ r. refl)
      (λ k. drop_at (words_of t heard) (drop (length heard) ws) (length heard) (words_length t heard))

  pub place_beyond : (k : ℕ) → get_or (answers_after t s ws) (length (records_in (log_of s)) + k) 0 ≡ get_or ws (length (records_in (log_of s)) + k) 0
  place_beyond k = sym (get_or-drop (length heard) (answers_after t s ws) k 0) ∙ ap (λ (l : List ℕ). get_or l k 0) answers_beyond ∙ get_or-drop (length heard) ws k 0

-- ---- the records are those that the log wrote

whole_is : (rs : List Rec) → is_whole (whole rs) ≡ true
unfolding is_whole whole
whole_is [] = refl
whole_is (r ∷ rs) = whole_is rs

module _ (rs : List Rec) (loggable : AllLoggable rs) where
  pub written_records : records_in (log_of (log_bytes rs)) ≡ rs
  written_records = ap records_in (log_reads rs loggable) ∙ records_whole rs

  pub written_taken : (places : ℕ) → length (log_bytes rs) ≤ most_bytes → length rs ≤ places → Taken (log_bytes rs) places
  written_taken places fits room = (fits, ap is_whole (log_reads rs loggable) ∙ whole_is rs, omega (arith, ap length written_records))

  -- a batch of what the log wrote for them feeds exactly them
  pub written_batch : (t : Table) (ws : List ℕ) → length (log_bytes rs) ≤ most_bytes → length rs ≤ length ws
      → (batch_of t (log_bytes rs) (length ws) ≡ record { table = table_after t rs; answer = length rs }) × (answers_after t (log_bytes rs) ws ≡ words_of t rs ++ drop (length rs) ws)
  written_batch t ws fits room =
      let k = written_taken (length ws) fits room in (
        accepted_batch (log_bytes rs) (length ws) t k ∙ ap (λ (xs : List Rec). record { table = table_after t xs; answer = length xs }) written_records,
        accepted_answers t (log_bytes rs) ws k ∙ ap (λ (xs : List Rec). words_of t xs ++ drop (length xs) ws) written_records,
      )
