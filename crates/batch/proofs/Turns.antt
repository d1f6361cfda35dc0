-- A turn of `feed_all`: what is left to do, on what was done, gives what the whole gives.
use Prim.Native.Nat.{ℕ, suc, ◌+◌, ◌%◌, ◌≤◌, ◌<◌}
use native.Mathlib.Numerals.{add-one}
use native.Mathlib.Nat.{zero-add}
use native.Mathlib.Omega.{arith}
use mathlib.Core.Path.{◌≡◌, refl, ap, sym, subst, ◌∙◌}
use mathlib.Core.Bool.{Bool, true, false, cond}
use mathlib.Core.Option.{none}
use mathlib.Core.List.{List, [], ◌∷◌, ◌++◌}
use lib.ListN.{length, get_or, set, take, drop, length-set}
use lib.Seq.{sets, sets-eq}
use Rattle.log_records.specs.declared.Entry.{Entry}
use Rattle.log_records.specs.declared.Found.{Found}
use Rattle.log_records.specs.declared.Found.TheVariants as found
use Rattle.log_records.specs.Record.{Rec, tick, frame}
use Rattle.log_records.specs.Reading.{rec_of, found_at, onward, log_of, records_in}
use Rattle.log_read.proofs.Scans.{log_at, found_turn}
use Rattle.rules.specs.declared.Head.{Head}
use Rattle.rules.specs.declared.Slot.{Slot}
use Rattle.watch_rules.specs.declared.Table.{Table}
use Rattle.watch_rules.specs.Table.{post_count, channel_count, no_head, place_named, some_place, refused_after}
use Rattle.batch_rules.specs.lent_words.specs.Lent.{Lent}
use Rattle.watch_rules.specs.declared.Heard.{Heard}
use Rattle.batch_rules.specs.lent_words.specs.Words.{answer_word}
use Rattle.batch_rules.specs.Batch.{called_with, table_after, words_of, answers_by}
use Rattle.batch_rules.proofs.Laws.{words_length}
use Rattle.batch.specs.Parts.{heard_by, joined}
use Rattle.batch.proofs.Joined.{channel_of, heads_by, latest_by, lent_back, called_same}

-- ---- a record of the log

channel_is : (s : List ℕ) (e : Entry) → channel_of (rec_of s e) ≡ e.channel
channel_is s e = go e.tick
  where
    go : (b : Bool) → channel_of (cond b (tick e.time e.channel) (frame e.time e.channel e.extended e.id (take e.length (drop e.start s)))) ≡ e.channel
    go true = refl
    go false = refl

-- a channel's place is the index's alone, which no record changes
some_is : (u : Table) (c : ℕ) → place_named (get_or u.index (c % channel_count) 0) ≡ some_place u c
unfolding some_place
some_is u c = refl

module _ (t : Table) (s a₀ : List ℕ) where
  -- the records from a byte on
  abbrev left : ℕ → List Rec
  left at = records_in (log_at s at)

  abbrev all : List Rec
  all = records_in (log_of s)

  abbrev table : List Head → List (List Slot) → ℕ → Table
  table hs ls m = record { posts = joined hs ls; index = t.index; refused = m }

  -- after n records, at byte `at`, with the posts in two lists, m frames and ticks refused so far, and the answers a
  abbrev pub FedSo : List ℕ → List Head → List (List Slot) → ℕ → ℕ → ℕ → Type 0
  FedSo a hs ls m at n =
      (length hs ≡ post_count) × (length ls ≡ post_count) × (length a ≡ length a₀) × (n + length (left at) ≤ length a₀)
      × (table_after (table hs ls m) (left at) ≡ table_after t all) × (sets a n (words_of (table hs ls m) (left at)) ≡ sets a₀ 0 (words_of t all))

  module _ (a : List ℕ) (hs : List Head) (ls : List (List Slot)) (m at n : ℕ) (so : FedSo a hs ls m at n) where
    module _ (e : Entry) (here : found_at s at ≡ found.Record e) where
      more : left at ≡ rec_of s e ∷ left e.next
      unfolding records_in
      more = ap records_in (found_turn s at ∙ ap (onward s (log_at s)) here)

      -- there is a place for its answer
      pub has_place : n < length a
      has_place = omega (arith, ap length more, so.2, so.3)

      module _ (i : ℕ) (low : i < post_count) (at_place : i ≡ place_named (get_or t.index (e.channel % channel_count) 0)) where
        abbrev low_head : i < length hs
        low_head = omega (arith, so.0)

        abbrev low_row : i < length ls
        low_row = omega (arith, so.1)

        abbrev heard : Heard
        heard = heard_by (get_or hs i no_head) (rec_of s e)

        call : called_with (table hs ls m) (rec_of s e) ≡ lent_back hs ls t.index m i low_head low_row heard
        call =
            called_same hs ls t.index m i low_head low_row (rec_of s e)
            (at_place ∙ some_is (table hs ls m) e.channel ∙ ap (some_place (table hs ls m)) (sym (channel_is s e)))

        fed : FedSo (set a n (answer_word heard.answer)) (heads_by hs ls t.index m i low_head low_row heard) (latest_by hs ls t.index m i low_head low_row heard) (refused_after m heard.answer) e.next (n + 1)
        unfolding table_after words_of
        fed = (
          length-set hs i heard.head ∙ so.0,
          length-set ls i _ ∙ so.1,
          length-set a n (answer_word heard.answer) ∙ so.2,
          omega (arith, ap length more, so.3),
          ap (λ (r : Lent). table_after r.table (left e.next)) (sym call) ∙ sym (ap (table_after (table hs ls m)) more) ∙ so.4,
          rw (add-one n) (ap (λ (r : Lent). sets (set a n r.answer) (suc n) (words_of r.table (left e.next))) (sym call)) ∙ sym (ap (λ (xs : List Rec). sets a n (words_of (table hs ls m) xs)) more) ∙ so.5,
        )

        pub turn : (w : Heard) → w ≡ heard_by (get_or hs i no_head) (rec_of s e) → (u : ℕ) → u ≡ refused_after m w.answer → (v : ℕ) → v ≡ answer_word w.answer
            → (rows : List (List Slot)) → latest_by hs ls t.index m i low_head low_row w ≡ rows → FedSo (set a n v) (set hs i w.head) rows u e.next (n + 1)
        turn w q u o v p rows k =
            subst (λ (x : List (List Slot)). FedSo (set a n v) (set hs i w.head) x u e.next (n + 1)) k
            (subst (λ (x : ℕ). FedSo (set a n v) (set hs i w.head) (latest_by hs ls t.index m i low_head low_row w) x e.next (n + 1)) (sym o)
            (subst (λ (x : ℕ). FedSo (set a n x) (set hs i w.head) (latest_by hs ls t.index m i low_head low_row w) (refused_after m w.answer) e.next (n + 1)) (sym p)
            (subst (λ (y : Heard). FedSo (set a n (answer_word y.answer)) (set hs i y.head) (latest_by hs ls t.index m i low_head low_row y) (refused_after m y.answer) e.next (n + 1)) (sym q) fed)))

    -- where no record is found there is nothing left
    pub stop : (f : Found) → f ≡ found_at s at → records_in (onward s (log_at s) f) ≡ [] → length (records_in (log_of s)) ≤ length a₀
        → (record { posts = joined hs ls; index = t.index; refused = m } ≡ table_after t (records_in (log_of s))) × (a ≡ answers_by none t (records_in (log_of s)) a₀)
    unfolding table_after words_of
    stop f here nothing room =
        let z : left at ≡ [] = ap records_in (found_turn s at) ∙ ap (λ (x : Found). records_in (onward s (log_at s) x)) (sym here) ∙ nothing in
        let w = words_length t all in (
          sym (ap (table_after (table hs ls m)) z) ∙ so.4,
          sym (ap (λ (xs : List Rec). sets a n (words_of (table hs ls m) xs)) z) ∙ so.5 ∙ sets-eq (words_of t all) a₀ 0 (omega (arith, w))
              ∙ ap (λ (k : ℕ). words_of t all ++ drop k a₀) (zero-add (length (words_of t all)) ∙ w),
        )

  -- before the first record
  pub start : length (records_in (log_of s)) ≤ length a₀ → (hs : List Head) (ls : List (List Slot)) → length hs ≡ post_count → length ls ≡ post_count → joined hs ls ≡ t.posts
      → FedSo a₀ hs ls t.refused 0 0
  start room hs ls m n e = (
    m,
    n,
    refl,
    omega arith,
    ap (λ ps. table_after (record { posts = ps; index = t.index; refused = t.refused }) all) e,
    ap (λ ps. sets a₀ 0 (words_of (record { posts = ps; index = t.index; refused = t.refused }) all)) e,
  )
