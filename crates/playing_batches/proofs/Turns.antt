-- A turn of `put_lines`: what is left to write, behind what was written, gives what the whole gives.
use Rattle.std.proofs.Common.{◌≡◌, ℕ, ◌≤◌, List, [], ◌∷◌, length, sym, refl, ap, ◌∙◌, ap₂, arith}
use native.Mathlib.Nat.{not-suc-le-zero}
use Rattle.rules.specs.declared.Post.{Post}
use Rattle.log_records.specs.declared.Entry.{Entry}
use Rattle.log_records.specs.declared.Found.TheVariants as found
use Rattle.log_records.specs.Record.{Rec}
use Rattle.log_records.specs.Reading.{rec_of, found_at, onward, log_of, records_in}
use Rattle.log_read.specs.declared.Ending.{Ending}
use Rattle.log_read.specs.declared.Ending.TheVariants as ending
use Rattle.log_read.specs.Records.{ended}
use Rattle.log_read.proofs.Scans.{log_at, found_turn}
use Rattle.watch_rules.specs.Table.{place_of}
use Rattle.text_pen.specs.Pens.{with_words, Wrote}
use Rattle.text_pen.specs.declared.Sheet.{Sheet}
use Rattle.text_pen.proofs.Turns.{no_words, then}
use Rattle.playing_answers.specs.Texts.{word_line}
use Rattle.playing_nights.specs.Call.{next_count}
use Rattle.playing_nights.proofs.Entries.{channel_of_lem}
use Rattle.playing_batches.specs.Words.{word_lines}

-- a list of no length is empty
empty : {A : Type 0} (xs : List A) → length xs ≤ 0 → xs ≡ []
empty [] l = refl
empty (x ∷ xs) l = absurd (not-suc-le-zero l)

-- a log that ends has no records
none_left : (x : Ending) → records_in (ended x) ≡ []
unfolding records_in
none_left ending.Clean = refl
none_left (ending.Cut at) = refl
none_left (ending.Refused w at) = refl

module _ (ps : List Post) (count : ℕ) (s ws : List ℕ) (y₀ : Sheet) where
  -- the records from a byte on
  abbrev left : ℕ → List Rec
  left at = records_in (log_at s at)

  -- the lines of the records from byte `at` on, whose words are vs, behind count k
  abbrev rest : ℕ → ℕ → List ℕ → List (List ℕ)
  rest k at vs = word_lines ps k (left at) vs

  abbrev all : List (List ℕ)
  all = word_lines ps count (records_in (log_of s)) ws

  -- the sheet y at byte `at`, with words vs left: what is left gives what the whole gives
  abbrev pub PutSo : Sheet → ℕ → ℕ → List ℕ → Type 0
  PutSo y k at vs = (length (left at) ≤ length vs) × (with_words y (rest k at vs) ≡ with_words y₀ all)

  pub start : {vs : List ℕ} → vs ≡ ws → length (records_in (log_of s)) ≤ length ws → PutSo y₀ count 0 vs
  start e room = (omega (arith, ap length e, room), ap (λ (l : List ℕ). with_words y₀ (rest count 0 l)) e)

  module _ (y : Sheet) (k at : ℕ) (vs : List ℕ) (so : PutSo y k at vs) where
    module _ (e : Entry) (here : found_at s at ≡ found.Record e) where
      more : left at ≡ rec_of s e ∷ left e.next
      unfolding records_in
      more = ap records_in (found_turn s at ∙ ap (onward s (log_at s)) here)

      front : (v : ℕ) (us : List ℕ) → vs ≡ v ∷ us → rest k at vs ≡ word_line (next_count k) (place_of ps e.channel) v ∷ rest (next_count k) e.next us
      unfolding word_lines
      front v us d =
          ap₂ (word_lines ps k) more d
          ∙ ap (λ (c : ℕ). word_line (next_count k) (place_of ps c) v ∷ rest (next_count k) e.next us) (channel_of_lem s e)

      pub turn : {z : Sheet} {us : List ℕ} {v : ℕ} (j i : ℕ) → vs ≡ v ∷ us → j ≡ next_count k → i ≡ place_of ps e.channel → Wrote y (word_line j i v ∷ []) z → PutSo z j e.next us
      turn {z} {us} {v} j i d q p put =
          let f : rest k at vs ≡ word_line j i v ∷ rest j e.next us =
          front v us d ∙ ap₂ (λ (a b : ℕ). word_line a b v ∷ rest a e.next us) (sym q) (sym p) in (
            omega (arith, ap length more, ap length d, so.0),
            then y (word_line j i v ∷ []) (rest j e.next us) put refl ∙ ap (with_words y) (sym f) ∙ so.1,
          )

    done : left at ≡ [] → Wrote y₀ (word_lines ps count (records_in (log_of s)) ws) y
    unfolding word_lines
    done z = sym (no_words y) ∙ ap (λ (xs : List Rec). with_words y (word_lines ps k xs vs)) (sym z) ∙ so.1

    -- where the log ends there is nothing left
    pub stop : (x : Ending) → log_at s at ≡ ended x → Wrote y₀ (word_lines ps count (records_in (log_of s)) ws) y
    stop x e = done (ap records_in e ∙ none_left x)

    -- nor where every word has its line
    pub stop_full : length vs ≡ 0 → Wrote y₀ (word_lines ps count (records_in (log_of s)) ws) y
    stop_full e = done (empty (left at) (omega (arith, so.0, e)))
