-- What the words of the log's C entries tell, of every call (`Told` of `plain_words`): a record is at most 20 bytes, since its channel and its length
-- are single bytes; 0, 1 and 2 say what stands at a byte. And a refusal leaves what is lent as it was; behind a record's numbers nothing changes.
use mathlib.Core.Path.{◌≡◌, refl, ◌∙◌}
use mathlib.Core.Bool.{Bool, true, false, cond, true≢false}
use mathlib.Core.List.{List, ◌++◌}
use Prim.Native.Nat.{ℕ, ◌-◌, ◌/◌, ◌%◌, ◌≤◌, ◌<◌}
use native.Mathlib.Omega.{arith}
use lib.Dec.{leb, ltb, eqb}
use lib.ListN.{length, drop, replicate}
use borrow.Author.Tests.{ltb-true}
use Rattle.std.specs.Prelude.{Ok, Err}
use Rattle.refusals.specs.declared.Refusal.TheVariants.{ShortBuffer}
use Rattle.refusals.specs.Refusals.{start_of}
use Rattle.log_numbers.specs.declared.NumberError.TheVariants as num
use Rattle.log_numbers.specs.Number.{Num, groups, read_number}
use Rattle.log_records.specs.declared.RecordError.TheVariants.{Cut, Bad}
use Rattle.log_records.specs.declared.Found.{Found}
use Rattle.log_records.specs.declared.Found.TheVariants as found
use Rattle.log_write.specs.Logged.{Logged}
use Rattle.log_records.specs.Record.{Rec, tick, frame, part_of, identifiers, record_bytes, Loggable, longest_record}
use Rattle.log_records.specs.Reading.{Taken, on_number, part, length_part, above_of, identifier_part, channel_part, time_part, record_at, placed, found_at}
use Rattle.log_write.specs.Writing.{Timed, judged, written_of, stored, buffer_after}
use Rattle.log_numbers.proofs.Numbers.{size_le, size_one}
use Rattle.log_write.proofs.Stores.{tick_length, frame_length}
use Rattle.log_write.proofs.Writings.{written_loggable}
use Rattle.plain_words.specs.Words.{answers, refuses, outcome_word, is_accepted, Within, Told}
use Rattle.plain_words.proofs.WordLaws.{either, word_tells, not_accepted}
use Rattle.plain_log.specs.Night.{logged_outcome, logged_word, entry_count, entry_numbers, found_outcome, found_word, entry_left}

-- ---- writing

pub longest : (x : Rec) → Loggable x → length (record_bytes x) ≤ longest_record
longest (tick t c) h = omega (arith, tick_length t c, size_le 4 t, size_one c (omega (arith, h.1)), size_one 0 (omega arith), size_one 9 (omega arith))
longest (frame t c x i p) h =
    omega (arith, frame_length t c (part_of x i) x i p refl, size_le 4 t, size_one c (omega (arith, h.1)), size_le 4 (part_of x i), size_one (length p) (omega (arith, h.3)), h.3)

-- the refusals of the log carry no start
abbrev Startless : Logged → Type 0
Startless (Ok n) = Unit {0}
Startless (Err w) = start_of w < 64

above : (b : Bool) → start_of (above_of b) < 64
above true = omega arith
above false = omega arith

written_startless : (x : Rec) (out : List ℕ) → Startless (written_of x out)
unfolding written_of
written_startless x out = go x (roomed (length (record_bytes x))) (either Startless (ltb (length out) (length (record_bytes x))) (omega arith) tt)
  where
    roomed : ℕ → Logged
    roomed l = cond (ltb (length out) l) (Err ShortBuffer) (Ok l)

    go : (y : Rec) (w : Logged) → Startless w → Startless (judged y w)
    go (tick t c) w h = either Startless (ltb 31 c) (omega arith) h
    go (frame t c e i p) w h =
        either Startless (ltb 31 c) (omega arith) (either Startless (leb (identifiers e) i) (above e) (either Startless (ltb 8 (length p)) (omega arith) h))

-- of a time that is a 32-bit number, as the entries' is
module _ (x : Rec) (out : List ℕ) (h : Timed x) where
  pub log_within : Within longest_record (logged_outcome (written_of x out))
  log_within = go (written_of x out) refl (written_startless x out)
    where
      go : (w : Logged) → written_of x out ≡ w → Startless w → Within longest_record (logged_outcome w)
      go (Ok n) e l = let s = written_loggable x out n e in omega (arith, s.1, longest x (s.0 h))
      go (Err w) e l = omega arith

  pub log_told : Told longest_record (logged_outcome (written_of x out)) (logged_word (written_of x out))
  log_told = word_tells longest_record (logged_outcome (written_of x out)) (omega arith) log_within

  pub log_refused : 65536 ≤ logged_word (written_of x out) → buffer_after x out ≡ out
  log_refused l = go (written_of x out) (not_accepted longest_record (logged_outcome (written_of x out)) (omega arith) log_within l)
    where
      go : (w : Logged) → is_accepted (logged_outcome w) ≡ false → stored x out w ≡ out
      go (Ok n) e = absurd (true≢false e)
      go (Err w) e = refl

-- a word below 65,536 is the writer's count of bytes, of whatever time
pub log_accepted : (x : Rec) (out : List ℕ) → logged_word (written_of x out) < 65536 → written_of x out ≡ Ok (logged_word (written_of x out))
log_accepted x out l = go (written_of x out) l
  where
    go : (w : Logged) → logged_word w < 65536 → w ≡ Ok (logged_word w)
    go (Ok n) m = refl
    go (Err w) m = absurd (let z : ⊥ = omega arith in z)

-- ---- reading

abbrev Mild : Taken → Type 0
Mild (Ok e) = Unit {0}
Mild (Err Cut) = Unit {0}
Mild (Err (Bad w)) = start_of w < 64

module _ (s : List ℕ) where
  part-mild : (i : ℕ) (go : ℕ → ℕ → Taken) → ((n j : ℕ) → Mild (go n j)) → Mild (part s i go)
  part-mild i go h = by (read_number (drop i s))
    where
      by : (n : Num) → Mild (on_number i go n)
      by (Ok (n, j)) = h n _
      by (Err num.Cut) = tt
      by (Err num.Ill) = omega arith

  length-mild : (t c p l i : ℕ) → Mild (length_part s t c p l i)
  unfolding length_part
  length-mild t c p l i =
      either Mild (ltb 9 l) (omega arith) (either Mild (eqb l 9) (either Mild (eqb p 0) tt (omega arith)) (either Mild (ltb (length s - i) l) tt tt))

  identifier-mild : (t c p i : ℕ) → Mild (identifier_part s t c p i)
  unfolding identifier_part
  identifier-mild t c p i =
      either Mild (leb (identifiers (eqb (p % 2) 1)) (p / 2)) (above (eqb (p % 2) 1)) (part-mild i (length_part s t c p) (λ l j. length-mild t c p l j))

  channel-mild : (t c i : ℕ) → Mild (channel_part s t c i)
  unfolding channel_part
  channel-mild t c i = either Mild (ltb 31 c) (omega arith) (part-mild i (identifier_part s t c) (λ p j. identifier-mild t c p j))

  record-mild : (at : ℕ) → Mild (record_at s at)
  unfolding record_at time_part
  record-mild at = part-mild at (time_part s) (λ t i. part-mild i (channel_part s t) (λ c j. channel-mild t c j))

  module _ (at places : ℕ) where
    pub found_within : Within 2 (found_outcome (found_at s at) places)
    found_within = either (λ (f : Found). Within 2 (found_outcome f places)) (leb (length s) at) (omega arith) (go (record_at s at) (record-mild at))
      where
        go : (t : Taken) → Mild t → Within 2 (found_outcome (placed at t) places)
        go (Ok e) l = either (Within 2) (leb entry_count places) (omega arith) (omega arith)
        go (Err Cut) l = omega arith
        go (Err (Bad w)) l = l

    pub found_told : Told 2 (found_outcome (found_at s at) places) (found_word (found_at s at) places)
    found_told = word_tells 2 (found_outcome (found_at s at) places) (omega arith) found_within

-- every answer but 0 leaves the lent numbers as they were
pub entry_only : (f : Found) (ns : List ℕ) → 0 < found_word f (length ns) → entry_left f ns ≡ ns
entry_only (found.Record e) ns l = room (leb entry_count (length ns)) l
  where
    room : (b : Bool) → 0 < outcome_word (cond b (answers 0) (refuses ShortBuffer)) → cond b (entry_numbers e ++ drop entry_count ns) ns ≡ ns
    room true m = absurd (let z : ⊥ = omega arith in z)
    room false m = refl
entry_only found.End ns l = refl
entry_only (found.Cut at) ns l = refl
entry_only (found.Refused w at) ns l = refl

pub entry_kept : (f : Found) (ns : List ℕ) → drop entry_count (entry_left f ns) ≡ drop entry_count ns
entry_kept (found.Record e) ns = room (leb entry_count (length ns))
  where
    room : (b : Bool) → drop entry_count (cond b (entry_numbers e ++ drop entry_count ns) ns) ≡ drop entry_count ns
    room true = refl
    room false = refl
entry_kept found.End ns = refl
entry_kept (found.Cut at) ns = refl
entry_kept (found.Refused w at) ns = refl

-- ---- a tick at 300 ms on channel 2: five bytes, and a buffer of four is left as it was

abbrev room : ℕ → List ℕ
room n = replicate n 0

tick_word_lem : (is_accepted (logged_outcome (written_of (tick 300 2) (room 5))) ≡ true) × (logged_word (written_of (tick 300 2) (room 4)) ≡ 65544)
unfolding written_of record_bytes groups
tick_word_lem = (refl, refl)

pub tick_told : ltb (logged_word (written_of (tick 300 2) (room 5))) 65536 ≡ true
tick_told = (log_told (tick 300 2) (room 5) (omega arith)).told ∙ tick_word_lem.0

pub tick_kept : buffer_after (tick 300 2) (room 4) ≡ room 4
tick_kept = log_refused (tick 300 2) (room 4) (omega arith) (omega (arith, tick_word_lem.1))

-- the word is the writer's count of bytes, and no more than 20
pub tick_bytes : written_of (tick 300 2) (room 5) ≡ Ok (logged_word (written_of (tick 300 2) (room 5)))
tick_bytes = log_accepted (tick 300 2) (room 5) (ltb-true (logged_word (written_of (tick 300 2) (room 5))) 65536 tick_told)

pub tick_short : length (record_bytes (tick 300 2)) ≤ longest_record
tick_short = longest (tick 300 2) (omega arith, omega arith)

-- a cut at byte 5 leaves the eight lent numbers
pub cut_leaves : entry_left (found.Cut 5) (room 8) ≡ room 8
cut_leaves = entry_only (found.Cut 5) (room 8) (omega arith)
