-- What the words of reading, writing and changing tell, of every call (`Told` of `plain_words`): an accepted answer is a kind, at most 8 bytes, or 0. And a
-- refusal leaves what is lent as it was (`..-refused`).
-- Assumes nothing.
use Rattle.std.specs.Prelude.{Ok, Err}
use mathlib.Core.Path.{◌≡◌, refl}
use mathlib.Core.Bool.{Bool, true, false, cond, true≢false}
use mathlib.Core.List.{List, ◌++◌}
use Prim.Native.Nat.{ℕ, ◌-◌, ◌≤◌}
use native.Mathlib.Omega.{arith}
use lib.Dec.{leb}
use lib.IntN.{ℤ}
use lib.ListN.{length, take, drop}
use Rattle.refusals.specs.declared.Refusal.TheVariants.{NoRawNumber, ShortBuffer}
use Rattle.payload.specs.Payload.{bytes_of, stored_in}
use Rattle.page_table.specs.Messages.{message_count}
use Rattle.page_table.specs.Table.{rows_of, identifier_of, length_of, big_of, signal_count}
use Rattle.page_read.specs.Judged.{Judged}
use Rattle.page_read.specs.Judge.{judge_of}
use Rattle.page_write.specs.Written.{Written}
use Rattle.page_write.specs.Raws.{raws_of, packed_on, can_write, write_raws_of, buffer_after}
use Rattle.page_change.specs.Change.{change_of, bytes_after}
use Rattle.page_bounds.proofs.Bounds.{SmallJudged, SmallWritten, judge_small, change_small, write_small}
use Rattle.plain_words.specs.Words.{answers, refuses, is_accepted, Within, Told}
use Rattle.plain_words.proofs.WordLaws.{either, word_tells, not_accepted}
use Rattle.plain_frames.specs.Plain.{read_outcome, raws_left, read_word, raws_after, written_outcome, is_ready, write_outcome, write_word, buffer_left, changed_outcome, change_word}

-- ---- reading

module _ (m : ℕ) (x : Bool) (bs : List ℕ) (raws : List ℤ) where
  pub read_within : Within (message_count - 1) (read_outcome (judge_of m x bs) (length raws))
  read_within = go (judge_of m x bs) (judge_small m x bs)
    where
      go : (j : Judged) → SmallJudged j → Within (message_count - 1) (read_outcome j (length raws))
      go (Ok (k, n)) l = either (Within (message_count - 1)) (leb signal_count (length raws)) (omega arith) (omega arith)
      go (Err w) l = l

  pub read_told : Told (message_count - 1) (read_outcome (judge_of m x bs) (length raws)) (read_word m x bs raws)
  unfolding read_word
  read_told = word_tells (message_count - 1) (read_outcome (judge_of m x bs) (length raws)) (omega arith) read_within

  pub read_refused : 65536 ≤ read_word m x bs raws → raws_after m x bs raws ≡ raws
  unfolding read_word raws_after
  read_refused l = go (judge_of m x bs) (not_accepted (message_count - 1) (read_outcome (judge_of m x bs) (length raws)) (omega arith) read_within l)
    where
      room : (k n : ℕ) (b : Bool) → is_accepted (cond b (answers k) (refuses ShortBuffer)) ≡ false → cond b (raws_of k n ++ drop signal_count raws) raws ≡ raws
      room k n true e = absurd (true≢false e)
      room k n false e = refl

      go : (j : Judged) → is_accepted (read_outcome j (length raws)) ≡ false → raws_left j raws ≡ raws
      go (Ok (k, n)) e = room k n (leb signal_count (length raws)) e
      go (Err w) e = refl

-- ---- writing

module _ (k : ℕ) (raws : List ℤ) (buf : List ℕ) where
  pub write_within : Within 8 (write_outcome k raws buf)
  write_within =
      either (Within 8) (is_ready k (length raws)) (go (write_raws_of k (take signal_count raws) buf) (write_small k (take signal_count raws) buf)) (omega arith)
    where
      go : (w : Written) → SmallWritten w → Within 8 (written_outcome w)
      go (Ok (i, n)) l = l
      go (Err w) l = l

  pub write_told : Told 8 (write_outcome k raws buf) (write_word k raws buf)
  unfolding write_word
  write_told = word_tells 8 (write_outcome k raws buf) (omega arith) write_within

  pub write_refused : 65536 ≤ write_word k raws buf → buffer_left k raws buf ≡ buf
  unfolding write_word buffer_left write_raws_of buffer_after stored_in
  write_refused l =
      go (is_ready k (length raws)) (can_write k (take signal_count raws)) (leb (length_of k) (length buf))
      (not_accepted 8 (write_outcome k raws buf) (omega arith) write_within l)
    where
      after : List ℕ
      after = bytes_of (big_of k) (length_of k) (packed_on 0 (rows_of k) (take signal_count raws)) ++ drop (length_of k) buf

      go : (a b c : Bool)
          → is_accepted (cond a (written_outcome (cond {A = Written} b (cond c (Ok (identifier_of k, length_of k)) (Err ShortBuffer)) (Err NoRawNumber))) (refuses NoRawNumber)) ≡ false
          → cond a (cond b (cond c after buf) buf) buf ≡ buf
      go true true true e = absurd (true≢false e)
      go true true false e = refl
      go true false c e = refl
      go false b c e = refl

-- ---- changing

module _ (m : ℕ) (x : Bool) (bs : List ℕ) (s : ℕ) (z : ℤ) where
  pub change_within : Within 0 (changed_outcome (change_of m x bs s z))
  change_within = go (change_of m x bs s z) (change_small m x bs s z)
    where
      go : (j : Judged) → SmallJudged j → Within 0 (changed_outcome j)
      go (Ok (k, n)) l = omega arith
      go (Err w) l = omega arith

  pub change_told : Told 0 (changed_outcome (change_of m x bs s z)) (change_word m x bs s z)
  unfolding change_word
  change_told = word_tells 0 (changed_outcome (change_of m x bs s z)) (omega arith) change_within

  pub change_refused : 65536 ≤ change_word m x bs s z → bytes_after bs (change_of m x bs s z) ≡ bs
  unfolding change_word
  change_refused l = go (change_of m x bs s z) (not_accepted 0 (changed_outcome (change_of m x bs s z)) (omega arith) change_within l)
    where
      go : (j : Judged) → is_accepted (changed_outcome j) ≡ false → bytes_after bs j ≡ bs
      go (Ok (k, n)) e = absurd (true≢false e)
      go (Err w) e = refl
