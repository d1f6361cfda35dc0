-- Frames over the C interface, in numbers and bytes alone: reading to raw numbers, writing from them, changing one signal.
use Rattle.std.specs.Prelude.{ℕ, Bool, cond, ◌&&◌, List, ◌++◌, leb, ℤ, length, take, drop, Ok, Err}
use Rattle.refusals.specs.declared.Refusal.TheVariants.{NoRawNumber, ShortBuffer}
use Rattle.page_read.specs.Judged.{Judged}
use Rattle.page_write.specs.Written.{Written}
use Rattle.page_read.specs.Judge.{judge_of}
use Rattle.page_table.specs.declared.Interface.{Interface}
use Rattle.page_table.specs.declared.Interface.TheVariants.{Newer}
use Rattle.page_table.specs.Interfaces.{is_on}
use Rattle.page_table.specs.Table.{signal_count}
use Rattle.page_write.specs.Raws.{raws_of, write_raws_of, buffer_after}
use Rattle.page_change.specs.Change.{change_of}
use Rattle.plain_words.specs.Words.{Outcome, answers, refuses, outcome_word}

-- ---- reading: the kind, or the refusal; 8 where the lent numbers are fewer than a message's signals can be

abbrev pub read_outcome : Judged → ℕ → Outcome
read_outcome (Ok (k, n)) room = cond (leb signal_count room) (answers k) (refuses ShortBuffer)
read_outcome (Err w) room = refuses w

abbrev pub raws_left : Judged → List ℤ → List ℤ
raws_left (Ok (k, n)) raws = cond (leb signal_count (length raws)) (raws_of k n ++ drop signal_count raws) raws
raws_left (Err w) raws = raws

unfoldable pub read_word : ℕ → Bool → List ℕ → List ℤ → ℕ
read_word m x bs raws = outcome_word (read_outcome (judge_of m x bs) (length raws))

unfoldable pub raws_after : ℕ → Bool → List ℕ → List ℤ → List ℤ
raws_after m x bs raws = raws_left (judge_of m x bs) raws

-- ---- writing: the number of bytes, or the refusal; 7 too where the lent numbers are too few, and for a kind that the pages of 000 and 004 have not

-- by the pages of an interface: a kind that they have, and a number for each of its signals
abbrev pub is_ready_on : Interface → ℕ → ℕ → Bool
is_ready_on iface k places = is_on iface k && leb signal_count places

abbrev pub is_ready : ℕ → ℕ → Bool
is_ready k places = is_on Newer k && leb signal_count places

abbrev pub written_outcome : Written → Outcome
written_outcome (Ok (i, n)) = answers n
written_outcome (Err w) = refuses w

abbrev pub write_outcome_on : Interface → ℕ → List ℤ → List ℕ → Outcome
write_outcome_on iface k raws buf = cond (is_ready_on iface k (length raws)) (written_outcome (write_raws_of k (take signal_count raws) buf)) (refuses NoRawNumber)

abbrev pub buffer_left_on : Interface → ℕ → List ℤ → List ℕ → List ℕ
buffer_left_on iface k raws buf = cond (is_ready_on iface k (length raws)) (buffer_after k (take signal_count raws) buf) buf

abbrev pub write_outcome : ℕ → List ℤ → List ℕ → Outcome
write_outcome k raws buf = cond (is_ready k (length raws)) (written_outcome (write_raws_of k (take signal_count raws) buf)) (refuses NoRawNumber)

unfoldable pub write_word : ℕ → List ℤ → List ℕ → ℕ
write_word k raws buf = outcome_word (write_outcome k raws buf)

unfoldable pub buffer_left : ℕ → List ℤ → List ℕ → List ℕ
buffer_left k raws buf = cond (is_ready k (length raws)) (buffer_after k (take signal_count raws) buf) buf

-- ---- changing: 0, or the refusal

abbrev pub changed_outcome : Judged → Outcome
changed_outcome (Ok (k, n)) = answers 0
changed_outcome (Err w) = refuses w

unfoldable pub change_word : ℕ → Bool → List ℕ → ℕ → ℤ → ℕ
change_word m x bs s z = outcome_word (changed_outcome (change_of m x bs s z))
