-- Frames over the C interface by the pages of the older interface.
use Rattle.std.specs.Prelude.{ℕ, Bool, cond, ◌&&◌, List, leb, ℤ, length, take}
use Rattle.refusals.specs.declared.Refusal.TheVariants.{NoRawNumber}
use Rattle.page_table.specs.declared.Interface.TheVariants.{Older}
use Rattle.page_table.specs.Interfaces.{is_on}
use Rattle.page_table.specs.Table.{signal_count}
use Rattle.page_read.specs.Judge.{judge_on}
use Rattle.page_write.specs.Raws.{write_raws_of, buffer_after}
use Rattle.page_change.specs.Change.{change_on}
use Rattle.plain_words.specs.Words.{refuses, outcome_word}
use Rattle.plain_frames.specs.Plain.{read_outcome, raws_left, written_outcome, changed_outcome}

unfoldable pub read_word_older : ℕ → Bool → List ℕ → List ℤ → ℕ
read_word_older m x bs raws = outcome_word (read_outcome (judge_on Older m x bs) (length raws))

unfoldable pub raws_after_older : ℕ → Bool → List ℕ → List ℤ → List ℤ
raws_after_older m x bs raws = raws_left (judge_on Older m x bs) raws

-- 7 too for a kind that the interface has not
abbrev pub is_ready_older : ℕ → ℕ → Bool
is_ready_older k places = is_on Older k && leb signal_count places

unfoldable pub write_word_older : ℕ → List ℤ → List ℕ → ℕ
write_word_older k raws buf =
    outcome_word (cond (is_ready_older k (length raws)) (written_outcome (write_raws_of k (take signal_count raws) buf)) (refuses NoRawNumber))

unfoldable pub buffer_left_older : ℕ → List ℤ → List ℕ → List ℕ
buffer_left_older k raws buf = cond (is_ready_older k (length raws)) (buffer_after k (take signal_count raws) buf) buf

unfoldable pub change_word_older : ℕ → Bool → List ℕ → ℕ → ℤ → ℕ
change_word_older m x bs s z = outcome_word (changed_outcome (change_on Older m x bs s z))
