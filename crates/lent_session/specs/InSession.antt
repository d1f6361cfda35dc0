-- The latest Power_Modules_Status, DC_Power_Control and Emergency_Stop accepted in the open session, or what stands for them on a post of the older interface,
-- over the C interface: answered, refused and handed out as the latest frame of a kind (`lent_latest`), from what the session keeps.
-- 01: "With no session open all of the session's part is none."
use Rattle.std.specs.Prelude.{ℕ, Bool, List, ltb, length}
use Rattle.rules.specs.declared.Slot.{Slot}
use Rattle.rules.specs.After.{kept_count, open_kept}
use Rattle.watch_rules.specs.declared.Table.{Table}
use Rattle.watch_rules.specs.Table.{post_in, look_up_of}
use Rattle.plain_words.specs.Words.{Outcome, outcome_word}
use Rattle.lent_latest.specs.Latest.{now_of, latest_outcome, hands, time_left, bytes_left}

-- a place of a session; any other number gets 3
abbrev pub is_part : ℕ → Bool
is_part j = ltb j kept_count

abbrev pub part_of : Table → ℕ → ℕ → Slot
part_of t i j = open_kept (post_in t i).head.session j

abbrev pub hands_part : Table → ℕ → ℕ → List ℕ → List ℕ → Bool
hands_part t i j times buf = hands (look_up_of t i).answer (is_part j) (part_of t i j) (length times) (length buf)

abbrev pub part_outcome : Table → ℕ → ℕ → List ℕ → List ℕ → Outcome
part_outcome t i j times buf = latest_outcome (look_up_of t i).answer (is_part j) (part_of t i j) (length times) (length buf)

unfoldable pub part_word : Table → ℕ → ℕ → List ℕ → List ℕ → ℕ
part_word t i j times buf = outcome_word (part_outcome t i j times buf)

unfoldable pub part_time : Table → ℕ → ℕ → List ℕ → List ℕ → List ℕ
part_time t i j times buf = time_left (hands_part t i j times buf) (now_of t i) (part_of t i j) times

unfoldable pub part_frame : Table → ℕ → ℕ → List ℕ → List ℕ → List ℕ
part_frame t i j times buf = bytes_left (hands_part t i j times buf) (part_of t i j) buf
