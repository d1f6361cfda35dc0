-- The latest frame of a kind over the C interface: its time as received, its age and its kind, and its bytes as they came, in the message's byte order.
-- Refused as `watch::look_up` refuses, with 9 and 14.
use Rattle.std.specs.Prelude.{ℕ, Bool, false, cond, ◌&&◌, List, ◌∷◌, ◌++◌, eqb, ltb, leb, length, drop, Ok, Err}
use Rattle.payload.specs.Payload.{bytes_of}
use Rattle.refusals.specs.declared.Refusal.TheVariants.{UnknownIdentifier, ShortBuffer}
use Rattle.page_table.specs.Messages.{message_count}
use Rattle.page_table.specs.Table.{length_of, big_of}
use Rattle.rule_pages.specs.Places.{place_by}
use Rattle.rules.specs.declared.Slot.{Slot}
use Rattle.rules.specs.Times.{received_of, age_of}
use Rattle.rules.specs.Record.{is_set, unknown}
use Rattle.rules.specs.After.{latest_in}
use Rattle.watch_rules.specs.declared.Table.{Table}
use Rattle.watch_rules.specs.Setting.{Setting}
use Rattle.watch_rules.specs.Table.{post_in, look_up_of}
use Rattle.plain_words.specs.Words.{Outcome, answers, refuses, outcome_word}

-- a slot, where what stands in it is of the kind k: a post of the other interface keeps a kind of its own there
abbrev pub of_kind_in : ℕ → Slot → Slot
of_kind_in k l = cond (eqb l.kind k) l unknown

-- what the post i keeps of the kind k
abbrev pub kept_of : Table → ℕ → ℕ → Slot
kept_of t i k = of_kind_in k (latest_in (post_in t i) (place_by k))

-- the time of the post's latest event, as of which ages are
abbrev pub now_of : Table → ℕ → ℕ
now_of t i = (post_in t i).head.time

-- a frame stands in the slot; in a table of the caller's own making the kind may be any number
abbrev pub is_shown : Slot → Bool
is_shown l = is_set l.known && ltb l.kind message_count

-- places for the time, the age and the kind, and for the bytes
abbrev pub has_room : ℕ → ℕ → ℕ → Bool
has_room k places room = leb 3 places && leb (length_of k) room

-- 0 where no frame was accepted, whatever is lent; else 8, or the number of bytes
abbrev pub kept_outcome : Slot → ℕ → ℕ → Outcome
kept_outcome l places room = cond (is_shown l) (cond (has_room l.kind places room) (answers (length_of l.kind)) (refuses ShortBuffer)) (answers 0)

-- 3 before them, where nothing of the kind is ever kept
abbrev pub latest_outcome : Setting → Bool → Slot → ℕ → ℕ → Outcome
latest_outcome (Ok tt) known l places room = cond known (kept_outcome l places room) (refuses UnknownIdentifier)
latest_outcome (Err w) known l places room = refuses w

-- whether a frame is handed out
abbrev pub hands : Setting → Bool → Slot → ℕ → ℕ → Bool
hands (Ok tt) known l places room = known && (is_shown l && has_room l.kind places room)
hands (Err w) known l places room = false

abbrev pub time_left : Bool → ℕ → Slot → List ℕ → List ℕ
time_left b now l times = cond b (received_of l.time ∷ age_of now l.time ∷ l.kind ∷ drop 3 times) times

abbrev pub bytes_left : Bool → Slot → List ℕ → List ℕ
bytes_left b l buf = cond b (bytes_of (big_of l.kind) (length_of l.kind) l.raw ++ drop (length_of l.kind) buf) buf

-- a kind of either interface's pages
abbrev pub is_kind : ℕ → Bool
is_kind k = ltb k message_count

abbrev pub hands_out : Table → ℕ → ℕ → List ℕ → List ℕ → Bool
hands_out t i k times buf = hands (look_up_of t i).answer (is_kind k) (kept_of t i k) (length times) (length buf)

unfoldable pub latest_word : Table → ℕ → ℕ → List ℕ → List ℕ → ℕ
latest_word t i k times buf = outcome_word (latest_outcome (look_up_of t i).answer (is_kind k) (kept_of t i k) (length times) (length buf))

unfoldable pub time_after : Table → ℕ → ℕ → List ℕ → List ℕ → List ℕ
time_after t i k times buf = time_left (hands_out t i k times buf) (now_of t i) (kept_of t i k) times

unfoldable pub frame_after : Table → ℕ → ℕ → List ℕ → List ℕ → List ℕ
frame_after t i k times buf = bytes_left (hands_out t i k times buf) (kept_of t i k) buf
