-- A post's record, read by looking back: 01, "A post's record is: its channel and limits, its latest accepted time,
-- the latest accepted message of each kind with its time,
-- whether a session is open, since when and with which first protocol and plug, and the latest Power_Modules_Status and DC_Power_Control accepted in that
-- session, each possibly none.
-- With no session open all of the session's part is none." 02, Req 08: and the counts of what was accepted and found; Req 14: "the record's session part
-- keeps the stop".
-- 02, Req 09: "the record keeps times as received and ages beside them".
use Rattle.std.specs.Prelude as std
use Rattle.std.specs.Prelude.{ℕ, List, [], ◌∷◌, map, Bool, true, false, cond, eqb, length, Some, None}
use Rattle.std.proofs.Math.Option.{Option, none, some}
use Rattle.page_table.specs.declared.Interface.TheVariants.{Newer}
use Rattle.page_table.specs.Interfaces.{is_on}
use Rattle.message_build.specs.Built.{message_of}
use Rattle.older_build.specs.Built as older
pub use Rattle.rule_pages.specs.Places.{place_count}
use Rattle.rule_pages.specs.Places.{place_by}
use Rattle.rule_pages.specs.Said.{opening_by}
use Rattle.rule_limits.specs.declared.PlainLimits.{PlainLimits}
use Rattle.rule_limits.specs.Sensor.{limits_of}
pub use Rattle.rule_asks.specs.Judgements.{is_set}
use Rattle.rule_asks.specs.Judgements.{bit}
use Rattle.rules.specs.declared.Slot.{Slot}
use Rattle.rules.specs.declared.Session.{Session}
use Rattle.rules.specs.declared.Head.{Head}
use Rattle.rules.specs.declared.Post.{Post}
use Rattle.rules.specs.LastTime.{LastTime}
use Rattle.rules.specs.declared.Dated.{Dated}
use Rattle.rules.specs.declared.Dated.TheVariants as dated
use Rattle.rules.specs.SessionPart.{SessionPart}
use Rattle.rules.specs.declared.Record.{Record}
use Rattle.rules.specs.History.{Event, frame, tick, History, Said, said_at, time_of, newest, status_of, command_of, limits_told, controller_of, stop_of, opening, in_session, count_from}
use Rattle.rules.specs.Times.{received_of, latest_time, age_of}
use Rattle.rules.specs.Rules.{session_status, session_control, session_stop}
use Rattle.rules.specs.Counts.{tallies_of, counts_of}

-- ---- as it is handed out, at the time `now` of the post's latest event

-- a frame by its message: of documents 000 and 004, or of 001
unfoldable pub dated_at : ℕ → ℕ → ℕ → ℕ → Dated
dated_at time age k raw = cond (is_on Newer k) (dated.At time age (message_of k raw)) (dated.OlderAt time age (older.message_of k raw))

abbrev pub dated_of : ℕ → Option Said → std.Option Dated
dated_of now none = std.None
dated_of now (some m) = std.Some (dated_at (received_of m.time) (age_of now m.time) m.kind m.raw)

-- a frame of a kind that has the place j: on a post, whose frames are of one interface, the kind itself (`own_latest`, watch_rules)
abbrev pub at_place : ℕ → Event → Option Said
at_place j (frame t k raw) = cond (eqb (place_by k) j) (some (said_at t k raw)) none
at_place j (tick t) = none

abbrev pub last_of : History → LastTime
last_of [] = None
last_of (e ∷ h) = Some (received_of (time_of e))

-- the session that is open, by what opened it
abbrev pub part_of : ℕ → Option Said → SessionPart
part_of now none = None
part_of now (some o) =
    Some
    (record {
      since = received_of o.time;
      age = age_of now o.time;
      protocol = (opening_by o.kind o.raw).protocol;
      plug = (opening_by o.kind o.raw).plug;
    })

-- the latest status, control and stop accepted in it, and none of them with no session open
abbrev pub kept_shown : ℕ → Option Said → List (Option Said) → List (std.Option Dated)
kept_shown now none ks = map (λ (o : Option Said). dated_of now none) ks
kept_shown now (some o) ks = map (dated_of now) ks

unfoldable pub record_as_of : ℕ → PlainLimits → ℕ → History → Record
record_as_of c lim now h =
    record {
      channel = c;
      limits = limits_of lim;
      last = last_of h;
      latest = map (λ j. dated_of now (newest (at_place j) h)) (count_from 0 place_count);
      session = part_of now (opening h);
      kept = kept_shown now (opening h) (session_status h ∷ session_control h ∷ session_stop h ∷ []);
      accepted = length h;
      tallies = tallies_of lim h;
    }

abbrev pub record_of : ℕ → PlainLimits → History → Record
record_of c lim h = record_as_of c lim (latest_time h) h

-- ---- as the table keeps it: frames by time, kind and payload number, flags as words

abbrev pub unknown : Slot
unknown = record { known = 0; kind = 0; time = 0; raw = 0 }

abbrev pub slot_at : ℕ → ℕ → ℕ → Slot
slot_at t k raw = record { known = 1; kind = k; time = t; raw = raw }

abbrev pub slot_of : Option Said → Slot
slot_of none = unknown
slot_of (some m) = slot_at m.time m.kind m.raw

-- what a session keeps the latest of
abbrev pub kept01 : List (Event → Option Said)
kept01 = status_of ∷ command_of ∷ stop_of ∷ []

abbrev pub kept_of : History → List (Option Said)
kept_of h = map (λ (asked : Event → Option Said). newest asked h) kept01

abbrev pub closed_session : Session
closed_session = record { opened = 0; since = 0; first = 0; kept = map (λ (asked : Event → Option Said). unknown) kept01 }

abbrev pub session_of : Option Said → List (Option Said) → Session
session_of none ks = closed_session
session_of (some o) ks = record { opened = 1; since = o.time; first = o.raw; kept = map slot_of ks }

unfoldable pub session01 : History → Session
session01 h = session_of (opening h) (kept_of (in_session h))

abbrev pub heard_in : History → Bool
heard_in [] = false
heard_in (e ∷ h) = true

-- with the counts cs, as of the time `now`
unfoldable pub head_at : ℕ → PlainLimits → List ℕ → Bool → ℕ → History → Head
head_at c lim cs heard now h =
    record {
      used = 1;
      channel = c;
      limits = lim;
      heard = bit heard 1;
      counts = cs;
      time = now;
      controller = slot_of (newest controller_of h);
      parameters = slot_of (newest limits_told h);
      session = session01 h;
    }

abbrev pub head_of : ℕ → PlainLimits → History → Head
head_of c lim h = head_at c lim (counts_of lim h) (heard_in h) (latest_time h) h

unfoldable pub latests : History → List Slot
latests h = map (λ j. slot_of (newest (at_place j) h)) (count_from 0 place_count)

abbrev pub post_of : ℕ → PlainLimits → History → Post
post_of c lim h = record { head = head_of c lim h; latest = latests h }
