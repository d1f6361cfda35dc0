-- Inner step: a post's head after one event more, and the event's findings, as the code takes them.
-- The first promise of an operation, by_record, is in these words; the second, by_history, is in those of looking back:
-- `frame_look` and `tick_look` make the two one.
use Rattle.std.specs.Prelude.{Option, Some, None, ℕ, suc, ◌+◌, ◌*◌, ◌/◌, ◌%◌, max, List, [], ◌∷◌, map, Bool, true, cond, not, ◌&&◌, ltb, leb, eqb, get_or, set, replicate}
use Rattle.older_types.specs.message_types.specs.declared.DcPowerParameters.{DcPowerParameters}
use Rattle.older_types.specs.message_types.specs.declared.DcPowerControl.{DcPowerControl}
use Rattle.older_types.specs.message_types.specs.declared.PowerModulesStatus.{PowerModulesStatus}
use Rattle.older_types.specs.message_types.specs.declared.NewChargeSession.{NewChargeSession}
use Rattle.message_build.specs.message_parts.specs.Parts.{session_in}
use Rattle.rule_limits.specs.declared.PlainLimits.{PlainLimits}
use Rattle.rule_limits.specs.Limits.{capped}
use Rattle.rule_limits.specs.Sensor.{sensor_of, limits_of}
use Rattle.rule_asks.specs.Judgements.{is_allowed, is_close, is_powered, is_carrying, is_off, lowers_badly, outside, bad_insulation, differs, bit}
use Rattle.rule_pages.specs.declared.Role.{Role}
use Rattle.rule_pages.specs.declared.Role.TheVariants.{Other, Status, Limits, Controller, Opening, Command, Finished, Stop}
use Rattle.rule_pages.specs.Roles.{role_of}
use Rattle.rule_pages.specs.Said.{status_by, limits_by, opening_by, command_by}
use Rattle.rule_pages.specs.Places.{place_by}
use Rattle.rules.specs.declared.Slot.{Slot}
use Rattle.rules.specs.declared.Session.{Session}
use Rattle.rules.specs.declared.Head.{Head}
use Rattle.rules.specs.declared.Post.{Post}
use Rattle.rules.specs.declared.AfterEvent.{AfterEvent}
use Rattle.rules.specs.LastTime.{LastTime}
use Rattle.rules.specs.declared.Dated.{Dated}
use Rattle.rules.specs.SessionPart.{SessionPart}
use Rattle.rules.specs.declared.Record.{Record}
use Rattle.rules.specs.History.{role_number, count_from}
use Rattle.rules.specs.Times.{received_of, wrapped, earlier, elapsed, age_of}
use Rattle.rules.specs.Counts.{largest}
use Rattle.rules.specs.Record.{place_count, is_set, dated_at, unknown, slot_at, closed_session}

-- ---- the session's part after a frame

-- the places of what a session keeps
abbrev pub status_place : ℕ
status_place = 0

abbrev pub control_place : ℕ
control_place = 1

abbrev pub stop_place : ℕ
stop_place = 2

abbrev pub kept_count : ℕ
kept_count = 3

abbrev pub kept_in : Session → ℕ → Slot
kept_in s j = get_or s.kept j unknown

abbrev pub kept_put : Session → ℕ → Slot → Session
kept_put s j n = cond (is_set s.opened) (record { opened = s.opened; since = s.since; first = s.first; kept = set s.kept j n }) s

abbrev pub opened_by : Session → Slot → Session
opened_by s n = cond (is_set s.opened) s (record { opened = 1; since = n.time; first = n.raw; kept = closed_session.kept })

abbrev pub session_by : Role → Session → Slot → Session
session_by Status s n = kept_put s status_place n
session_by Opening s n = opened_by s n
session_by Command s n = kept_put s control_place n
session_by Finished s n = closed_session
session_by Stop s n = kept_put s stop_place n
session_by Limits s n = s
session_by Controller s n = s
session_by Other s n = s

unfoldable pub session_after : Session → ℕ → Slot → Session
session_after s k n = session_by (role_of k) s n

-- ---- the head

-- where an event that is received at t stands, in 64 bits; a post that was not heard has the time 0, so that its first event stands at t
unfoldable pub stamp_in : Head → ℕ → ℕ
stamp_in p t = (p.time + wrapped t p.time) % 18446744073709551616

unfoldable pub aged_to : Head → ℕ → Head
aged_to p t =
    record {
      used = p.used;
      channel = p.channel;
      limits = p.limits;
      heard = 1;
      counts = p.counts;
      time = t;
      controller = p.controller;
      parameters = p.parameters;
      session = p.session;
    }

-- what the head keeps the latest of that answers the question r
abbrev pub put_for : Role → ℕ → Slot → Slot → Slot
put_for r k n l = cond (eqb (role_number r) (role_number (role_of k))) n l

unfoldable pub with_frame : Head → ℕ → Slot → Head
with_frame p k n =
    record {
      used = p.used;
      channel = p.channel;
      limits = p.limits;
      heard = p.heard;
      counts = p.counts;
      time = p.time;
      controller = put_for Controller k n p.controller;
      parameters = put_for Limits k n p.parameters;
      session = session_after p.session k n;
    }

abbrev pub is_early : Head → ℕ → Bool
is_early p t = is_set p.heard && earlier t p.time

-- ---- findings of a head that was aged to the event's time

abbrev pub later_of : ℕ → Slot → ℕ
later_of since st = cond (is_set st.known) (max since st.time) since

unfoldable pub silent_in : Session → ℕ → ℕ → Bool
silent_in s w now = is_set s.opened && ltb w (elapsed now (later_of s.since (kept_in s status_place)))

unfoldable pub late_after : Slot → ℕ → Bool
late_after l now = is_set l.known && ltb 200 (elapsed now l.time)

unfoldable pub any_findings : Head → ℕ
any_findings p = bit (silent_in p.session p.limits.silence p.time) 1 + bit (late_after p.controller p.time) 2

abbrev pub limit_in : ℕ → (DcPowerParameters → ℕ) → Slot → ℕ
limit_in most number l = cond (is_set l.known) (capped most (number (limits_by l.kind l.raw))) most

abbrev pub unready_after : Slot → Bool
unready_after st = cond (is_set st.known) (not (is_allowed (status_by st.kind st.raw).enable)) true

unfoldable pub unready_in : Session → Bool
unready_in s = is_set s.opened && unready_after (kept_in s status_place)

abbrev pub carrying_after : Slot → Bool
carrying_after l = is_set l.known && is_carrying (command_by l.kind l.raw).function

unfoldable pub carrying_in : Session → Bool
carrying_in s = is_set s.opened && carrying_after (kept_in s control_place)

unfoldable pub stopped_in : Session → Bool
stopped_in s = is_set s.opened && is_set (kept_in s stop_place).known

unfoldable pub control_findings : Head → DcPowerControl → ℕ
control_findings p d =
    bit (is_close d.contactors && not (is_set p.session.opened)) 4
    + bit (is_powered d.function && not (is_set p.session.opened)) 8
    + bit (is_powered d.function && unready_in p.session) 16
    + bit (lowers_badly d) 32
    + bit (not (is_off d.function) && ltb (limit_in p.limits.voltage (λ q. q.voltage) p.parameters) d.target) 64
    + bit (is_powered d.function && stopped_in p.session) 2048

unfoldable pub status_findings : Head → PowerModulesStatus → ℕ
status_findings p s =
    bit (is_set p.session.opened && outside s.current (limit_in p.limits.charge (λ q. q.charge) p.parameters) (limit_in p.limits.discharge (λ q. q.discharge) p.parameters)) 128
    + bit (carrying_in p.session && bad_insulation (sensor_of p.limits.sensor) s) 256

unfoldable pub opening_findings : Session → NewChargeSession → ℕ
opening_findings s n = bit (is_set s.opened && differs (session_in s.first) n) 512

unfoldable pub finished_findings : Session → ℕ
finished_findings s = bit (not (is_set s.opened)) 1024

abbrev pub findings_by : Role → Head → ℕ → ℕ → ℕ
findings_by Status p k raw = status_findings p (status_by k raw)
findings_by Opening p k raw = opening_findings p.session (opening_by k raw)
findings_by Command p k raw = control_findings p (command_by k raw)
findings_by Finished p k raw = finished_findings p.session
findings_by Limits p k raw = 0
findings_by Controller p k raw = 0
findings_by Stop p k raw = 0
findings_by Other p k raw = 0

unfoldable pub message_findings : Head → ℕ → ℕ → ℕ
message_findings p k raw = findings_by (role_of k) p k raw

-- ---- the counts

-- one more in 32 bits for each that has its bit of n
abbrev pub with_bits : ℕ → List ℕ → List ℕ
with_bits n [] = []
with_bits n (x ∷ l) = cond (eqb (n % 2) 1) ((x + 1) % 4294967296) x ∷ with_bits (n / 2) l

-- an event with the findings n counts once, and once for each finding
unfoldable pub counted : ℕ → List ℕ → List ℕ
counted n cs = with_bits (1 + 2 * n) cs

abbrev pub accepted_by : Head → ℕ
accepted_by p = get_or p.counts 0 0

abbrev pub is_full_in : Head → Bool
is_full_in p = leb largest (accepted_by p)

abbrev pub tally_in : Head → ℕ → ℕ
tally_in p k = get_or p.counts (suc k) 0

unfoldable pub with_counts : Head → ℕ → Head
with_counts p n =
    record {
      used = p.used;
      channel = p.channel;
      limits = p.limits;
      heard = p.heard;
      counts = counted n p.counts;
      time = p.time;
      controller = p.controller;
      parameters = p.parameters;
      session = p.session;
    }

-- ---- the steps

unfoldable pub after_tick : Head → ℕ → AfterEvent
after_tick p t =
    record {
      head = with_counts (aged_to p (stamp_in p t)) (any_findings (aged_to p (stamp_in p t)));
      slot = unknown;
      at = place_count;
      findings = any_findings (aged_to p (stamp_in p t));
    }

-- the findings of a frame, of a head that was aged to its time
abbrev pub frame_findings : Head → ℕ → ℕ → ℕ
frame_findings p k raw = any_findings p + message_findings p k raw

unfoldable pub after_frame : Head → ℕ → ℕ → ℕ → AfterEvent
after_frame p t k raw =
    record {
      head = with_counts (with_frame (aged_to p (stamp_in p t)) k (slot_at (stamp_in p t) k raw)) (frame_findings (aged_to p (stamp_in p t)) k raw);
      slot = slot_at (stamp_in p t) k raw;
      at = place_by k;
      findings = frame_findings (aged_to p (stamp_in p t)) k raw;
    }

-- ---- the post with a head, and with a frame in a place; a number that is no place leaves the latest frames as they were

abbrev pub keep_in : List Slot → ℕ → Slot → List Slot
keep_in l j n = cond (ltb j place_count) (set l j n) l

abbrev pub stored : Post → Head → ℕ → Slot → Post
stored p d j n = record { head = d; latest = keep_in p.latest j n }

-- ---- posts that nothing was heard of

abbrev pub no_limits : PlainLimits
no_limits = record { voltage = 0; charge = 0; discharge = 0; silence = 0; sensor = 0; interface = 0 }

-- place 0 and a place for each finding
abbrev pub finding_count : ℕ
finding_count = 12

abbrev pub count_count : ℕ
count_count = 13

abbrev pub new_head : ℕ → ℕ → PlainLimits → Head
new_head used c lim =
    record {
      used = used;
      channel = c;
      limits = lim;
      heard = 0;
      counts = replicate count_count 0;
      time = 0;
      controller = unknown;
      parameters = unknown;
      session = closed_session;
    }

abbrev pub new_post : ℕ → ℕ → PlainLimits → Post
new_post used c lim = record { head = new_head used c lim; latest = replicate place_count unknown }

-- a post that is not set up
abbrev pub free_post : Post
free_post = new_post 0 0 no_limits

abbrev pub fresh_post : ℕ → PlainLimits → Post
fresh_post c lim = new_post 1 c lim

-- ---- the record that a post hands out

abbrev pub latest_in : Post → ℕ → Slot
latest_in p j = get_or p.latest j unknown

abbrev pub dated_in : ℕ → Slot → Option Dated
dated_in now l = cond (is_set l.known) (Some (dated_at (received_of l.time) (age_of now l.time) l.kind l.raw)) None

abbrev pub part_in : ℕ → Session → SessionPart
part_in now s =
    cond (is_set s.opened)
    (Some
    (record {
      since = received_of s.since;
      age = age_of now s.since;
      protocol = (session_in s.first).protocol;
      plug = (session_in s.first).plug;
    }))
    None

-- 01: "With no session open all of the session's part is none."
abbrev pub open_kept : Session → ℕ → Slot
open_kept s j = cond (is_set s.opened) (kept_in s j) unknown

abbrev pub kept_latest : ℕ → Session → List (Option Dated)
kept_latest now s = map (λ j. dated_in now (open_kept s j)) (count_from 0 kept_count)

abbrev pub last_in : Head → LastTime
last_in p = cond (is_set p.heard) (Some (received_of p.time)) None

unfoldable pub post_record : Post → Record
post_record p =
    record {
      channel = p.head.channel;
      limits = limits_of p.head.limits;
      last = last_in p.head;
      latest = map (λ j. dated_in p.head.time (latest_in p j)) (count_from 0 place_count);
      session = part_in p.head.time p.head.session;
      kept = kept_latest p.head.time p.head.session;
      accepted = accepted_by p.head;
      tallies = map (tally_in p.head) (count_from 0 finding_count);
    }
