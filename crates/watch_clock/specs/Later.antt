-- The same event at another time, histories whose times never fall, and a record but for its times as received.
use Rattle.std.specs.Prelude as std
use Rattle.std.specs.Prelude.{ℕ, ◌+◌, ◌≤◌, ◌≡◌, List, [], ◌∷◌, map, Some, None}
use Rattle.std.proofs.Math.Option.{Option, none, some}
use Rattle.rule_limits.specs.declared.PlainLimits.{PlainLimits}
use Rattle.rules.specs.LastTime.{LastTime}
use Rattle.rules.specs.declared.Dated.{Dated}
use Rattle.rules.specs.declared.Dated.TheVariants as dated
use Rattle.rules.specs.declared.OpenSession.{OpenSession}
use Rattle.rules.specs.SessionPart.{SessionPart}
use Rattle.rules.specs.declared.Record.{Record}
use Rattle.rules.specs.History.{Event, frame, tick, History, Said, said_at, time_of}
use Rattle.rules.specs.Times.{latest_time}
use Rattle.rules.specs.Rules.{Rule}

-- ---- an event at another time

abbrev pub retime : (ℕ → ℕ) → Event → Event
retime f (frame t k raw) = frame (f t) k raw
retime f (tick t) = tick (f t)

-- the same event d ms later
abbrev pub delay : ℕ → Event → Event
delay d e = retime (λ t. t + d) e

abbrev pub delayed : ℕ → History → History
delayed d h = map (delay d) h

-- an answer to a question of the history, at another time
abbrev pub at_time : (ℕ → ℕ) → Option Said → Option Said
at_time f none = none
at_time f (some m) = some (said_at (f m.time) m.kind m.raw)

abbrev pub later : ℕ → Option Said → Option Said
later d o = at_time (λ t. t + d) o

-- a question that hands the event's time on and does not look at it
abbrev pub Timely : (Event → Option Said) → Type 0
Timely asked = (f : ℕ → ℕ) (e : Event) → asked (retime f e) ≡ at_time f (asked e)

-- a rule that finds the same where history and event are d ms later
abbrev pub Steady : Rule → Type 0
Steady f = (d : ℕ) (lim : PlainLimits) (h : History) (e : Event) → f lim (delayed d h) (delay d e) ≡ f lim h e

abbrev pub AllSteady : List Rule → Type 0
AllSteady [] = Unit {0}
AllSteady (f ∷ rs) = Steady f × AllSteady rs

-- ---- times in order

-- no event is earlier than one before it
abbrev pub Rising : History → Type 0
Rising [] = Unit {0}
Rising (e ∷ h) = (latest_time h ≤ time_of e) × Rising h

-- no event of h is later than `now`
abbrev pub NoneAfter : ℕ → History → Type 0
NoneAfter now [] = Unit {0}
NoneAfter now (e ∷ h) = (time_of e ≤ now) × NoneAfter now h

-- nor what was found by looking back
abbrev pub FoundBy : ℕ → Option Said → Type 0
FoundBy now none = Unit {0}
FoundBy now (some m) = m.time ≤ now

-- ---- a record but for its times as received: 0 stands for each, and the ages stay

abbrev pub still_last : LastTime → LastTime
still_last None = None
still_last (Some t) = Some 0

abbrev pub still_dated : Dated → Dated
still_dated (dated.At t age m) = dated.At 0 age m
still_dated (dated.OlderAt t age m) = dated.OlderAt 0 age m

abbrev pub still_latest : std.Option Dated → std.Option Dated
still_latest std.None = std.None
still_latest (std.Some d) = std.Some (still_dated d)

abbrev pub still_open : OpenSession → OpenSession
still_open s = record { since = 0; age = s.age; protocol = s.protocol; plug = s.plug }

abbrev pub still_part : SessionPart → SessionPart
still_part None = None
still_part (Some s) = Some (still_open s)

unfoldable pub still : Record → Record
still r =
    record {
      channel = r.channel;
      limits = r.limits;
      last = still_last r.last;
      latest = map still_latest r.latest;
      session = still_part r.session;
      kept = map still_latest r.kept;
      accepted = r.accepted;
      tallies = r.tallies;
    }

-- ---- what is left out: its times as received

abbrev pub last_time_in : LastTime → ℕ
last_time_in None = 0
last_time_in (Some t) = t

abbrev pub dated_time : Dated → ℕ
dated_time (dated.At t age m) = t
dated_time (dated.OlderAt t age m) = t

abbrev pub latest_shown_time : std.Option Dated → ℕ
latest_shown_time std.None = 0
latest_shown_time (std.Some d) = dated_time d

abbrev pub since_in : SessionPart → ℕ
since_in None = 0
since_in (Some s) = s.since

abbrev pub times_in : Record → ℕ × List ℕ × ℕ × List ℕ
times_in r =
    (last_time_in r.last, map latest_shown_time r.latest, since_in r.session, map latest_shown_time r.kept)
