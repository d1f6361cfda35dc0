-- 02, Req 09: a post that is ticked every hour for a hundred days is never refused, and F1 and F2 are right across two rounds.
-- Post 0 of the night, charging on channel 4, hears nothing but 2,400 ticks after the controller's status at 4,294,967,290.
use Rattle.std.specs.Prelude.{Some, Ok}
use Rattle.std.specs.Prelude as std
use Prim.Native.Nat.{ℕ, ◌+◌, ◌-◌, ◌*◌, ◌<◌, ◌≤◌, min}
use native.Mathlib.Omega.{arith}
use mathlib.Core.Path.{◌≡◌, refl, ap, subst, ◌∙◌}
use mathlib.Core.List.{List, [], ◌∷◌}
use lib.ListN.{get_or}
use Rattle.message_parts.specs.Parts.{controller_kind, session_kind, session_in}
use Rattle.message_build.specs.Built.{message_of}
use Rattle.rule_pages.specs.Roles.{role_of}
use Rattle.rule_pages.specs.Said.{opening_by}
use Rattle.rule_pages.specs.Places.{place_by}
use Rattle.rule_asks.specs.Judgements.{bit}
use Rattle.rules.specs.declared.Dated.TheVariants as dated
use Rattle.rules.specs.declared.Dated.{Dated}
use Rattle.rules.specs.History.{Event, frame, History, said_at, newest, controller_of, since_finished, opening}
use Rattle.rules.specs.Times.{elapsed, Unrolled}
use Rattle.rules.specs.Record.{dated_at}
use Rattle.rules.specs.Rules.{is_open}
use Rattle.watch_rules.specs.declared.LookedUp.{LookedUp}
use Rattle.watch_rules.specs.Table.{look_up_of}
use Rattle.watch_rules.specs.Steps.{InTime}
use Rattle.watch_rules.specs.Run.{Request, fed, reply, run}
use Rattle.watch_rules.proofs.Demand.{run_kept}
use Rattle.watch_clock.specs.Regular.{tick_time, tick_after, ticked_on}
use Rattle.watch_clock.proofs.Regular.{no_latest, age_ticked, session_ticked}
use Rattle.watch_clock.proofs.RegularRun.{reply_ticked, record_ticked}
use Rattle.watch_clock.proofs.Night.{limits, charging, before, first, own_charging}

abbrev hour : ℕ
hour = 3600000

-- the controller's status, and what came before it
abbrev status : Event
status = frame 4294967290 controller_kind 7

abbrev opened : History
opened = frame 4294967000 session_kind 258 ∷ []

unrolled : Unrolled (status ∷ opened)
unrolled = subst InTime own_charging ((run_kept charging).times 0 first)

both_found : bit (is_open (opening before)) 1 + bit (is_open (newest controller_of before)) 2 ≡ 3
unfolding opening since_finished role_of
both_found = refl

-- after n ticks, the next one
abbrev pub hours : ℕ → List Request
hours n = ticked_on 4 hour 4294967290 n charging

-- every tick is accepted, and has F1 and F2
pub hundred_days : (n : ℕ) → n < 2400 → reply (run (hours n)) (tick_after 4 hour 4294967290 n) ≡ fed (Ok 3)
hundred_days n low =
    reply_ticked hour (omega arith) status opened charging 0 4 limits first own_charging (omega arith) (omega arith) n (omega (arith, low))
    ∙ ap (λ (x : ℕ). fed (Ok x)) both_found

-- the last of them stands two rounds and more after the controller's status; 50,065,402 was received
pub two_rounds : (tick_time hour 4294967290 2400 ≡ 3 * 4294967296 + 50065402) × (elapsed (tick_time hour 4294967290 2400) 4294967290 ≡ 2 * 4294967296 + 50065408)
two_rounds = (refl, refl)

abbrev controller_shown : ℕ → std.Option Dated
controller_shown n = get_or (look_up_of (run (hours n)) 0).shown.latest controller_kind no_latest

-- the look-up shows the controller's status as it was received, and its age in hours until that stops growing
pub age_hourly : (n : ℕ) → n ≤ 2400 → controller_shown n ≡ std.Some (dated.At 4294967290 (min (n * 3600000) 4294967295) (message_of controller_kind 7))
unfolding dated_at place_by
age_hourly n low =
    ap (λ (l : LookedUp). get_or l.shown.latest controller_kind no_latest)
    (record_ticked hour (omega arith) status opened charging 0 4 limits first own_charging (omega arith) (omega arith) n (omega (arith, low)))
    ∙ age_ticked hour (omega arith) status opened unrolled 4 limits controller_kind (omega arith) (said_at 4294967290 controller_kind 7) refl n
    ∙ ap (λ (x : ℕ). std.Some (dated.At 4294967290 (min x 4294967295) (message_of controller_kind 7))) (off (n * 3600000))
  where
    off : (x : ℕ) → 4294967290 + x - 4294967290 ≡ x
    off x = omega arith

-- 49 days after the status its age still grows; after a hundred it stands at the largest
pub age_grows : controller_shown 1193 ≡ std.Some (dated.At 4294967290 4294800000 (message_of controller_kind 7))
age_grows = age_hourly 1193 (omega arith)

pub age_stops : controller_shown 2400 ≡ std.Some (dated.At 4294967290 4294967295 (message_of controller_kind 7))
age_stops = age_hourly 2400 (omega arith)

-- and so does the session's, which opened 290 ms before it
pub session_stops : (look_up_of (run (hours 2400)) 0).shown.session
    ≡ Some (record { since = 4294967000; age = 4294967295; protocol = (session_in 258).protocol; plug = (session_in 258).plug })
unfolding opening since_finished role_of opening_by
session_stops =
    ap (λ (l : LookedUp). l.shown.session)
    (record_ticked hour (omega arith) status opened charging 0 4 limits first own_charging (omega arith) (omega arith) 2400 (omega arith))
    ∙ (session_ticked hour (omega arith) status opened unrolled 4 limits 2400).0
