-- The laws of the clock on a night that crosses the round: each premise holds there, and each says something.
-- Post 0 is charging on channel 4: its session opened at 4,294,967,000, the controller's status came at 4,294,967,290, and a tick at 195, 201 ms later.
-- Post 1 stands idle on channel 9 and has a clock of its own.
use Rattle.std.specs.Prelude.{Ok}
use Prim.Native.Nat.{ℕ, ◌+◌, ◌<◌}
use native.Mathlib.Omega.{arith}
use borrow.Author.Tests.{ltb-true}
use lib.Dec.{eqb}
use mathlib.Core.Path.{◌≡◌, refl, subst, ◌∙◌}
use mathlib.Core.Bool.{true, false, cond}
use mathlib.Core.List.{List, [], ◌∷◌}
use Rattle.page_table.specs.Table.{rows, of_kind, first_at, covered}
use Rattle.page_read.specs.Judge.{unlabelled, stray_below, judged_number, judge_on}
use Rattle.page_interfaces.specs.Foreign.{is_foreign, judge_for}
use Rattle.rule_pages.specs.Roles.{role_of}
use Rattle.rule_pages.specs.Said.{status_by, opening_by, limits_by, command_by}
use Rattle.page_write.specs.Raws.{wholes_of, pad, raws_of}
use Rattle.signal.specs.Signal.{get_bits}
use Rattle.payload.specs.Payload.{le_number}
use Rattle.signal.specs.Twos.{to_signed}
use Rattle.message_parts.specs.Parts.{status_in, parameters_in, session_in, control_in, controller_kind, session_kind}
use Rattle.rule_limits.specs.declared.PlainLimits.{PlainLimits}
use Rattle.rule_limits.specs.Limits.{limits_fit}
use Rattle.rule_asks.specs.Judgements.{lowers_badly, outside, leaking, bad_insulation, differs}
use Rattle.rules.specs.History as history
use Rattle.rules.specs.History.{Event, History, since_finished, opening, in_session}
use Rattle.rules.specs.Times.{received_of, earlier_in, stamp_of, latest_time, Unrolled}
use Rattle.rules.specs.Rules.{session_status, session_control, session_stop, limit_of, f1, f2, f3, f4, f5, f6, f7, f8, f9, f10, f11, f12, findings01}
use Rattle.rules.specs.Record.{record_of}
use Rattle.watch_rules.specs.Table.{post_count, empty_table, look_up_of}
use Rattle.watch_rules.specs.Steps.{held, standing, find_from, holder, other_holds, feed01, set_up01, release01, look_up01, feed_steps, set_up_steps, release_steps, InTime}
use Rattle.watch_rules.specs.Run.{Request, setUp, frame, tick, fed, reply, run, accepted, replies_from}
use Rattle.watch_rules.proofs.Demand.{run_kept, own_tick}
use Rattle.watch_clock.specs.Later.{delayed, Rising, FoundBy, still}
use Rattle.watch_clock.specs.Differences.{received, differences, total, first_of, InStep}
use Rattle.watch_clock.specs.Moved.{moved, moved_requests, still_shown}
use Rattle.watch_clock.proofs.Rising.{rising, none_after, opening_by_lem}
use Rattle.watch_clock.proofs.Delayed.{findings_delayed, record_delayed}
use Rattle.watch_clock.proofs.AllButTimes.{still_only}
use Rattle.watch_clock.proofs.Differences.{time_sum, time_received, findings_by_differences, record_by_differences, same_by_first}
use Rattle.watch_clock.proofs.Moved.{earlier_moved, unrolled_moved, findings_moved, record_moved}
use Rattle.watch_clock.proofs.MovedRun.{reply_moved, look_up_moved, refused_moved, replies_moved}

abbrev pub limits : PlainLimits
limits = record { voltage = 5000; charge = 1000; discharge = 500; silence = 500; sensor = 0; interface = 0 }

-- newest first
abbrev pub charging : List Request
charging =
    frame 4 4294967290 0x6b000 true (7 ∷ []) ∷ tick 9 700 ∷ frame 4 4294967000 0x6b001 true (2 ∷ 1 ∷ []) ∷ setUp 1 9 limits ∷ setUp 0 4 limits ∷ []

abbrev night : List Request
night = tick 4 195 ∷ charging

-- post 0's history before the tick, and with it
abbrev pub before : History
before = history.frame 4294967290 controller_kind 7 ∷ history.frame 4294967000 session_kind 258 ∷ []

abbrev late : Event
late = history.tick 4294967491

abbrev heard : History
heard = late ∷ before

-- the same events after the same differences, from a clock that stood at 0
abbrev before_from0 : History
before_from0 = history.frame 290 controller_kind 7 ∷ history.frame 0 session_kind 258 ∷ []

abbrev from0 : History
from0 = history.tick 491 ∷ before_from0

-- ---- by computing

computed : (standing 0 (accepted night) ≡ held 4 limits heard) × (standing 0 (accepted charging) ≡ held 4 limits before) × (findings01 limits before_from0 (history.tick 491) ≡ 2)
    × (earlier_in before 195 ≡ false) × (earlier_in before 4294967289 ≡ true)
    × (earlier_in heard 206 ≡ false) × (findings01 limits heard (history.tick 4294967502) ≡ 3)
unfolding standing find_from holder other_holds feed01 set_up01 release01 look_up01 feed_steps set_up_steps release_steps limits_fit accepted since_finished opening in_session earlier_in lowers_badly outside leaking bad_insulation differs session_status session_control session_stop limit_of f1 f2 f3 f4 f5 f6 f7 f8 f9 f10 f11 f12 findings01 rows of_kind first_at covered unlabelled stray_below judged_number judge_on is_foreign judge_for role_of status_by opening_by limits_by command_by wholes_of pad raws_of get_bits le_number to_signed status_in parameters_in session_in control_in
computed = (refl, refl, refl, refl, refl, refl, refl)

pub first : 0 < post_count
first = ltb-true 0 post_count refl

unrolled : Unrolled heard
unrolled = subst InTime computed.0 ((run_kept night).times 0 first)

pub own_charging : standing 0 (accepted charging) ≡ held 4 limits before
own_charging = computed.1

unrolled_from0 : Unrolled from0
unfolding earlier_in
unrolled_from0 = (refl, refl, (refl, refl, (refl, refl, tt)))

-- ---- the unrolled times

-- 4,294,967,491 is the first time, 4,294,967,000, and 201 ms and 290 ms
pub sum_night : (latest_time heard ≡ first_of (received heard) + total (differences (received heard))) × (differences (received heard) ≡ 201 ∷ 290 ∷ []) × (first_of (received heard) ≡ 4294967000)
sum_night = (time_sum heard unrolled, refl, refl)

-- the tick is kept at 4,294,967,491, of which 195 was received
pub received_night : (received_of (stamp_of before 195) ≡ 195) × (stamp_of before 195 ≡ 4294967491)
received_night = (time_received before 195 (omega arith), refl)

pub rising_night : Rising heard
rising_night = rising heard unrolled

-- the session's opening, as F1 looks back to it, is no later than the tick
pub opening_night : FoundBy 4294967491 (opening heard)
opening_night = opening_by_lem 4294967491 heard (none_after 4294967491 heard rising_night (omega arith))

-- ---- the same a second later

pub findings_second : findings01 limits (delayed 1000 before) (history.tick 4294968491) ≡ findings01 limits before late
findings_second = findings_delayed 1000 limits before late

pub record_second : still (record_of 4 limits (delayed 1000 heard)) ≡ still (record_of 4 limits heard)
record_second = record_delayed 1000 4 limits heard

-- ---- the differences alone

in_step : InStep heard from0
in_step = (refl, refl)

-- F2, 201 ms after the controller's status, across the round as from 0
pub findings_night : findings01 limits before late ≡ 2
findings_night = findings_by_differences limits before before_from0 late (history.tick 491) unrolled unrolled_from0 in_step ∙ computed.2

pub record_night : still (record_of 4 limits heard) ≡ still (record_of 4 limits from0)
record_night = record_by_differences 4 limits heard from0 unrolled unrolled_from0 in_step

-- whatever starts at 4,294,967,000 in step with the events from 0 is this history
pub first_night : (h : History) → Unrolled h → InStep h from0 → first_of (received h) ≡ 4294967000 → h ≡ heard
first_night h un step at = same_by_first h heard un unrolled step at

-- ---- a clock that is moved by 300

abbrev on300 : History
on300 = history.tick 495 ∷ history.frame 294 controller_kind 7 ∷ history.frame 4 session_kind 258 ∷ []

moved_300 : moved 300 heard ≡ on300
moved_300 = refl

pub unrolled_300 : Unrolled on300
unrolled_300 = unrolled_moved 300 heard unrolled

-- 2 is the same: 4,294,967,289 is before the controller's status, and so is 293
pub earlier_300 : (earlier_in (moved 300 before) 293 ≡ true) × (earlier_in (moved 300 before) 495 ≡ false)
earlier_300 = (earlier_moved 300 before 4294967289 ∙ computed.4, earlier_moved 300 before 195 ∙ computed.3)

pub findings_300 : findings01 limits (moved 300 before) (history.tick 495) ≡ findings01 limits before late
findings_300 = findings_moved 300 limits before late unrolled

pub record_300 : still (record_of 4 limits on300) ≡ still (record_of 4 limits heard)
record_300 = record_moved 300 4 limits heard unrolled

-- a clock that is moved by a whole round shows the same times, and so the very record
pub whole_round : record_of 4 limits (moved 4294967296 heard) ≡ record_of 4 limits heard
whole_round = still_only (record_of 4 limits (moved 4294967296 heard)) (record_of 4 limits heard) (record_moved 4294967296 4 limits heard unrolled) refl

-- ---- channel 4's clock moved by 300, all others by 4,294,966,600, over the operations

abbrev by : ℕ → ℕ
by c = cond (eqb c 4) 300 4294966600

abbrev moved_night : List Request
moved_night =
    tick 4 495 ∷ frame 4 294 0x6b000 true (7 ∷ []) ∷ tick 9 4 ∷ frame 4 4 0x6b001 true (2 ∷ 1 ∷ []) ∷ setUp 1 9 limits ∷ setUp 0 4 limits ∷ []

moved_night_lem : moved_requests by night ≡ moved_night
moved_night_lem = refl

-- 11 ms after the tick the session has been silent for 502 ms, by either clock: F1 beside F2
pub reply_night : reply (run night) (tick 4 206) ≡ fed (Ok 3)
reply_night = own_tick night 0 4 limits heard first computed.0 206 ∙ rw (computed.5, computed.6)

pub reply_300 : reply (run moved_night) (tick 4 506) ≡ fed (Ok 3)
reply_300 = reply_moved by night (tick 4 206) ∙ reply_night

pub look_up_300 : still_shown (look_up_of (run moved_night) 0) ≡ still_shown (look_up_of (run night) 0)
look_up_300 = look_up_moved by night 0

pub refused_300 : (run (tick 4 494 ∷ moved_night)).refused ≡ (run (tick 4 194 ∷ night)).refused
refused_300 = refused_moved by (tick 4 194 ∷ night)

-- and each reply in its turn, in the order in which requests come
pub replies_300 : replies_from empty_table (setUp 0 4 limits ∷ frame 4 294 0x6b000 true (7 ∷ []) ∷ tick 4 494 ∷ tick 4 293 ∷ tick 4 495 ∷ [])
    ≡ replies_from empty_table (setUp 0 4 limits ∷ frame 4 4294967290 0x6b000 true (7 ∷ []) ∷ tick 4 194 ∷ tick 4 4294967289 ∷ tick 4 195 ∷ [])
replies_300 = replies_moved by (setUp 0 4 limits ∷ frame 4 4294967290 0x6b000 true (7 ∷ []) ∷ tick 4 194 ∷ tick 4 4294967289 ∷ tick 4 195 ∷ [])
