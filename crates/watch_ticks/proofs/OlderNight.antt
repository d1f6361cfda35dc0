-- Both theorems of 02, Req 12 on a post of the older interface: ticks put in and taken out around its frames, a stop and F12 (Req 14) among them, and a silence
-- of W + 101 ms of its power modules.
use Rattle.std.specs.Prelude.{Ok}
use Prim.Native.Nat.{ℕ, ◌<◌}
use native.Mathlib.Omega.{arith}
use borrow.Author.Tests.{ltb-true}
use mathlib.Core.Path.{◌≡◌, refl, ap, ◌∙◌}
use mathlib.Core.Bool.{true}
use mathlib.Core.List.{List, [], ◌∷◌, map}
use mathlib.Core.Option.{none, some}
use Rattle.page_table.specs.Table.{rows, of_kind, first_at, covered}
use Rattle.page_read.specs.Judge.{unlabelled, stray_below, judged_number, judge_on}
use Rattle.page_interfaces.specs.Foreign.{is_foreign, judge_for}
use Rattle.rule_pages.specs.Roles.{role_of}
use Rattle.rule_pages.specs.Said.{status_by, opening_by, limits_by, command_by}
use Rattle.page_write.specs.Raws.{wholes_of, pad, raws_of}
use Rattle.signal.specs.Signal.{get_bits}
use Rattle.payload.specs.Payload.{le_number}
use Rattle.signal.specs.Twos.{to_signed}
use Rattle.message_parts.specs.Parts.{status_in, parameters_in, session_in, control_in}
use Rattle.older_types.specs.KindNumbers.{status_kind, session_kind, charging_kind, stop_kind}
use Rattle.rule_limits.specs.declared.PlainLimits.{PlainLimits}
use Rattle.rule_limits.specs.Limits.{limits_fit}
use Rattle.rule_asks.specs.Judgements.{lowers_badly, outside, leaking, bad_insulation, differs}
use Rattle.rules.specs.History.{History, Said, said_at, since_finished, opening, in_session}
use Rattle.rules.specs.History as history
use Rattle.rules.specs.Times.{earlier_in}
use Rattle.rules.specs.Rules.{session_status, session_control, session_stop, limit_of, f1, f2, f3, f4, f5, f6, f7, f8, f9, f10, f11, f12, findings01}
use Rattle.watch_rules.specs.Table.{post_count, look_up_of}
use Rattle.watch_rules.specs.Steps.{held, standing, find_from, holder, other_holds, feed01, set_up01, feed_steps, set_up_steps}
use Rattle.watch_rules.specs.Run.{Request, setUp, frame, tick, run, accepted}
use Rattle.watch_ticks.specs.Marks.{Mark, kept, extra, whole, kept_of, judged}
use Rattle.watch_ticks.specs.Unticked.{unticked}
use Rattle.watch_ticks.specs.Silence.{Silent, Told, Some}
use Rattle.watch_ticks.specs.Silence as event
use Rattle.watch_ticks.specs.Answers.{answers_to, SomeAnswer, HasF1}
use Rattle.watch_ticks.proofs.Answers.{answers_judged}
use Rattle.watch_ticks.proofs.Runs.{answers_alike, shown_alike, silence_answered}

-- W 100 ms, and the pages of 001
abbrev limits : PlainLimits
limits = record { voltage = 5000; charge = 1000; discharge = 500; silence = 100; sensor = 0; interface = 1 }

-- New_Charge_Session, Power_Modules_Status (no current, Allowed), Charging_Loop and Emergency_Stop of 001 on channel 4
abbrev session : ℕ → Request
session t = frame 4 t 0x68001 true (2 ∷ 1 ∷ 0 ∷ 0 ∷ 0 ∷ 0 ∷ 0 ∷ 0 ∷ [])

abbrev status : ℕ → Request
status t = frame 4 t 0x60010 true (0 ∷ 0 ∷ 0 ∷ 0 ∷ 65 ∷ 65 ∷ 1 ∷ 255 ∷ [])

abbrev charging : ℕ → Request
charging t = frame 4 t 0x68005 true (0 ∷ 0 ∷ 0 ∷ 0 ∷ 0 ∷ [])

abbrev stop : ℕ → Request
stop t = frame 4 t 0x68006 true (1 ∷ [])

abbrev allowed : ℕ
allowed = 0xFF01414100000000

first : 0 < post_count
first = ltb-true 0 post_count refl

-- ---- ticks put in before, between and behind the frames

-- newest first
abbrev plain : List Request
plain = charging 1320 ∷ stop 1310 ∷ status 1300 ∷ charging 1010 ∷ session 1000 ∷ setUp 0 4 limits ∷ []

abbrev ticking : List Request
ticking = tick 4 1350 ∷ charging 1320 ∷ tick 4 1315 ∷ stop 1310 ∷ status 1300 ∷ tick 4 1250 ∷ charging 1010 ∷ session 1000 ∷ tick 4 900 ∷ setUp 0 4 limits ∷ []

abbrev fewer : List Mark
fewer =
    kept (history.frame 1320 charging_kind 0) ∷ kept (history.frame 1310 stop_kind 1) ∷ kept (history.frame 1300 status_kind allowed) ∷ kept (history.frame 1010 charging_kind 0)
    ∷ kept (history.frame 1000 session_kind 258) ∷ []

abbrev more : List Mark
more =
    extra 1350 ∷ kept (history.frame 1320 charging_kind 0) ∷ extra 1315 ∷ kept (history.frame 1310 stop_kind 1) ∷ kept (history.frame 1300 status_kind allowed) ∷ extra 1250
    ∷ kept (history.frame 1010 charging_kind 0) ∷ kept (history.frame 1000 session_kind 258)
    ∷ extra 900 ∷ []

computed : (standing 0 (accepted plain) ≡ held 4 limits (whole fewer)) × (standing 0 (accepted ticking) ≡ held 4 limits (whole more))
    × (judged limits (whole fewer) ≡ 2048 ∷ 0 ∷ 1 ∷ 16 ∷ 0 ∷ []) × (judged limits (whole more) ≡ 0 ∷ 2048 ∷ 0 ∷ 0 ∷ 1 ∷ 1 ∷ 16 ∷ 0 ∷ 0 ∷ [])
unfolding standing find_from holder other_holds feed01 set_up01 feed_steps set_up_steps limits_fit accepted since_finished opening in_session earlier_in lowers_badly outside leaking bad_insulation differs session_status session_control session_stop limit_of f1 f2 f3 f4 f5 f6 f7 f8 f9 f10 f11 f12 findings01 rows of_kind first_at covered unlabelled stray_below judged_number judge_on is_foreign judge_for role_of status_by opening_by limits_by command_by wholes_of pad raws_of get_bits le_number to_signed status_in parameters_in session_in control_in
computed = (refl, refl, refl, refl)

-- F1 of the late status, F5 of the Charging_Loop before it and F12 of the one after the stop, with the ticks and without them
pub answers_kept : kept_of more (answers_to 0 ticking) ≡ kept_of fewer (answers_to 0 plain)
answers_kept = answers_alike ticking plain 0 4 limits more fewer first computed.1 computed.0 refl refl

pub answered_without : answers_to 0 plain ≡ Ok 2048 ∷ Ok 0 ∷ Ok 1 ∷ Ok 16 ∷ Ok 0 ∷ []
answered_without = answers_judged plain 0 4 limits (whole fewer) first computed.0 ∙ ap (map Ok) computed.2

pub shown_kept : ((look_up_of (run ticking) 0).answer ≡ (look_up_of (run plain) 0).answer) × (unticked (look_up_of (run ticking) 0).shown ≡ unticked (look_up_of (run plain) 0).shown)
shown_kept = shown_alike ticking plain 0 4 limits more fewer first computed.1 computed.0 refl

-- ---- a silence from the opening to the first Power_Modules_Status, with ticks 100 ms apart

abbrev quiet : List Request
quiet = status 1201 ∷ tick 4 1200 ∷ tick 4 1100 ∷ session 1000 ∷ setUp 0 4 limits ∷ []

abbrev heard : History
heard = history.tick 1200 ∷ history.tick 1100 ∷ history.frame 1000 session_kind 258 ∷ []

abbrev since : History
since = history.frame 1201 status_kind allowed ∷ heard

abbrev opened : Said
opened = said_at 1000 session_kind 258

silent_there : (standing 0 (accepted quiet) ≡ held 4 limits since) × (opening heard ≡ some opened) × (in_session heard ≡ history.tick 1200 ∷ history.tick 1100 ∷ [])
    × (session_status heard ≡ none)
unfolding standing find_from holder other_holds feed01 set_up01 feed_steps set_up_steps limits_fit accepted since_finished opening in_session earlier_in lowers_badly outside leaking bad_insulation differs session_status session_control session_stop limit_of f1 f2 f3 f4 f5 f6 f7 f8 f9 f10 f11 f12 findings01 rows of_kind first_at covered unlabelled stray_below judged_number judge_on is_foreign judge_for role_of status_by opening_by limits_by command_by wholes_of pad raws_of get_bits le_number to_signed status_in parameters_in session_in control_in
silent_there = (refl, refl, refl, refl)

silence : Silent limits opened 1000 heard (history.frame 1201 status_kind allowed)
silence =
    record {
      opened = silent_there.1;
      since = rw silent_there.3 refl;
      ticked = rw silent_there.2 (omega arith, (omega arith, omega arith));
      long = omega arith;
    }

-- F1 on the tick at 1200, 100 ms after the silence passed W
pub silence_heard : SomeAnswer (λ k e w. Told limits opened 1000 k e × HasF1 w) since (answers_to 0 quiet)
silence_heard = silence_answered limits opened 1000 quiet 0 4 since first silent_there.0 (event.here silence)
