-- Both theorems on a night: each premise holds there, and each says something. Post 0 stands on channel 4 with W 100 ms.
use Rattle.std.specs.Prelude.{Ok}
use Prim.Native.Nat.{ℕ, ◌+◌, ◌<◌}
use native.Mathlib.Omega.{arith}
use borrow.Author.Tests.{ltb-true}
use mathlib.Core.Path.{◌≡◌, refl, ap, sym, ◌∙◌}
use mathlib.Core.Bool.{true}
use mathlib.Core.List.{List, [], ◌∷◌, map}
use lib.ListN.{length}
use mathlib.Core.Option.{none, some}
use Rattle.page_table.specs.Table.{rows, of_kind, first_at, covered}
use Rattle.page_read.specs.Judge.{unlabelled, stray_below, judged_number, judge_on}
use Rattle.page_interfaces.specs.Foreign.{is_foreign, judge_for}
use Rattle.rule_pages.specs.Roles.{role_of}
use Rattle.rule_pages.specs.Said.{status_by, opening_by, limits_by, command_by}
use Rattle.page_write.specs.Raws.{wholes_of, pad, raws_of}
use Rattle.signal.specs.Signal.{get_bits}
use Rattle.payload.specs.Payload.{le_number}
use Rattle.signal.specs.Twos.{to_signed}
use Rattle.message_parts.specs.Parts.{status_kind, controller_kind, session_kind, status_in, parameters_in, session_in, control_in}
use Rattle.rule_limits.specs.declared.PlainLimits.{PlainLimits}
use Rattle.rule_limits.specs.Limits.{limits_fit}
use Rattle.rule_asks.specs.Judgements.{lowers_badly, outside, leaking, bad_insulation, differs}
use Rattle.rules.specs.History.{History, Said, said_at, since_finished, opening, in_session}
use Rattle.rules.specs.History as history
use Rattle.rules.specs.Times.{earlier_in, Unrolled}
use Rattle.rules.specs.Rules.{session_status, session_control, session_stop, limit_of, f1, f2, f3, f4, f5, f6, f7, f8, f9, f10, f11, f12, rules01, findings01}
use Rattle.rules.specs.Counts.{tallies_of}
use Rattle.rules.specs.Record.{record_of}
use Rattle.watch_rules.specs.Table.{post_count, look_up_of}
use Rattle.watch_rules.specs.Steps.{held, standing, find_from, holder, other_holds, feed01, set_up01, feed_steps, set_up_steps}
use Rattle.watch_rules.specs.Run.{Request, setUp, frame, tick, run, accepted}
use Rattle.watch_ticks.specs.Marks.{Mark, kept, extra, whole, extras_by, kept_of, judged}
use Rattle.watch_ticks.specs.Gaps.{Alike}
use Rattle.watch_ticks.specs.Unticked.{unticked, plus}
use Rattle.watch_ticks.specs.Silence.{Silent, Told, Some}
use Rattle.watch_ticks.specs.Silence as event
use Rattle.watch_ticks.specs.Answers.{answers_to, SomeAnswer, HasF1}
use Rattle.watch_ticks.proofs.Alike.{kept_findings, tallies_alike, accepted_alike}
use Rattle.watch_ticks.proofs.Unticked.{record_alike}
use Rattle.watch_ticks.proofs.Silence.{silence_told}
use Rattle.watch_ticks.proofs.Answers.{answers_judged}
use Rattle.watch_ticks.proofs.Runs.{answers_alike, counts_alike, shown_alike, silence_answered}

abbrev limits : PlainLimits
limits = record { voltage = 5000; charge = 1000; discharge = 500; silence = 100; sensor = 0; interface = 0 }

-- New_Charge_Session, Advantics_Controller_Status Charging and Power_Modules_Status (no current, Allowed) on channel 4
abbrev session : ℕ → Request
session t = frame 4 t 0x6b001 true (2 ∷ 1 ∷ [])

abbrev controller : ℕ → Request
controller t = frame 4 t 0x6b000 true (7 ∷ [])

abbrev status : ℕ → Request
status t = frame 4 t 0x63000 true (0 ∷ 0 ∷ 0 ∷ 0 ∷ 65 ∷ 65 ∷ 1 ∷ 255 ∷ [])

abbrev allowed : ℕ
allowed = 0xFF01414100000000

-- ---- ticks put in: before the first kept event, so that all others stand one round of the clock later; two in between, and one behind

-- newest first
abbrev plain : List Request
plain = status 1300 ∷ tick 4 1100 ∷ controller 1010 ∷ session 1000 ∷ setUp 0 4 limits ∷ []

abbrev ticking : List Request
ticking = tick 4 1350 ∷ status 1300 ∷ tick 4 1250 ∷ tick 4 1100 ∷ controller 1010 ∷ session 1000 ∷ tick 4 4294967290 ∷ setUp 0 4 limits ∷ []

abbrev fewer : List Mark
fewer =
    kept (history.frame 1300 status_kind allowed) ∷ kept (history.tick 1100) ∷ kept (history.frame 1010 controller_kind 7) ∷ kept (history.frame 1000 session_kind 258) ∷ []

abbrev round : ℕ
round = 4294967296

abbrev more : List Mark
more =
    extra (round + 1350) ∷ kept (history.frame (round + 1300) status_kind allowed) ∷ extra (round + 1250) ∷ kept (history.tick (round + 1100))
    ∷ kept (history.frame (round + 1010) controller_kind 7) ∷ kept (history.frame (round + 1000) session_kind 258) ∷ extra 4294967290 ∷ []

first : 0 < post_count
first = ltb-true 0 post_count refl

-- F1 and F2 once and twice of what was put in
abbrev put_in : List ℕ
put_in = 1 ∷ 2 ∷ 0 ∷ 0 ∷ 0 ∷ 0 ∷ 0 ∷ 0 ∷ 0 ∷ 0 ∷ 0 ∷ 0 ∷ []

abbrev none_in : List ℕ
none_in = 0 ∷ 0 ∷ 0 ∷ 0 ∷ 0 ∷ 0 ∷ 0 ∷ 0 ∷ 0 ∷ 0 ∷ 0 ∷ 0 ∷ []

computed : (standing 0 (accepted plain) ≡ held 4 limits (whole fewer)) × (standing 0 (accepted ticking) ≡ held 4 limits (whole more))
    × (judged limits (whole fewer) ≡ 3 ∷ 0 ∷ 0 ∷ 0 ∷ []) × (judged limits (whole more) ≡ 2 ∷ 3 ∷ 3 ∷ 0 ∷ 0 ∷ 0 ∷ 0 ∷ [])
    × (extras_by rules01 limits more ≡ put_in) × (extras_by rules01 limits fewer ≡ none_in)
unfolding standing find_from holder other_holds feed01 set_up01 feed_steps set_up_steps limits_fit accepted since_finished opening in_session earlier_in lowers_badly outside leaking bad_insulation differs session_status session_control session_stop limit_of f1 f2 f3 f4 f5 f6 f7 f8 f9 f10 f11 f12 findings01 rows of_kind first_at covered unlabelled stray_below judged_number judge_on is_foreign judge_for role_of status_by opening_by limits_by command_by wholes_of pad raws_of get_bits le_number to_signed status_in parameters_in session_in control_in
computed = (refl, refl, refl, refl, refl, refl)

-- the answers to the kept events with the ticks are those without them: F1 and F2 of the late status, and nothing of the others
pub answered_with : answers_to 0 ticking ≡ Ok 2 ∷ Ok 3 ∷ Ok 3 ∷ Ok 0 ∷ Ok 0 ∷ Ok 0 ∷ Ok 0 ∷ []
answered_with = answers_judged ticking 0 4 limits (whole more) first computed.1 ∙ ap (map Ok) computed.3

pub answered_without : answers_to 0 plain ≡ Ok 3 ∷ Ok 0 ∷ Ok 0 ∷ Ok 0 ∷ []
answered_without = answers_judged plain 0 4 limits (whole fewer) first computed.0 ∙ ap (map Ok) computed.2

pub answers_kept : kept_of more (answers_to 0 ticking) ≡ kept_of fewer (answers_to 0 plain)
answers_kept = answers_alike ticking plain 0 4 limits more fewer first computed.1 computed.0 refl refl

-- the record has the three ticks more, and what they found
pub counts_more : ((look_up_of (run ticking) 0).shown.accepted + 0 ≡ (look_up_of (run plain) 0).shown.accepted + 3)
    × (plus (look_up_of (run ticking) 0).shown.tallies none_in ≡ plus (look_up_of (run plain) 0).shown.tallies put_in)
counts_more =
    let z = counts_alike ticking plain 0 4 limits more fewer first computed.1 computed.0 refl refl in
    (z.0, ap (plus (look_up_of (run ticking) 0).shown.tallies) (sym computed.5) ∙ z.1 ∙ ap (plus (look_up_of (run plain) 0).shown.tallies) computed.4)

pub shown_kept : ((look_up_of (run ticking) 0).answer ≡ (look_up_of (run plain) 0).answer) × (unticked (look_up_of (run ticking) 0).shown ≡ unticked (look_up_of (run plain) 0).shown)
shown_kept = shown_alike ticking plain 0 4 limits more fewer first computed.1 computed.0 refl

-- ---- a silence of W + 101 ms from the opening to the first Power_Modules_Status, with ticks 100 ms apart

abbrev quiet : List Request
quiet = tick 4 1210 ∷ status 1201 ∷ tick 4 1200 ∷ tick 4 1100 ∷ session 1000 ∷ setUp 0 4 limits ∷ []

abbrev heard : History
heard = history.tick 1200 ∷ history.tick 1100 ∷ history.frame 1000 session_kind 258 ∷ []

abbrev since : History
since = history.tick 1210 ∷ history.frame 1201 status_kind allowed ∷ heard

abbrev opened : Said
opened = said_at 1000 session_kind 258

silent_there : (standing 0 (accepted quiet) ≡ held 4 limits since) × (opening heard ≡ some opened) × (in_session heard ≡ history.tick 1200 ∷ history.tick 1100 ∷ [])
    × (session_status heard ≡ none) × (judged limits since ≡ 0 ∷ 1 ∷ 1 ∷ 0 ∷ 0 ∷ [])
unfolding standing find_from holder other_holds feed01 set_up01 feed_steps set_up_steps limits_fit accepted since_finished opening in_session earlier_in lowers_badly outside leaking bad_insulation differs session_status session_control session_stop limit_of f1 f2 f3 f4 f5 f6 f7 f8 f9 f10 f11 f12 findings01 rows of_kind first_at covered unlabelled stray_below judged_number judge_on is_foreign judge_for role_of status_by opening_by limits_by command_by wholes_of pad raws_of get_bits le_number to_signed status_in parameters_in session_in control_in
silent_there = (refl, refl, refl, refl, refl)

silence : Silent limits opened 1000 heard (history.frame 1201 status_kind allowed)
silence =
    record {
      opened = silent_there.1;
      since = rw silent_there.3 refl;
      ticked = rw silent_there.2 (omega arith, (omega arith, omega arith));
      long = omega arith;
    }

-- F1 on the tick at 1200, 100 ms after the silence passed W
pub silence_heard : SomeAnswer (λ k e w. Told limits opened 1000 k e × HasF1 w) since (answers_to 0 quiet)
silence_heard = silence_answered limits opened 1000 quiet 0 4 since first silent_there.0 (event.there (event.here silence))

pub answered_quiet : answers_to 0 quiet ≡ Ok 0 ∷ Ok 1 ∷ Ok 1 ∷ Ok 0 ∷ Ok 0 ∷ []
answered_quiet = answers_judged quiet 0 4 limits since first silent_there.0 ∙ ap (map Ok) silent_there.4

-- ---- the same over the histories themselves

in_time : Unrolled (whole more) × Unrolled (whole fewer) × Unrolled since
unfolding earlier_in
in_time = (
  (refl, refl, (refl, refl, (refl, refl, (refl, refl, (refl, refl, (refl, refl, (refl, refl, tt))))))),
  (refl, refl, (refl, refl, (refl, refl, (refl, refl, tt)))),
  (refl, refl, (refl, refl, (refl, refl, (refl, refl, (refl, refl, tt))))),
)

alike_there : Alike more fewer
alike_there = record { one = in_time.0; other = in_time.1; same = refl; between = refl }

pub findings_there : kept_of more (judged limits (whole more)) ≡ kept_of fewer (judged limits (whole fewer))
findings_there = kept_findings limits more fewer alike_there

pub accepted_there : length (whole more) + 0 ≡ length (whole fewer) + 3
accepted_there = accepted_alike limits more fewer alike_there

pub tallies_there : plus (tallies_of limits (whole more)) (extras_by rules01 limits fewer) ≡ plus (tallies_of limits (whole fewer)) (extras_by rules01 limits more)
tallies_there = tallies_alike limits more fewer alike_there

pub record_there : unticked (record_of 4 limits (whole more)) ≡ unticked (record_of 4 limits (whole fewer))
record_there = record_alike more fewer refl 4 limits

pub told_there : Some (Told limits opened 1000) since
told_there = silence_told limits opened 1000 since in_time.2 (event.there (event.here silence))
