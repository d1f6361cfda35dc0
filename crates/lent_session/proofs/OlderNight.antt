-- The same on a night of a post of the older interface: a session opened at 0 ms by 001's New_Charge_Session, an Insulation_Test at 10 ms in it, and a
-- Power_Modules_Status of the newer pages at 20 ms, which is refused with 29 and is part of no history.
-- Insulation_Test stands for DC_Power_Control, and in the place that DC_Power_Control has on a post of the newer interface.
use Rattle.std.specs.Prelude.{Err}
use Prim.Native.Nat.{ℕ, ◌<◌}
use mathlib.Core.Path.{◌≡◌, refl, ◌∙◌}
use mathlib.Core.Bool.{true}
use mathlib.Core.List.{List, [], ◌∷◌}
use mathlib.Core.Option.{some}
use borrow.Author.Tests.{ltb-true}
use Rattle.payload.specs.Payload.{le_number}
use Rattle.signal.specs.Signal.{get_bits}
use Rattle.signal.specs.Twos.{to_signed}
use Rattle.refusals.specs.declared.Refusal.TheVariants.{OtherInterface}
use Rattle.page_table.specs.Messages.{message_count}
use Rattle.page_table.specs.Table.{rows, of_kind, first_at, covered, length_of}
use Rattle.page_read.specs.Judge.{unlabelled, stray_below, judged_number, judge_on}
use Rattle.page_interfaces.specs.Foreign.{is_foreign, judge_for}
use Rattle.page_write.specs.Raws.{wholes_of, pad, raws_of}
use Rattle.message_types.specs.KindNumbers as newer
use Rattle.message_parts.specs.Parts.{status_in, parameters_in, session_in, control_in}
use Rattle.older_types.specs.KindNumbers as older
use Rattle.rule_pages.specs.Roles.{role_of}
use Rattle.rule_pages.specs.Said.{status_by, limits_by, opening_by, command_by}
use Rattle.rule_limits.specs.declared.PlainLimits.{PlainLimits}
use Rattle.rule_limits.specs.Limits.{limits_fit}
use Rattle.rules.specs.History.{History, said_at, newest, since_finished, opening, in_session}
use Rattle.rules.specs.History as history
use Rattle.rules.specs.Times.{earlier_in}
use Rattle.rule_asks.specs.Judgements.{lowers_badly, outside, leaking, bad_insulation, differs}
use Rattle.rules.specs.Rules.{session_status, session_control, session_stop, limit_of, f1, f2, f3, f4, f5, f6, f7, f8, f9, f10, f11, f12, findings01}
use Rattle.rules.specs.Record.{unknown, slot_at}
use Rattle.rules.specs.After.{control_place, kept_count}
use Rattle.watch_rules.specs.Table.{post_count}
use Rattle.watch_rules.specs.Steps.{held, standing, find_from, holder, other_holds, feed01, set_up01, look_up01, feed_steps, set_up_steps}
use Rattle.watch_rules.specs.Run.{Request, setUp, frame, fed, reply, run, reply01, accepted}
use Rattle.watch_rules.proofs.Demand.{run_kept, every_answer}
use Rattle.lent_latest.specs.Latest.{kept_of}
use Rattle.lent_latest.proofs.LatestLooks.{latest_of_run}
use Rattle.lent_session.specs.InSession.{part_of}
use Rattle.lent_session.proofs.SessionLaws.{part_right}

abbrev limits : PlainLimits
limits = record { voltage = 5000; charge = 1000; discharge = 500; silence = 500; sensor = 0; interface = 1 }

-- New_Charge_Session with protocol 2 and plug 1, its payload number, and that of Insulation_Test at 500.0 V
abbrev opens : List ℕ
opens = 2 ∷ 1 ∷ 0 ∷ 0 ∷ 0 ∷ 0 ∷ 0 ∷ 0 ∷ []

abbrev tested : ℕ
tested = 5000

-- a Power_Modules_Status as both documents lay it out, by the newer identifier
abbrev foreign : Request
foreign = frame 4 20 0x63000 true (0 ∷ 0 ∷ 0 ∷ 0 ∷ 65 ∷ 65 ∷ 1 ∷ 255 ∷ [])

-- newest first
abbrev before : List Request
before = frame 4 10 0x68002 true (0x88 ∷ 0x13 ∷ []) ∷ frame 4 0 0x68001 true opens ∷ setUp 0 4 limits ∷ []

abbrev night : List Request
night = foreign ∷ before

abbrev heard : History
heard = history.frame 10 older.insulation_kind tested ∷ history.frame 0 older.session_kind 258 ∷ []

computed : (standing 0 (accepted night) ≡ held 4 limits heard) × (opening heard ≡ some (said_at 0 older.session_kind 258)) × (session_control heard ≡ some (said_at 10 older.insulation_kind tested))
    × (reply01 (accepted before) foreign ≡ fed (Err OtherInterface))
unfolding standing find_from holder other_holds feed01 set_up01 look_up01 feed_steps set_up_steps limits_fit accepted since_finished opening in_session earlier_in lowers_badly outside leaking bad_insulation differs session_status session_control session_stop limit_of f1 f2 f3 f4 f5 f6 f7 f8 f9 f10 f11 f12 findings01 rows of_kind first_at covered length_of unlabelled stray_below judged_number judge_on is_foreign judge_for wholes_of pad raws_of get_bits le_number to_signed role_of status_by limits_by opening_by command_by status_in parameters_in session_in control_in
computed = (refl, refl, refl, refl)

pub foreign_29 : reply (run before) foreign ≡ fed (Err OtherInterface)
foreign_29 = every_answer before foreign ∙ computed.3

first : 0 < post_count
first = ltb-true 0 post_count refl

-- the latest of the three functions stands for DC_Power_Control
pub kept_control : part_of (run night) 0 control_place ≡ slot_at 10 older.insulation_kind tested
kept_control =
    part_right (run night) (accepted night) (run_kept night) 0 4 limits heard first computed.0 (said_at 0 older.session_kind 258) control_place computed.1 (ltb-true control_place kept_count refl)
    ∙ rw computed.2

-- it is the latest of its kind, and no DC_Power_Control was accepted
pub kept_insulation : kept_of (run night) 0 older.insulation_kind ≡ slot_at 10 older.insulation_kind tested
kept_insulation =
    latest_of_run night 0 4 limits heard first computed.0 older.insulation_kind (ltb-true older.insulation_kind message_count refl)

pub no_newer_control : kept_of (run night) 0 newer.control_kind ≡ unknown
no_newer_control =
    latest_of_run night 0 4 limits heard first computed.0 newer.control_kind (ltb-true newer.control_kind message_count refl)
