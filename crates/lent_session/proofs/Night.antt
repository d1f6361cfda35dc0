-- The laws of an open session's part on a night: post 0 on channel 4, a session opened at 0 ms, a Power_Modules_Status at 10 ms in it, an Emergency_Stop at
-- 20 ms, and a tick at 25 ms.
-- Each premise holds there.
use Rattle.std.specs.Prelude.{Ok}
use Rattle.std.specs.Prelude as std
use Prim.Native.Nat.{ℕ, zero, suc, ◌<◌, ◌≤◌}
use native.Mathlib.Omega.{arith}
use mathlib.Core.Path.{◌≡◌, refl, sym, ap, ◌∙◌, subst}
use mathlib.Core.Bool.{true, false}
use mathlib.Core.List.{List, [], ◌∷◌, ◌++◌}
use mathlib.Core.Option.{none, some}
use lib.ListN.{get_or, replicate}
use borrow.Author.Tests.{ltb-true}
use Rattle.payload.specs.Payload.{Bytes, le_number}
use Rattle.signal.specs.Signal.{get_bits}
use Rattle.signal.specs.Twos.{to_signed}
use Rattle.page_table.specs.declared.Interface.TheVariants.{Newer}
use Rattle.page_table.specs.Messages.{message_count}
use Rattle.page_table.specs.Table.{rows, of_kind, first_at, covered, length_of}
use Rattle.page_read.specs.Judge.{unlabelled, stray_below, judged_number, judge_on}
use Rattle.page_interfaces.specs.Foreign.{is_foreign, judge_for}
use Rattle.page_write.specs.Raws.{wholes_of, pad, raws_of}
use Rattle.message_parts.specs.Parts.{status_in, parameters_in, session_in, control_in}
use Rattle.rule_pages.specs.Roles.{role_of}
use Rattle.rule_pages.specs.Said.{status_by, limits_by, opening_by, command_by}
use Rattle.rule_limits.specs.declared.PlainLimits.{PlainLimits}
use Rattle.rule_limits.specs.Limits.{limits_fit}
use Rattle.rule_pages.specs.Places.{place_by}
use Rattle.rules.specs.History.{History, said_at, since_finished, opening, in_session}
use Rattle.rules.specs.Times.{earlier_in}
use Rattle.rules.specs.History as history
use Rattle.rule_asks.specs.Judgements.{lowers_badly, outside, leaking, bad_insulation, differs}
use Rattle.rules.specs.Rules.{session_status, session_control, session_stop, limit_of, f1, f2, f3, f4, f5, f6, f7, f8, f9, f10, f11, f12, findings01}
use Rattle.rules.specs.declared.Dated.{Dated}
use Rattle.rules.specs.declared.Post.{Post}
use Rattle.rules.specs.Record.{is_set, unknown, slot_at, session01, head_at, latests}
use Rattle.rules.proofs.Excludes.{excludes}
use Rattle.rules.specs.After.{status_place, control_place, stop_place, kept_count, dated_in}
use Rattle.watch_rules.specs.Setting.{Setting}
use Rattle.watch_rules.specs.declared.LookedUp.{LookedUp}
use Rattle.watch_rules.specs.Table.{post_count, no_post, post_in, look_up_of}
use Rattle.watch_rules.specs.Steps.{held, standing, kept_post, find_from, holder, other_holds, feed01, set_up01, look_up01, feed_steps, set_up_steps}
use Rattle.watch_rules.specs.Run.{Request, setUp, frame, tick, run, accepted}
use Rattle.watch_rules.proofs.Placed.{post_at}
use Rattle.watch_rules.proofs.Demand.{run_kept, every_record}
use Rattle.lent_latest.specs.Latest.{hands, kept_of, now_of, latest_word, time_after, frame_after}
use Rattle.lent_latest.proofs.LatestLaws.{latest_refused, latest_shown_lem, some_bytes}
use Rattle.lent_latest.proofs.LatestLooks.{latest_of_run}
use Rattle.lent_session.specs.InSession.{part_of, hands_part, part_word, part_time, part_frame}
use Rattle.lent_session.proofs.SessionLaws.{as_it_came, part_refused, part_shown, closed, part_right, part_closed}

abbrev limits : PlainLimits
limits = record { voltage = 5000; charge = 1000; discharge = 500; silence = 500; sensor = 0; interface = 0 }

-- Power_Modules_Status: no voltage, no current, 25 °C, Allowed, and its payload number
abbrev status : List ℕ
status = 0 ∷ 0 ∷ 0 ∷ 0 ∷ 65 ∷ 65 ∷ 1 ∷ 255 ∷ []

abbrev allowed : ℕ
allowed = 18375039702077014016

-- newest first
abbrev night : List Request
night = tick 4 25 ∷ frame 4 20 0x6b005 true (3 ∷ []) ∷ frame 4 10 0x63000 true status ∷ frame 4 0 0x6b001 true (2 ∷ 1 ∷ []) ∷ setUp 0 4 limits ∷ []

abbrev heard : History
heard = history.tick 25 ∷ history.frame 20 7 3 ∷ history.frame 10 0 allowed ∷ history.frame 0 3 258 ∷ []

abbrev buffer : List ℕ
buffer = replicate 10 7

computed : (standing 0 (accepted night) ≡ held 4 limits heard) × (opening heard ≡ some (said_at 0 3 258)) × (session_status heard ≡ some (said_at 10 0 allowed)) × (session_control heard ≡ none)
    × (judge_for Newer 0x63000 true status ≡ Ok (0, allowed)) × ((look_up01 (accepted night) 0).answer ≡ Ok tt) × (hands (Ok tt) true (slot_at 10 0 allowed) 3 10 ≡ true)
    × (session_stop heard ≡ some (said_at 20 7 3))
unfolding standing find_from holder other_holds feed01 set_up01 look_up01 feed_steps set_up_steps limits_fit accepted since_finished opening in_session earlier_in lowers_badly outside leaking bad_insulation differs session_status session_control session_stop limit_of f1 f2 f3 f4 f5 f6 f7 f8 f9 f10 f11 f12 findings01 rows of_kind first_at covered length_of unlabelled stray_below judged_number judge_on is_foreign judge_for wholes_of pad raws_of get_bits le_number to_signed role_of status_by limits_by opening_by command_by status_in parameters_in session_in control_in
computed = (refl, refl, refl, refl, refl, refl, refl, refl)

first : 0 < post_count
first = ltb-true 0 post_count refl

pub kept_status : part_of (run night) 0 status_place ≡ slot_at 10 0 allowed
kept_status = part_right (run night) (accepted night) (run_kept night) 0 4 limits heard first computed.0 (said_at 0 3 258) status_place computed.1 (ltb-true status_place kept_count refl) ∙ rw computed.2

-- no DC_Power_Control was accepted
pub kept_control : part_of (run night) 0 control_place ≡ unknown
kept_control = part_right (run night) (accepted night) (run_kept night) 0 4 limits heard first computed.0 (said_at 0 3 258) control_place computed.1 (ltb-true control_place kept_count refl) ∙ rw computed.3

-- the stop, at its place
pub kept_stop : part_of (run night) 0 stop_place ≡ slot_at 20 7 3
kept_stop = part_right (run night) (accepted night) (run_kept night) 0 4 limits heard first computed.0 (said_at 0 3 258) stop_place computed.1 (ltb-true stop_place kept_count refl) ∙ rw computed.7

handed : hands_part (run night) 0 status_place (99 ∷ 99 ∷ 99 ∷ []) buffer ≡ true
handed =
    ap (λ (x : Setting). hands x true (part_of (run night) 0 status_place) 3 10) (ap (λ (x : LookedUp). x.answer) (every_record night 0) ∙ computed.5)
    ∙ rw kept_status computed.6

each_byte : Bytes status
each_byte zero = omega arith
each_byte (suc zero) = omega arith
each_byte (suc (suc zero)) = omega arith
each_byte (suc (suc (suc zero))) = omega arith
each_byte (suc (suc (suc (suc zero)))) = omega arith
each_byte (suc (suc (suc (suc (suc zero))))) = omega arith
each_byte (suc (suc (suc (suc (suc (suc zero)))))) = omega arith
each_byte (suc (suc (suc (suc (suc (suc (suc zero))))))) = omega arith
each_byte (suc (suc (suc (suc (suc (suc (suc (suc i)))))))) = omega arith

-- ---- the other laws' premises

answered : (look_up_of (run night) 0).answer ≡ Ok tt
answered = ap (λ (x : LookedUp). x.answer) (every_record night 0) ∙ computed.5

-- no place for the time: 8, and nothing changes
refused_8 : part_word (run night) 0 status_place [] buffer ≡ 65544
unfolding part_word
refused_8 = rw (answered, kept_status)

pub no_place : (part_time (run night) 0 status_place [] buffer ≡ []) × (part_frame (run night) 0 status_place [] buffer ≡ buffer)
no_place = part_refused (run night) 0 status_place [] buffer (subst (λ (a : ℕ). 65536 ≤ a) (sym refused_8) (omega arith))

-- post 0 before any session: none is handed out
abbrev quiet : List Request
quiet = setUp 0 4 limits ∷ []

unheard : (standing 0 (accepted quiet) ≡ held 4 limits []) × (opening [] ≡ none)
unfolding standing find_from holder other_holds set_up01 set_up_steps limits_fit accepted since_finished opening
unheard = (refl, refl)

pub kept_none : part_of (run quiet) 0 control_place ≡ unknown
kept_none = part_closed (run quiet) (accepted quiet) (run_kept quiet) 0 4 limits [] first unheard.0 control_place unheard.1

-- post 0 after each of the two runs
head_in : (rs : List Request) (h : History) → standing 0 (accepted rs) ≡ held 4 limits h → post_in (run rs) 0 ≡ kept_post (held 4 limits h)
head_in rs h own = ap (λ (ps : List Post). get_or ps 0 no_post) (run_kept rs).posts ∙ post_at (accepted rs) 0 first ∙ ap kept_post own

used_in : (rs : List Request) (h : History) → standing 0 (accepted rs) ≡ held 4 limits h → is_set (post_in (run rs) 0).head.used ≡ true
unfolding head_at
used_in rs h own = ap (λ (p : Post). is_set p.head.used) (head_in rs h own)

latest_time_lem : now_of (run night) 0 ≡ 25
unfolding head_at
latest_time_lem = ap (λ (p : Post). p.head.time) (head_in night heard computed.0)

-- the status is handed out as it came, with its time and its age as of the tick, and behind it the buffer stays
pub status_out : (part_time (run night) 0 status_place (99 ∷ 99 ∷ 99 ∷ []) buffer ≡ 10 ∷ 15 ∷ 0 ∷ []) × (part_frame (run night) 0 status_place (99 ∷ 99 ∷ 99 ∷ []) buffer ≡ status ++ (7 ∷ 7 ∷ []))
status_out = rw latest_time_lem at (as_it_came Newer (run night) 0 status_place (99 ∷ 99 ∷ 99 ∷ []) buffer 0x63000 true status 10 0 allowed computed.4 each_byte kept_status handed)

-- the record shows the status that is handed out
pub status_shown : (d : std.Option Dated) → get_or (look_up_of (run night) 0).shown.kept status_place d ≡ dated_in (post_in (run night) 0).head.time (part_of (run night) 0 status_place)
status_shown = part_shown (run night) 0 status_place refl (used_in night heard computed.0) (ltb-true status_place kept_count refl)

shut : is_set (post_in (run quiet) 0).head.session.opened ≡ false
unfolding head_at session01 since_finished opening
shut = ap (λ (p : Post). is_set p.head.session.opened) (head_in quiet [] unheard.0)

-- before any session the answer is 0, whatever is lent
pub none_yet : (times buf : List ℕ) → part_word (run quiet) 0 control_place times buf ≡ 0
none_yet times buf =
    closed (run quiet) 0 control_place times buf refl (used_in quiet [] unheard.0) (ltb-true control_place kept_count refl) shut

-- ---- the laws of the latest frame of a kind, and of findings that exclude each other, on the same night

kept_latest_lem : kept_of (run night) 0 0 ≡ slot_at 10 0 allowed
kept_latest_lem = latest_of_run night 0 4 limits heard first computed.0 0 (ltb-true 0 message_count refl)

in_place : (get_or (post_in (run night) 0).latest (place_by 0) unknown).kind ≡ 0
unfolding latests place_by
in_place = ap (λ (p : Post). (get_or p.latest 0 unknown).kind) (head_in night heard computed.0)

latest_8 : latest_word (run night) 0 0 [] buffer ≡ 65544
unfolding latest_word
latest_8 = rw (answered, kept_latest_lem)

pub latest_no_place : (time_after (run night) 0 0 [] buffer ≡ []) × (frame_after (run night) 0 0 [] buffer ≡ buffer)
latest_no_place = latest_refused (run night) 0 0 [] buffer (subst (λ (a : ℕ). 65536 ≤ a) (sym latest_8) (omega arith))

pub latest_in_record : get_or (look_up_of (run night) 0).shown.latest (place_by 0) std.None ≡ dated_in (post_in (run night) 0).head.time (kept_of (run night) 0 0)
latest_in_record = latest_shown_lem (run night) 0 0 refl (used_in night heard computed.0) (ltb-true 0 message_count refl) in_place

pub probes_have_bytes : 1 ≤ length_of 11
probes_have_bytes = some_bytes 11 (ltb-true 11 message_count refl)

-- in the open session, and before any
pub no_f3_f4_f11 : (f3 limits heard (history.tick 20) ≡ false) × (f4 limits heard (history.tick 20) ≡ false) × (f11 limits heard (history.tick 20) ≡ false)
no_f3_f4_f11 = (excludes limits heard (history.tick 20)).1 (rw computed.1)

pub no_f1 : f1 limits [] (history.tick 20) ≡ false
no_f1 = ((excludes limits [] (history.tick 20)).0 (rw unheard.1)).0
