-- The laws of the interfaces on a night of two posts: 0 of the older interface on channel 4, 1 of the newer one on channel 9.
use Rattle.std.specs.Prelude.{Err}
use Rattle.std.specs.Prelude as std
use Prim.Native.Nat.{ℕ, ◌<◌}
use mathlib.Core.Path.{◌≡◌, refl, ap, subst, ◌∙◌}
use mathlib.Core.List.{List, [], ◌∷◌}
use mathlib.Core.Bool.{Bool, true, false}
use mathlib.Core.Option.{none, some}
use lib.ListN.{get_or}
use borrow.Author.Tests.{ltb-true}
use Rattle.refusals.specs.declared.Refusal.TheVariants.{OtherInterface}
use Rattle.page_table.specs.Messages.{message_count}
use Rattle.page_table.specs.Table.{rows, of_kind, first_at, covered}
use Rattle.page_table.specs.declared.Interface.TheVariants.{Older}
use Rattle.page_read.specs.Judge.{unlabelled, stray_below, judged_number, judge_on}
use Rattle.page_interfaces.specs.Foreign.{is_foreign, judge_for}
use Rattle.page_write.specs.Raws.{wholes_of, pad, raws_of}
use Rattle.signal.specs.Signal.{get_bits}
use Rattle.payload.specs.Payload.{le_number}
use Rattle.signal.specs.Twos.{to_signed}
use Rattle.older_types.specs.KindNumbers as older
use Rattle.rule_limits.specs.declared.PlainLimits.{PlainLimits}
use Rattle.rule_limits.specs.Limits.{limits_fit}
use Rattle.rule_pages.specs.Roles.{role_of}
use Rattle.rule_pages.specs.Places.{place_by}
use Rattle.rules.specs.declared.Dated.{Dated}
use Rattle.rules.specs.History as history
use Rattle.rules.specs.History.{History, newest, said_at, since_finished, opening, in_session}
use Rattle.rules.specs.Times.{earlier_in}
use Rattle.rules.specs.Rules.{session_status, session_stop, f1, f2, f3, f4, f5, f6, f7, f8, f9, f10, f11, f12, findings01}
use Rattle.rules.specs.Record.{dated_of, at_place}
use Rattle.watch_rules.specs.Table.{post_count, look_up_of}
use Rattle.watch_rules.specs.Steps.{Standing, held, standing, holds_in, find_from, holder, other_holds, feed01, set_up01, feed_steps, set_up_steps}
use Rattle.watch_rules.specs.Run.{Request, setUp, frame, fed, reply, run, accepted}
use Rattle.watch_rules.specs.Pages.{OnPages, OnOwn, only_of}
use Rattle.watch_rules.proofs.Pages.{own_pages, never_heard, latest_of_kind, latest_shown_lem, own_foreign}
use Rattle.watch_rules.proofs.Demand.{others_record}

abbrev limits : ℕ → PlainLimits
limits iface = record { voltage = 5000; charge = 1000; discharge = 500; silence = 500; sensor = 0; interface = iface }

-- newest first: a Charging_Loop and a New_Charge_Session of 001, and a New_Charge_Session of 000
abbrev night : List Request
night =
    frame 4 20 0x68005 true (0 ∷ 0 ∷ 0 ∷ 0 ∷ 0 ∷ []) ∷ frame 9 10 0x6b001 true (2 ∷ 1 ∷ []) ∷ frame 4 10 0x68001 true (2 ∷ 1 ∷ 0 ∷ 0 ∷ 0 ∷ 0 ∷ 0 ∷ 0 ∷ [])
    ∷ setUp 1 9 (limits 0) ∷ setUp 0 4 (limits 1) ∷ []

abbrev heard : History
heard = history.frame 20 older.charging_kind 0 ∷ history.frame 10 older.session_kind 258 ∷ []

first : 0 < post_count
first = ltb-true 0 post_count refl

computed : (standing 0 (accepted night) ≡ held 4 (limits 1) heard) × (earlier_in heard 30 ≡ false)
    × (standing 1 (accepted night) ≡ held 9 (limits 0) (history.frame 10 3 258 ∷ []))
unfolding standing find_from holder other_holds feed01 set_up01 feed_steps set_up_steps limits_fit accepted earlier_in since_finished opening in_session session_status session_stop f1 f2 f3 f4 f5 f6 f7 f8 f9 f10 f11 f12 findings01 role_of rows of_kind first_at covered unlabelled stray_below judged_number judge_on is_foreign judge_for wholes_of pad raws_of get_bits le_number to_signed
computed = (refl, refl, refl)

foreign : is_foreign Older 0x63000 true ≡ true
unfolding is_foreign rows first_at
foreign = refl

-- what post 0 heard is of the pages of 001
pub heard_own : OnPages Older heard
heard_own = subst OnOwn computed.0 (own_pages night 0 first)

-- the Charging_Loop in its place is the latest of its kind; of New_Charge_Session's kind in 000 nothing was heard, though 001's has its place
pub loop_latest : only_of older.charging_kind (newest (at_place (place_by older.charging_kind)) heard) ≡ some (said_at 20 older.charging_kind 0)
loop_latest = latest_of_kind Older heard heard_own older.charging_kind

pub none_of_000 : newest (history.of_kind 3) heard ≡ none
none_of_000 = never_heard Older heard heard_own 3 refl

-- 000's Power_Modules_Status gets 29 on it, of whatever length and content
pub status_29 : (bs : List ℕ) → reply (run night) (frame 4 30 0x63000 true bs) ≡ fed (Err OtherInterface)
status_29 bs = own_foreign night 0 4 (limits 1) heard first computed.0 30 0x63000 true bs foreign ∙ rw computed.1

-- what comes to post 1, of whatever pages, leaves the record of post 0 as it was, and the other way
pub older_untouched : (t m : ℕ) (x : Bool) (bs : List ℕ) → look_up_of (run (frame 9 t m x bs ∷ night)) 0 ≡ look_up_of (run night) 0
older_untouched t m x bs = others_record night (frame 9 t m x bs) 0 (ap (λ (s : Standing). holds_in s 9) computed.0)

pub newer_untouched : (t m : ℕ) (x : Bool) (bs : List ℕ) → look_up_of (run (frame 4 t m x bs ∷ night)) 1 ≡ look_up_of (run night) 1
newer_untouched t m x bs = others_record night (frame 4 t m x bs) 1 (ap (λ (s : Standing). holds_in s 4) computed.2)

-- the record shows the Charging_Loop in its place
pub loop_shown : (d : std.Option Dated) → get_or (look_up_of (run night) 0).shown.latest (place_by older.charging_kind) d ≡ dated_of 20 (some (said_at 20 older.charging_kind 0))
loop_shown = latest_shown_lem night 0 4 (limits 1) heard first computed.0 older.charging_kind (ltb-true older.charging_kind message_count refl) refl
