-- Demand 3's theorems on a night: each premise holds there, and each says something.
-- Post 0 is charging on channel 4, post 1 stands idle on channel 9, and a third post, wired to channel 4 too, was refused.
use Rattle.std.specs.Prelude.{Ok, Err}
use Prim.Native.Nat.{ℕ, ◌<◌}
use native.Mathlib.Omega.{arith}
use borrow.Author.Tests.{ltb-true}
use lib.ListN.{get_or}
use mathlib.Core.Path.{◌≡◌, refl, ap, sym, ◌∙◌}
use mathlib.Core.Bool.{Bool, true, false}
use mathlib.Core.List.{List, [], ◌∷◌}
use Rattle.refusals.specs.declared.Refusal.TheVariants.{ChannelFree, ChannelTaken, TooShort}
use Rattle.page_table.specs.Table.{rows, of_kind, first_at, covered}
use Rattle.page_read.specs.Judge.{unlabelled, stray_below, judged_number, judge_on}
use Rattle.page_table.specs.declared.Interface.TheVariants.{Newer}
use Rattle.page_interfaces.specs.Foreign.{is_foreign, judge_for}
use Rattle.rule_pages.specs.Roles.{role_of}
use Rattle.rule_pages.specs.Said.{status_by, opening_by, limits_by, command_by}
use Rattle.page_write.specs.Raws.{wholes_of, pad, raws_of}
use Rattle.signal.specs.Signal.{get_bits}
use Rattle.payload.specs.Payload.{le_number}
use Rattle.signal.specs.Twos.{to_signed}
use Rattle.message_parts.specs.Parts.{status_in, parameters_in, session_in, control_in}
use Rattle.rule_limits.specs.declared.PlainLimits.{PlainLimits}
use Rattle.rules.specs.History.{History, since_finished, opening, in_session}
use Rattle.rules.specs.Times.{earlier_in}
use Rattle.rules.specs.History as history
use Rattle.rule_asks.specs.Judgements.{lowers_badly, outside, leaking, bad_insulation, differs}
use Rattle.rules.specs.Rules.{session_status, session_control, session_stop, limit_of, f1, f2, f3, f4, f5, f6, f7, f8, f9, f10, f11, f12, findings01}
use Rattle.rules.specs.declared.Post.{Post}
use Rattle.rules.specs.Record.{is_set, record_of}
use Rattle.rules.proofs.Look.{used_look}
use Rattle.watch_rules.specs.Table.{post_count, no_post, post_in, one_refused, look_up_of}
use Rattle.rule_limits.specs.Limits.{limits_fit}
use Rattle.watch_rules.specs.Steps.{free, held, standing, own_of, kept_post, holds_in, find_from, holder, other_holds, feed01, set_up01, release01, look_up01, feed_steps, set_up_steps, release_steps}
use Rattle.watch_rules.specs.Run.{Request, setUp, release, frame, tick, set, fed, reply, run, accepted, is_refusal, Unheld}
use Rattle.watch_rules.proofs.Standings.{holder_is}
use Rattle.watch_rules.proofs.Demand.{run_kept, every_answer, every_record, one_holder, one_place, own_tick, own_frame, own_unread, refused_nothing, others_record, nobody_holds, alike_record, alike_release, alike_arrival, alike_set_up, alike_channels, counted_set_up, counted_release, counted_tick, counted_frame}
use Rattle.watch_rules.proofs.Own.{own_record, own_released, own_arrival}
use Rattle.watch_rules.proofs.Placed.{post_at}

abbrev limits : PlainLimits
limits = record { voltage = 5000; charge = 1000; discharge = 500; silence = 500; sensor = 0; interface = 0 }

-- newest first
abbrev alone : List Request
alone = frame 4 0 0x6b001 true (2 ∷ 1 ∷ []) ∷ setUp 0 4 limits ∷ []

abbrev night : List Request
night = tick 9 700 ∷ setUp 2 4 limits ∷ frame 4 0 0x6b001 true (2 ∷ 1 ∷ []) ∷ setUp 1 9 limits ∷ setUp 0 4 limits ∷ []

abbrev heard : History
heard = history.frame 0 3 258 ∷ []

-- Power_Modules_Status: no voltage, no current, 25 °C, Allowed, and its payload number
abbrev status : List ℕ
status = 0 ∷ 0 ∷ 0 ∷ 0 ∷ 65 ∷ 65 ∷ 1 ∷ 255 ∷ []

abbrev allowed : ℕ
allowed = 18375039702077014016

first : 0 < post_count
first = ltb-true 0 post_count refl

-- what the premises ask of the night, and what 01's rules give there, by computing
computed : (standing 0 (accepted night) ≡ held 4 limits heard) × (standing 0 (accepted alone) ≡ held 4 limits heard) × (holds_in (standing 1 (accepted night)) 4 ≡ false)
    × (earlier_in heard 501 ≡ false) × (findings01 limits heard (history.tick 501) ≡ 1) × (findings01 limits heard (history.tick 500) ≡ 0) × (earlier_in heard 500 ≡ false)
    × (judge_for Newer 0x6b001 true (2 ∷ []) ≡ Err TooShort) × (set_up01 (accepted night) 2 4 limits ≡ Err ChannelTaken) × (holder (accepted night) 5 ≡ post_count)
    × (judge_for Newer 0x63000 true status ≡ Ok (0, allowed)) × (findings01 limits heard (history.frame 501 0 allowed) ≡ 1)
    × (other_holds (accepted night) 2 4 0 post_count ≡ other_holds (accepted alone) 2 4 0 post_count) × (look_up01 (accepted night) 0 ≡ record { answer = Ok tt; shown = record_of 4 limits heard })
    × (holder (accepted alone) 5 ≡ post_count) × (set_up01 (accepted night) 3 5 limits ≡ Ok tt) × (release01 (accepted night) 1 ≡ Ok tt) × (own_of 0 (accepted night) ≡ own_of 0 (accepted alone))
unfolding standing find_from holder other_holds feed01 set_up01 release01 look_up01 feed_steps set_up_steps release_steps limits_fit accepted since_finished opening in_session earlier_in lowers_badly outside leaking bad_insulation differs session_status session_control session_stop limit_of f1 f2 f3 f4 f5 f6 f7 f8 f9 f10 f11 f12 findings01 rows of_kind first_at covered unlabelled stray_below judged_number judge_on is_foreign judge_for role_of status_by opening_by limits_by command_by wholes_of pad raws_of get_bits le_number to_signed status_in parameters_in session_in control_in
computed = (refl, refl, refl, refl, refl, refl, refl, refl, refl, refl, refl, refl, refl, refl, refl, refl, refl, refl)

abbrev own : standing 0 (accepted night) ≡ held 4 limits heard
own = computed.0

-- a channel that the search does not find
unheld_in : (rs : List Request) (c : ℕ) → holder (accepted rs) c ≡ post_count → Unheld (accepted rs) c
unheld_in rs c none i h = go (holds_in (standing i (accepted rs)) c) refl
  where
    go : (b : Bool) → holds_in (standing i (accepted rs)) c ≡ b → b ≡ false
    go false e = refl
    go true e =
        let past : post_count ≡ i = sym none ∙ holder_is (accepted rs) (one_holder rs) i c h e in
        absurd (let z : ⊥ = omega arith in z)

unheld : Unheld (accepted night) 5
unheld = unheld_in night 5 computed.9

-- F1 on a tick 501 ms after the opening, and not after 500
pub tick_501 : reply (run night) (tick 4 501) ≡ fed (Ok 1)
tick_501 = own_tick night 0 4 limits heard first own 501 ∙ rw (computed.3, computed.4)

pub tick_500 : reply (run night) (tick 4 500) ≡ fed (Ok 0)
tick_500 = own_tick night 0 4 limits heard first own 500 ∙ rw (computed.6, computed.5)

-- and so on a Power_Modules_Status
pub late_status : reply (run night) (frame 4 501 0x63000 true status) ≡ fed (Ok 1)
late_status = own_frame night 0 4 limits heard first own 501 0x63000 true status 0 allowed computed.10 ∙ rw (computed.3, computed.11)

-- a frame of one byte too few
pub short : reply (run night) (frame 4 501 0x6b001 true (2 ∷ [])) ≡ fed (Err TooShort)
short = own_unread night 0 4 limits heard first own 501 0x6b001 true (2 ∷ []) TooShort computed.7 ∙ rw computed.3

-- the tick counts for post 0 and leaves post 1's record as it was
pub counted : standing 0 (accepted (tick 4 501 ∷ night)) ≡ held 4 limits (history.tick 501 ∷ heard)
counted = counted_tick night 0 4 limits heard own 501 1 tick_501

pub neighbour : look_up_of (run (tick 4 501 ∷ night)) 1 ≡ look_up_of (run night) 1
neighbour = others_record night (tick 4 501) 1 computed.2

-- nobody holds channel 5
pub nobody : (reply (run night) (tick 5 0) ≡ fed (Err ChannelFree)) × (run (tick 5 0 ∷ night) ≡ one_refused (run night))
nobody = nobody_holds night 5 unheld (tick 5 0) refl

-- the third post is refused again, and nothing changes
pub twin : reply (run night) (setUp 2 4 limits) ≡ set (Err ChannelTaken)
twin = every_answer night (setUp 2 4 limits) ∙ ap set computed.8

pub twin_nothing : (run (setUp 2 4 limits ∷ night) ≡ run night) × (accepted (setUp 2 4 limits ∷ night) ≡ accepted night)
twin_nothing = refused_nothing night (setUp 2 4 limits) (ap is_refusal twin)

-- post 0 answers, and has its record, as if it were alone
pub as_alone : reply (run night) (tick 4 501) ≡ reply (run alone) (tick 4 501)
as_alone = alike_arrival night alone 0 (own ∙ sym computed.1) first 4 (rw own) (tick 4 501) refl

pub record_as_alone : look_up_of (run night) 0 ≡ look_up_of (run alone) 0
record_as_alone = alike_record night alone 0 (own ∙ sym computed.1)

pub twin_as_alone : reply (run night) (setUp 2 4 limits) ≡ reply (run alone) (setUp 2 4 limits)
twin_as_alone = alike_set_up night alone 2 4 computed.12 limits

-- and the record is that of its own history
pub record_0 : look_up_of (run night) 0 ≡ record { answer = Ok tt; shown = record_of 4 limits heard }
record_0 = every_record night 0 ∙ computed.13

-- ---- what a set-up, a release and a frame add to a post's standing

pub counted_3 : standing 3 (accepted (setUp 3 5 limits ∷ night)) ≡ held 5 limits []
counted_3 = counted_set_up night 3 5 limits (every_answer night (setUp 3 5 limits) ∙ ap set computed.15)

pub released_1 : standing 1 (accepted (release 1 ∷ night)) ≡ free
released_1 = counted_release night 1 (every_answer night (release 1) ∙ ap set computed.16)

pub counted_status : standing 0 (accepted (frame 4 501 0x63000 true status ∷ night)) ≡ held 4 limits (history.frame 501 0 allowed ∷ heard)
counted_status = counted_frame night 0 4 limits heard own 501 1 0x63000 true status 0 allowed computed.10 late_status

-- ---- the answers about post 0 hang on its own accepted steps alone, which are those of the run in which it is alone

pub record_by_own : look_up_of (run night) 0 ≡ look_up_of (run alone) 0
record_by_own = own_record night alone 0 computed.17

pub release_by_own : reply (run night) (release 0) ≡ reply (run alone) (release 0)
release_by_own = own_released night alone 0 computed.17

pub tick_by_own : reply (run night) (tick 4 501) ≡ reply (run alone) (tick 4 501)
tick_by_own = own_arrival night alone 0 computed.17 first 4 (rw own) (tick 4 501) refl

pub release_as_alone : reply (run night) (release 0) ≡ reply (run alone) (release 0)
release_as_alone = alike_release night alone 0 (own ∙ sym computed.1)

-- a set-up on a channel that nobody holds after either run
pub free_as_alone : reply (run night) (setUp 2 5 limits) ≡ reply (run alone) (setUp 2 5 limits)
free_as_alone = alike_channels night alone 2 5 (λ j h ne. unheld j h ∙ sym (unheld_in alone 5 computed.14 j h)) limits

-- no other post of the table is on the channel of post 0
used_0 : is_set (post_in (run night) 0).head.used ≡ true
used_0 =
    ap (λ (p : Post). is_set p.head.used) (ap (λ (ps : List Post). get_or ps 0 no_post) (run_kept night).posts ∙ post_at (accepted night) 0 first ∙ ap kept_post own)
    ∙ ap is_set (used_look 4 limits heard)

pub only_0 : (j : ℕ) → j < post_count → is_set (post_in (run night) j).head.used ≡ true → (post_in (run night) j).head.channel ≡ (post_in (run night) 0).head.channel → j ≡ 0
only_0 j h used same = one_place night j 0 h first used used_0 same
