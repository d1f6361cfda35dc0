-- The counts at their largest: a post that was ticked 4,294,967,295 times gets 25, and a table that has refused as many ticks counts no further.
use Rattle.std.specs.Prelude.{Ok, Err}
use Prim.Native.Nat.{ℕ, zero, suc, ◌+◌, ◌≤◌, ◌<◌}
use native.Mathlib.Omega.{arith}
use mathlib.Core.Path.{◌≡◌, refl, ap, ◌∙◌}
use mathlib.Core.List.{List, [], ◌∷◌}
use mathlib.Core.Bool.{true, false}
use borrow.Author.Tests.{ltb-true, le-leb, lt-leb}
use lib.ListN.{length}
use Rattle.refusals.specs.declared.Refusal.TheVariants.{ChannelFree, CountFull}
use Rattle.page_table.specs.Table.{rows, of_kind, first_at, covered}
use Rattle.page_read.specs.Judge.{unlabelled, stray_below, judged_number, judge_on}
use Rattle.page_table.specs.declared.Interface.TheVariants.{Newer}
use Rattle.page_interfaces.specs.Foreign.{is_foreign, judge_for}
use Rattle.rule_pages.specs.Roles.{role_of}
use Rattle.rule_pages.specs.Said.{status_by, opening_by, limits_by, command_by}
use Rattle.page_write.specs.Raws.{wholes_of, pad, raws_of}
use Rattle.signal.specs.Signal.{get_bits}
use Rattle.payload.specs.Payload.{le_number}
use Rattle.signal.specs.Twos.{to_signed}
use Rattle.rule_limits.specs.declared.PlainLimits.{PlainLimits}
use Rattle.rule_limits.specs.Limits.{limits_fit}
use Rattle.rules.specs.History.{History}
use Rattle.rules.specs.Times.{earlier_in, stamp_of}
use Rattle.rules.specs.Right.{tick_at}
use Rattle.rules.specs.History as history
use Rattle.rules.specs.Rules.{findings01}
use Rattle.rules.specs.Counts.{largest, is_full}
use Rattle.watch_rules.specs.Table.{post_count}
use Rattle.watch_rules.specs.Steps.{held, standing, find_from, holder, other_holds, feed01, set_up01, feed_steps, set_up_steps}
use Rattle.watch_rules.specs.Run.{Request, setUp, frame, tick, fed, reply, run, reply01, accepted, is_refusal, handed_in, refused_ever, accepted_ever}
use Rattle.watch_rules.proofs.Demand.{own_tick, counted_tick, full_tick, full_frame, refused_nothing}
use Rattle.watch_rules.proofs.Handed.{refused_counted, handed_in_lem}

abbrev limits : PlainLimits
limits = record { voltage = 5000; charge = 1000; discharge = 500; silence = 500; sensor = 0; interface = 0 }

first : 0 < post_count
first = ltb-true 0 post_count refl

-- ---- post 0 is set up on channel 4, and ticked n times at time 0

abbrev ticked : ℕ → List Request
ticked zero = setUp 0 4 limits ∷ []
ticked (suc n) = tick 4 0 ∷ ticked n

abbrev ticks : ℕ → History
ticks zero = []
ticks (suc n) = history.tick 0 ∷ ticks n

as_many : (n : ℕ) → length (ticks n) ≡ n
as_many zero = refl
as_many (suc n) = ap suc (as_many n)

in_time : (n : ℕ) → earlier_in (ticks n) 0 ≡ false
unfolding earlier_in
in_time zero = refl
in_time (suc n) = refl

at_0 : (n : ℕ) → stamp_of (ticks n) 0 ≡ 0
at_0 zero = refl
at_0 (suc n) = refl

begun : standing 0 (accepted (ticked 0)) ≡ held 4 limits []
unfolding accepted set_up_steps set_up01 other_holds standing limits_fit
begun = refl

stands : (n : ℕ) → n ≤ largest → standing 0 (accepted (ticked n)) ≡ held 4 limits (ticks n)
stands zero le = begun
stands (suc n) le =
    let own = stands n (omega arith) in
    let room : is_full (ticks n) ≡ false = lt-leb largest (length (ticks n)) (omega (arith, as_many n)) in
    counted_tick (ticked n) 0 4 limits (ticks n) own 0 (findings01 limits (ticks n) (tick_at 0 (ticks n)))
    (own_tick (ticked n) 0 4 limits (ticks n) first own 0 ∙ rw (in_time n, room)) ∙ rw (at_0 n)

-- the next tick is refused with 25, and no history grows
pub tick_25 : (n : ℕ) → n ≡ largest → (reply (run (ticked n)) (tick 4 0) ≡ fed (Err CountFull)) × (accepted (tick 4 0 ∷ ticked n) ≡ accepted (ticked n))
tick_25 n e =
    let full : is_full (ticks n) ≡ true = le-leb largest (length (ticks n)) (omega (arith, as_many n, e)) in
    let z : reply (run (ticked n)) (tick 4 0) ≡ fed (Err CountFull) = full_tick (ticked n) 0 4 limits (ticks n) first (stands n (omega (arith, e))) 0 (in_time n) full in
    (z, (refused_nothing (ticked n) (tick 4 0) (ap is_refusal z)).1)

-- and so is a frame
readable : judge_for Newer 0x6b001 true (2 ∷ 1 ∷ []) ≡ Ok (3, 258)
unfolding rows of_kind first_at covered unlabelled stray_below judged_number judge_on is_foreign judge_for role_of status_by opening_by limits_by command_by wholes_of pad raws_of get_bits le_number to_signed
readable = refl

pub frame_25 : (n : ℕ) → n ≡ largest → reply (run (ticked n)) (frame 4 0 0x6b001 true (2 ∷ 1 ∷ [])) ≡ fed (Err CountFull)
frame_25 n e =
    let full : is_full (ticks n) ≡ true = le-leb largest (length (ticks n)) (omega (arith, as_many n, e)) in
    full_frame (ticked n) 0 4 limits (ticks n) first (stands n (omega (arith, e))) 0 0x6b001 true (2 ∷ 1 ∷ []) 3 258 readable (in_time n) full

-- ---- an empty table is ticked n times

abbrev turned : ℕ → List Request
turned zero = []
turned (suc n) = tick 4 0 ∷ turned n

nobody : reply01 [] (tick 4 0) ≡ fed (Err ChannelFree)
unfolding feed01 find_from holder standing
nobody = refl

none_accepted : (n : ℕ) → accepted (turned n) ≡ []
unfolding accepted feed_steps feed01 find_from holder standing
none_accepted zero = refl
none_accepted (suc n) = rw (none_accepted n)

all_refused : (n : ℕ) → refused_ever (turned n) ≡ n
all_refused zero = refl
all_refused (suc n) = rw (none_accepted n, nobody) (omega (arith, all_refused n))

-- the count stays where it is
pub stays_largest : (n : ℕ) → largest ≤ n → (run (turned n)).refused ≡ largest
stays_largest n le = refused_counted (turned n) ∙ omega (arith, all_refused n, le)

-- while one was refused, what was handed in is what was accepted and refused
pub one_handed : accepted_ever (turned 1) + (run (turned 1)).refused ≡ handed_in (turned 1)
one_handed = handed_in_lem (turned 1) (omega (arith, all_refused 1))
