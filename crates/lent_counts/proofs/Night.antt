-- The laws of the counts on a night: post 0 on channel 4 opens a session, hears another protocol in it (finding 10), and then nothing for a second
-- (finding 1); a tick that comes too early and one on channel 9, which nobody holds, are refused. Each premise holds there.
use Rattle.std.specs.Prelude.{Ok}
use Prim.Native.Nat.{ℕ, ◌+◌, ◌<◌, ◌≤◌}
use native.Mathlib.Omega.{arith}
use mathlib.Core.Path.{◌≡◌, refl, sym, ap, ◌∙◌, subst}
use mathlib.Core.Bool.{true}
use mathlib.Core.List.{List, [], ◌∷◌, ◌++◌}
use lib.ListN.{drop, replicate}
use borrow.Author.Tests.{ltb-true, leb-true}
use Rattle.payload.specs.Payload.{le_number}
use Rattle.signal.specs.Signal.{get_bits}
use Rattle.signal.specs.Twos.{to_signed}
use Rattle.page_table.specs.Table.{rows, of_kind, first_at, covered}
use Rattle.page_read.specs.Judge.{unlabelled, stray_below, judged_number, judge_on}
use Rattle.page_interfaces.specs.Foreign.{is_foreign, judge_for}
use Rattle.page_write.specs.Raws.{wholes_of, pad, raws_of}
use Rattle.message_parts.specs.Parts.{status_in, parameters_in, session_in, control_in}
use Rattle.rule_pages.specs.Roles.{role_of}
use Rattle.rule_pages.specs.Said.{status_by, limits_by, opening_by, command_by}
use Rattle.rule_limits.specs.declared.PlainLimits.{PlainLimits}
use Rattle.rule_limits.specs.Limits.{limits_fit}
use Rattle.rule_asks.specs.Judgements.{lowers_badly, outside, leaking, bad_insulation, differs}
use Rattle.rules.specs.History.{History, since_finished, opening, in_session}
use Rattle.rules.specs.Times.{earlier_in}
use Rattle.rules.specs.History as history
use Rattle.rules.specs.Rules.{session_status, session_control, session_stop, limit_of, f1, f2, f3, f4, f5, f6, f7, f8, f9, f10, f11, f12, findings01}
use Rattle.rules.specs.Counts.{tallies_of, counts_of}
use Rattle.rules.specs.After.{count_count}
use Rattle.watch_rules.specs.declared.LookedUp.{LookedUp}
use Rattle.watch_rules.specs.Table.{post_count, look_up_of}
use Rattle.watch_rules.specs.Steps.{held, standing, find_from, holder, other_holds, feed01, set_up01, look_up01, feed_steps, set_up_steps}
use Rattle.watch_rules.specs.Run.{Request, setUp, frame, tick, run, accepted, handed_in, refused_ever, accepted_ever}
use Rattle.watch_rules.proofs.Demand.{every_record}
use Rattle.lent_numbers.specs.LookUp.{look_up_word, numbers_after}
use Rattle.lent_numbers.proofs.LookLaws.{look_up_refused}
use Rattle.lent_counts.specs.Counts.{counts_word, counts_after, refused_in}
use Rattle.lent_counts.proofs.CountLaws.{counts_refused, counts_kept, counts_of_run, refused_of_run, accounted}

abbrev limits : PlainLimits
limits = record { voltage = 5000; charge = 1000; discharge = 500; silence = 500; sensor = 0; interface = 0 }

-- newest first
abbrev night : List Request
night = tick 9 2000 ∷ tick 4 5 ∷ tick 4 1000 ∷ frame 4 10 0x6b001 true (1 ∷ 1 ∷ []) ∷ frame 4 0 0x6b001 true (2 ∷ 1 ∷ []) ∷ setUp 0 4 limits ∷ []

abbrev heard : History
heard = history.tick 1000 ∷ history.frame 10 3 257 ∷ history.frame 0 3 258 ∷ []

-- three were accepted; finding 1 once, and finding 10 once
abbrev counts : List ℕ
counts = 3 ∷ 1 ∷ 0 ∷ 0 ∷ 0 ∷ 0 ∷ 0 ∷ 0 ∷ 0 ∷ 0 ∷ 1 ∷ 0 ∷ 0 ∷ []

computed : (standing 0 (accepted night) ≡ held 4 limits heard) × (counts_of limits heard ≡ counts) × (refused_ever night ≡ 2) × ((look_up01 (accepted night) 0).answer ≡ Ok tt)
    × (accepted_ever night ≡ 3) × (handed_in night ≡ 5)
unfolding standing find_from holder other_holds feed01 set_up01 look_up01 feed_steps set_up_steps limits_fit accepted since_finished opening in_session earlier_in lowers_badly outside leaking bad_insulation differs session_status session_control session_stop limit_of f1 f2 f3 f4 f5 f6 f7 f8 f9 f10 f11 f12 findings01 tallies_of rows of_kind first_at covered unlabelled stray_below judged_number judge_on is_foreign judge_for wholes_of pad raws_of get_bits le_number to_signed role_of status_by limits_by opening_by command_by status_in parameters_in session_in control_in
computed = (refl, refl, refl, refl, refl, refl)

first : 0 < post_count
first = ltb-true 0 post_count refl

-- thirteen places and two more, all 7
abbrev places : List ℕ
places = replicate 15 7

-- the counts come over the first thirteen
pub night_counts : (counts_word (run night) 0 places ≡ 0) × (counts_after (run night) 0 places ≡ counts ++ (7 ∷ 7 ∷ []))
night_counts =
    let z = counts_of_run night 0 4 limits heard first computed.0 places (leb-true count_count 15 refl) in
    (z.0, z.1 ∙ ap (λ (cs : List ℕ). cs ++ (7 ∷ 7 ∷ [])) computed.1)

pub night_behind : drop count_count (counts_after (run night) 0 places) ≡ 7 ∷ 7 ∷ []
night_behind = counts_kept (run night) 0 places

-- two were refused: three accepted and two refused are the five that were handed in
pub night_refused : refused_in (run night) ≡ 2
night_refused = refused_of_run night ∙ omega (arith, computed.2)

pub night_accounted : 3 + refused_in (run night) ≡ 5
night_accounted = omega (arith, accounted night (omega (arith, computed.2)), computed.4, computed.5)

-- twelve places are too few: 8, and nothing changes
answered : (look_up_of (run night) 0).answer ≡ Ok tt
answered = ap (λ (x : LookedUp). x.answer) (every_record night 0) ∙ computed.3

twelve : counts_word (run night) 0 (replicate 12 7) ≡ 65544
unfolding counts_word
twelve = rw answered

pub night_short : counts_after (run night) 0 (replicate 12 7) ≡ replicate 12 7
night_short = counts_refused (run night) 0 (replicate 12 7) (subst (λ (a : ℕ). 65536 ≤ a) (sym twelve) (omega arith))

-- and so for the post's numbers
no_number : look_up_word (run night) 0 (replicate 12 7) ≡ 65544
unfolding look_up_word
no_number = rw answered

pub night_numbers : numbers_after (run night) 0 (replicate 12 7) ≡ replicate 12 7
night_numbers = look_up_refused (run night) 0 (replicate 12 7) (subst (λ (a : ℕ). 65536 ≤ a) (sym no_number) (omega arith))
