-- The laws of a channel's holder on a night: post 3 stands on channel 4, post 0 on channel 9, and nobody holds channel 5. Each premise holds there.
use Prim.Native.Nat.{◌<◌, ◌≤◌}
use native.Mathlib.Omega.{arith}
use mathlib.Core.Path.{◌≡◌, refl, ◌∙◌}
use mathlib.Core.Bool.{true}
use mathlib.Core.List.{List, [], ◌∷◌}
use lib.ListN.{get_or}
use borrow.Author.Tests.{ltb-true}
use Rattle.refusals.specs.declared.Refusal.TheVariants.{ChannelFree}
use Rattle.rule_limits.specs.declared.PlainLimits.{PlainLimits}
use Rattle.rule_limits.specs.Limits.{limits_fit}
use Rattle.watch_rules.specs.Table.{post_count, holds, place_of, post_in, refused, feed_at, feed_of, ticking, is_other, set_up_of}
use Rattle.watch_rules.specs.Steps.{held, standing, find_from, holder, other_holds, answer_in, set_up01, set_up_steps}
use Rattle.watch_rules.specs.Run.{Request, setUp, run, accepted}
use Rattle.watch_rules.proofs.Demand.{run_kept}
use Rattle.plain_words.specs.Words.{refusal_word}
use Rattle.lent_holder.specs.Holder.{holder_word, holder01}
use Rattle.lent_holder.proofs.HolderLaws.{some_holder, named_holder, no_holder, goes_to, goes_nowhere, holder_right, holder_stands, stands_on, answers}

abbrev limits : PlainLimits
limits = record { voltage = 5000; charge = 1000; discharge = 500; silence = 500; sensor = 0; interface = 0 }

abbrev night : List Request
night = setUp 0 9 limits ∷ setUp 3 4 limits ∷ []

computed : (standing 3 (accepted night) ≡ held 4 limits []) × (holder01 (accepted night) 5 ≡ refusal_word ChannelFree)
unfolding standing find_from holder other_holds set_up01 set_up_steps limits_fit accepted holder01
computed = (refl, refl)

third : 3 < post_count
third = ltb-true 3 post_count refl

-- post 3 is the answer for channel 4
pub post_3 : holder_word (run night) 4 ≡ 3
post_3 = holder_stands (run night) (accepted night) (run_kept night) 4 3 limits [] third computed.0

small : holder_word (run night) 4 < 65536
small = rw post_3 (omega arith)

-- and it holds the channel in the table, and is the one that the index names
pub holds_4 : holds (post_in (run night) 3).head 4 ≡ true
holds_4 = rw post_3 at (some_holder (run night) 4 small).2

named : get_or (run night).index 4 0 ≡ 4
unfolding run set_up_of is_other place_of limits_fit
named = refl

pub named_4 : holder_word (run night) 4 ≡ 3
named_4 = named_holder (run night) 4 3 third refl named holds_4

-- a tick on channel 4 goes to it, and is answered by 01's rules over its own history
pub tick_4 : feed_of (run night) 4 100 ticking ≡ feed_at (run night) 3 4 100 ticking
tick_4 = rw post_3 at (goes_to (run night) 4 small 100 ticking)

pub answer_4 : (feed_of (run night) 4 100 ticking).answer ≡ answer_in (held 4 limits []) 100 ticking
answer_4 = answers (run night) (accepted night) (run_kept night) 4 3 limits [] third computed.0 100 ticking

pub stands_4 : holder_word (run night) 4 < post_count
stands_4 = (stands_on (run night) (accepted night) (run_kept night) 4 small).0

-- nobody is the answer for channel 5, and nothing comes to anybody on it
free_5 : 65536 ≤ holder_word (run night) 5
free_5 = rw (holder_right (run night) (accepted night) (run_kept night) 5 ∙ computed.1) (omega arith)

pub nobody_5 : holder_word (run night) 5 ≡ refusal_word ChannelFree
nobody_5 = no_holder (run night) 5 free_5

pub nowhere_5 : feed_of (run night) 5 100 ticking ≡ refused (run night) ChannelFree
nowhere_5 = goes_nowhere (run night) 5 free_5 100 ticking
