-- 02, Req 08: "Keep in each post's record eleven counts, one per finding, and the count of accepted frames and ticks since set-up, each 32 bits.
-- Every operation keeps them equal to the count over that post's history". Req 14: "F12 has its own tally."
use Rattle.std.specs.Prelude.{ℕ, ◌+◌, List, [], ◌∷◌, map, Bool, leb, length}
use Rattle.rule_limits.specs.declared.PlainLimits.{PlainLimits}
use Rattle.rule_asks.specs.Judgements.{bit}
use Rattle.rules.specs.History.{History}
use Rattle.rules.specs.Rules.{Rule, rules01}

-- the events of a history of which a rule finds something, each read afresh over what came before it
abbrev pub times_found : Rule → PlainLimits → History → ℕ
times_found f lim [] = 0
times_found f lim (e ∷ h) = bit (f lim h e) 1 + times_found f lim h

abbrev pub tallies_by : List Rule → PlainLimits → History → List ℕ
tallies_by rs lim h = map (λ (f : Rule). times_found f lim h) rs

-- finding 1 first
unfoldable pub tallies_of : PlainLimits → History → List ℕ
tallies_of lim h = tallies_by rules01 lim h

-- the accepted frames and ticks, and the tallies
abbrev pub counts_of : PlainLimits → History → List ℕ
counts_of lim h = length h ∷ tallies_of lim h

abbrev pub largest : ℕ
largest = 4294967295

-- one event more "would take its post's count past the largest"
abbrev pub is_full : History → Bool
is_full h = leb largest (length h)
