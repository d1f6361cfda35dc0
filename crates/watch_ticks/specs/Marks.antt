-- 02, Req 12: "in a list of one post's accepted events, put in or take out ticks". Such a list with marks: which of its ticks are put in,
-- and which events are kept. What is put in on one side is what is taken out on the other, so that two marked lists with the same kept events say both.
use Rattle.std.specs.Prelude.{ℕ, suc, ◌+◌, ◌≡◌, List, [], ◌∷◌, map, Bool}
use Rattle.std.proofs.Math.Option.{Option, none}
use Rattle.rule_limits.specs.declared.PlainLimits.{PlainLimits}
use Rattle.rule_asks.specs.Judgements.{bit}
use Rattle.rules.specs.History.{Event, frame, tick, History, Said}
use Rattle.rules.specs.Rules.{Rule, found, findings01}

-- newest first, as in a history; a kept event may be a tick too
pub data Mark : Type 0 where
  kept : Event → Mark
  extra : ℕ → Mark

-- the list with the ticks that are put in, and without them
abbrev pub whole : List Mark → History
whole [] = []
whole (kept e ∷ m) = e ∷ whole m
whole (extra t ∷ m) = tick t ∷ whole m

abbrev pub without : List Mark → History
without [] = []
without (kept e ∷ m) = e ∷ without m
without (extra t ∷ m) = without m

-- how many are put in, and of how many of them a rule finds something, each read over the whole list before it
abbrev pub extras : List Mark → ℕ
extras [] = 0
extras (kept e ∷ m) = extras m
extras (extra t ∷ m) = suc (extras m)

abbrev pub extras_found : Rule → PlainLimits → List Mark → ℕ
extras_found f lim [] = 0
extras_found f lim (kept e ∷ m) = extras_found f lim m
extras_found f lim (extra t ∷ m) = bit (f lim (whole m) (tick t)) 1 + extras_found f lim m

abbrev pub extras_by : List Rule → PlainLimits → List Mark → List ℕ
extras_by rs lim m = map (λ (f : Rule). extras_found f lim m) rs

-- of a list as long as the whole one, what stands at the places of the kept events
abbrev pub kept_of : {A : Type 0} → List Mark → List A → List A
kept_of [] l = []
kept_of (kept e ∷ m) [] = []
kept_of (kept e ∷ m) (x ∷ l) = x ∷ kept_of m l
kept_of (extra t ∷ m) [] = []
kept_of (extra t ∷ m) (x ∷ l) = kept_of m l

-- what rules find of each event of a history, over what came before it; and 01's findings
abbrev pub found_of : List Rule → PlainLimits → History → List (List Bool)
found_of rs lim [] = []
found_of rs lim (e ∷ h) = found rs lim h e ∷ found_of rs lim h

abbrev pub judged : PlainLimits → History → List ℕ
judged lim [] = []
judged lim (e ∷ h) = findings01 lim h e ∷ judged lim h

-- ---- what says nothing of ticks

-- the events but the ticks
abbrev pub frames : History → History
frames [] = []
frames (frame t k raw ∷ h) = frame t k raw ∷ frames h
frames (tick t ∷ h) = frames h

abbrev pub Tickless : (Event → Option Said) → Type 0
Tickless asked = (t : ℕ) → asked (tick t) ≡ none

-- a rule that reads no tick of the history before the event
abbrev pub ReadsFrames : Rule → Type 0
ReadsFrames f = (lim : PlainLimits) (h : History) (e : Event) → f lim (frames h) e ≡ f lim h e

abbrev pub Every : (Rule → Type 0) → List Rule → Type 0
Every P [] = Unit {0}
Every P (f ∷ rs) = P f × Every P rs
