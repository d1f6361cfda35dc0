-- What a step of a post is to be, said of the history that the post stands for: the second promise of the functions that step a post and hand out its record.
use Rattle.std.specs.Prelude.{ℕ, ◌≡◌, ◌∷◌, false}
use Rattle.rule_limits.specs.declared.PlainLimits.{PlainLimits}
use Rattle.rules.specs.declared.Head.{Head}
use Rattle.rules.specs.declared.Post.{Post}
use Rattle.rules.specs.declared.AfterEvent.{AfterEvent}
use Rattle.rules.specs.declared.Record.{Record}
use Rattle.rules.specs.History.{Event, frame, tick, History}
use Rattle.rules.specs.Times.{stamp_of, Unrolled}
use Rattle.rules.specs.Rules.{findings01}
use Rattle.rules.specs.Counts.{is_full}
use Rattle.rules.specs.Record.{head_of, post_of, record_of}
use Rattle.rules.specs.After.{stored}

-- an event that is received at t, over the history before it
abbrev pub tick_at : ℕ → History → Event
tick_at t h = tick (stamp_of h t)

abbrev pub frame_at : ℕ → ℕ → ℕ → History → Event
frame_at t k raw h = frame (stamp_of h t) k raw

-- the findings are 01's over the history before the event, and the post with what the step leaves stands for the history with it
pub record After01 (c : ℕ) (lim : PlainLimits) (h : History) (e : Event) (r : AfterEvent) : Type 0 where
  pub findings : r.findings ≡ findings01 lim h e
  pub head : r.head ≡ head_of c lim (e ∷ h)
  pub post : stored (post_of c lim h) r.head r.at r.slot ≡ post_of c lim (e ∷ h)

-- of a head that stands for some history of accepted events, which has room for one event more
abbrev pub AfterRight : Head → (History → Event) → AfterEvent → Type 0
AfterRight p e r = (c : ℕ) (lim : PlainLimits) (h : History) → p ≡ head_of c lim h → Unrolled h → is_full h ≡ false → After01 c lim h (e h) r

-- of a post that stands for some history
abbrev pub RecordRight : Post → Record → Type 0
RecordRight p r = (c : ℕ) (lim : PlainLimits) (h : History) → p ≡ post_of c lim h → r ≡ record_of c lim h
