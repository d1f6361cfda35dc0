-- What one post answers whose clock is moved is what it answered, and the event that it accepts stands where the moved clock puts it.
use Rattle.std.specs.Prelude.{Err}
use Prim.Native.Nat.{ℕ}
use mathlib.Core.Path.{◌≡◌, refl, sym, ap}
use mathlib.Core.List.{◌∷◌}
use mathlib.Core.Bool.{Bool, true, false, cond}
use Rattle.refusals.specs.declared.Refusal.TheVariants.{Earlier}
use Rattle.rule_limits.specs.declared.PlainLimits.{PlainLimits}
use Rattle.rules.specs.History as history
use Rattle.rules.specs.History.{History}
use Rattle.rules.specs.Times.{earlier_in, Unrolled}
use Rattle.rules.proofs.Unrolled.{unrolled_next}
use Rattle.watch_rules.specs.declared.Arrival.{Arrival}
use Rattle.watch_rules.specs.declared.Arrival.TheVariants.{Tick, Frame, Unread}
use Rattle.watch_rules.specs.Table.{Arriving}
use Rattle.watch_rules.specs.Steps.{held, counted01, found01, answer_in, event_in}
use Rattle.watch_clock.specs.Moved.{on_clock, moved}
use Rattle.watch_clock.proofs.Moved.{moved_event, earlier_moved, full_moved, findings_moved, stamp_moved}

module _ (d : ℕ) (h : History) where
  pub event_moved : (t : ℕ) (a : Arrival) → event_in (moved d h) (on_clock d t) a ≡ moved_event d h (event_in h t a)
  event_moved t Tick = ap history.tick (sym (stamp_moved d h t))
  event_moved t (Frame k n) = ap (λ (s : ℕ). history.frame s k n) (sym (stamp_moved d h t))
  event_moved t (Unread w) = ap history.tick (sym (stamp_moved d h t))

  module _ (un : Unrolled h) (lim : PlainLimits) (t : ℕ) (in_time : earlier_in h t ≡ false) where
    un-next : (a : Arrival) → Unrolled (event_in h t a ∷ h)
    un-next Tick = unrolled_next h (event_in h t Tick) t refl in_time un
    un-next (Frame k n) = unrolled_next h (event_in h t (Frame k n)) t refl in_time un
    un-next (Unread w) = unrolled_next h (event_in h t (Unread w)) t refl in_time un

    counted-moved : (a : Arrival) → counted01 lim (moved d h) (event_in (moved d h) (on_clock d t) a) ≡ counted01 lim h (event_in h t a)
    counted-moved a = rw (full_moved d h, event_moved t a, findings_moved d lim h (event_in h t a) (un-next a))

    found-moved : (a : Arrival) → found01 lim (moved d h) (on_clock d t) a ≡ found01 lim h t a
    found-moved Tick = counted-moved Tick
    found-moved (Frame k n) = counted-moved (Frame k n)
    found-moved (Unread w) = refl

  pub answer_moved : Unrolled h → (c : ℕ) (lim : PlainLimits) (t : ℕ) (a : Arriving) → answer_in (held c lim (moved d h)) (on_clock d t) a ≡ answer_in (held c lim h) t a
  answer_moved un c lim t a = rw (earlier_moved d h t) (go (earlier_in h t) refl)
    where
      go : (b : Bool) → earlier_in h t ≡ b → cond b (Err Earlier) (found01 lim (moved d h) (on_clock d t) (a lim)) ≡ cond b (Err Earlier) (found01 lim h t (a lim))
      go true early = refl
      go false early = found-moved un lim t early (a lim)
