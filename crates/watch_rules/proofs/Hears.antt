-- A post that stands for a history hears what 01's rules give over it, and stands for the history with what it accepts.
use Prim.Native.Nat.{ℕ}
use mathlib.Core.Path.{◌≡◌, refl, ap, sym, subst, ◌∙◌}
use mathlib.Core.Bool.{Bool, true, false, cond, ◌&&◌}
use lib.Dec.{eqb}
use Rattle.refusals.specs.declared.Refusal.TheVariants.{ChannelFree, Earlier}
use Rattle.rule_limits.specs.declared.PlainLimits.{PlainLimits}
use Rattle.rules.specs.declared.Head.{Head}
use Rattle.rules.specs.History.{History}
use Rattle.rules.specs.Times.{earlier_in, stamp_of, Unrolled}
use Rattle.rules.specs.Counts.{is_full}
use Rattle.rules.specs.Record.{head_of}
use Rattle.rules.specs.After.{is_early}
use Rattle.rules.proofs.Look.{used_look, channel_look, early_look, full_look, tick_look, frame_look, stored_tick, stored_frame, stored_still}
use Rattle.watch_rules.specs.declared.Heard.{Heard}
use Rattle.watch_rules.specs.declared.Arrival.{Arrival}
use Rattle.watch_rules.specs.declared.Arrival.TheVariants.{Tick, Frame, Unread}
use Rattle.watch_rules.specs.Table.{is_channel, holds, turned_away, judged_of, heard_of}
use Rattle.watch_rules.specs.Steps.{Hears01, HearRight}

module _ (d : ℕ) (lim : PlainLimits) (h : History) (un : Unrolled h) (c t : ℕ) where
  holds-own : holds (head_of d lim h) c ≡ eqb d c
  holds-own = rw (used_look d lim h, channel_look d lim h)

  pub hear_look : (a : Arrival) → Hears01 d lim h c t a (heard_of (head_of d lim h) c t a)
  unfolding heard_of
  hear_look a = rw holds-own (go (is_channel c && eqb d c) refl)
    where
      in_time : (b : Bool) → earlier_in h t ≡ b → is_channel c && eqb d c ≡ true → (x : Arrival)
          → Hears01 d lim h c t x (cond (is_early (head_of d lim h) t) (turned_away (head_of d lim h) Earlier) (judged_of (head_of d lim h) t x))
      in_time true e on x = rw (early_look d lim h t, e) (record { answer = rw (on, e); post = stored_still d lim h })
      in_time false e on Tick = in-room (is_full h) refl
        where
          in-room : (f : Bool) → is_full h ≡ f
              → Hears01 d lim h c t Tick (cond (is_early (head_of d lim h) t) (turned_away (head_of d lim h) Earlier) (judged_of (head_of d lim h) t Tick))
          in-room true f = rw (early_look d lim h t, e, full_look d lim h, f) (record { answer = rw (on, e, f); post = stored_still d lim h })
          in-room false f =
              rw (early_look d lim h t, e, full_look d lim h, f, tick_look d lim h t un f) (record { answer = rw (on, e, f); post = stored_tick d lim h (stamp_of h t) })
      in_time false e on (Frame k n) = in-room (is_full h) refl
        where
          in-room : (f : Bool) → is_full h ≡ f
              → Hears01 d lim h c t (Frame k n) (cond (is_early (head_of d lim h) t) (turned_away (head_of d lim h) Earlier) (judged_of (head_of d lim h) t (Frame k n)))
          in-room true f = rw (early_look d lim h t, e, full_look d lim h, f) (record { answer = rw (on, e, f); post = stored_still d lim h })
          in-room false f =
              rw (early_look d lim h t, e, full_look d lim h, f, frame_look d lim h t k n un f)
              (record { answer = rw (on, e, f); post = stored_frame d lim h (stamp_of h t) k n })
      in_time false e on (Unread w) = rw (early_look d lim h t, e) (record { answer = rw (on, e); post = stored_still d lim h })

      go : (b : Bool) → is_channel c && eqb d c ≡ b
          → Hears01 d lim h c t a (cond (is_channel c && eqb d c) (cond (is_early (head_of d lim h) t) (turned_away (head_of d lim h) Earlier) (judged_of (head_of d lim h) t a)) (turned_away (head_of d lim h) ChannelFree))
      go true on = rw on (in_time (earlier_in h t) refl on a)
      go false on = rw on (record { answer = rw on; post = stored_still d lim h })

pub heard_both : (p : Head) (c t : ℕ) (a : Arrival) {r : Heard} → r ≡ heard_of p c t a → (r ≡ heard_of p c t a) × HearRight p c t a r
heard_both p c t a e = (e, λ d lim h q un. subst (Hears01 d lim h c t a) (sym (e ∙ ap (λ (x : Head). heard_of x c t a) q)) (hear_look d lim h un c t a))
