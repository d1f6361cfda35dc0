-- What each post's standing keeps, whatever is accepted: it holds of a post that is not set up and of one that was just set up, and an accepted event keeps it.
use Rattle.std.specs.Prelude.{Ok, Err}
use Prim.Native.Nat.{ℕ, ◌<◌}
use mathlib.Core.Path.{◌≡◌, refl, ap, subst, ◌∙◌}
use mathlib.Core.List.{[], ◌∷◌}
use mathlib.Core.Bool.{Bool, true, false}
use lib.Dec.{eqb, ltb}
use borrow.Author.Tests.{eqb-true, eqb-false, eq-eqb, ltb-true}
use Rattle.rule_limits.specs.declared.PlainLimits.{PlainLimits}
use Rattle.rules.specs.History.{Event, History}
use Rattle.rules.specs.Times.{earlier_in}
use Rattle.watch_rules.specs.Answer.{Answer}
use Rattle.watch_rules.specs.Setting.{Setting}
use Rattle.watch_rules.specs.Table.{post_count, is_channel, Arriving}
use Rattle.watch_rules.specs.Steps.{setUp, release, event, Steps, Standing, free, held, standing, holds_in, holder, answer_in, feed01, event_in, event_on, if_found, feed_steps, if_done, Apart}
use Rattle.watch_rules.proofs.Standings.{standing_none, standing_event, standing_event_other, over_set_up, over_release, held_on, holder_holds, alone}

module _ (P : Standing → Type 0) where
  abbrev pub Each : Steps → Type 0
  Each s = (i : ℕ) → i < post_count → P (standing i s)

  module _ (free-so : P free) (fresh-so : (c : ℕ) (lim : PlainLimits) → P (held c lim [])) where
    pub each_none : Each []
    each_none i h = rw (standing_none i) free-so

    module _ (s : Steps) (each : Each s) where
      pub each_released : (k : ℕ) (r : Setting) → Each (if_done r (release k) s)
      each_released k (Ok tt) = λ i h. over_release s P i k free-so (each i h)
      each_released k (Err w) = each

      pub each_set : (k c : ℕ) (lim : PlainLimits) (r : Setting) → Each (if_done r (setUp k c lim) s)
      each_set k c lim (Ok tt) = λ i h. over_set_up s P i k c lim (λ e. fresh-so c lim) (λ ne. each i h)
      each_set k c lim (Err w) = each

  -- an event goes to one post alone, and keeps there what it keeps of that post
  module _ (s : Steps) (each : Each s) (apart : Apart s) (a : Arriving)
      (grows : (c : ℕ) (lim : PlainLimits) (h : History) (t : ℕ) → earlier_in h t ≡ false → P (held c lim h) → P (held c lim (event_in h t (a lim) ∷ h))) where
    module _ (k c : ℕ) (lim : PlainLimits) (h : History) (low : k < post_count) (own : standing k s ≡ held c lim h) where
      each-event : (e : Event) → P (held c lim (e ∷ h)) → Each (event c e ∷ s)
      each-event e so i hi = go (eqb i k) refl
        where
          go : (b : Bool) → eqb i k ≡ b → P (standing i (event c e ∷ s))
          go true q = rw (eqb-true i k q, standing_event s k c lim h e own) so
          go false q =
              rw (standing_event_other s c e i (alone s apart k i c low hi (ap (λ (x : Standing). holds_in x c) own ∙ eq-eqb c c refl) (eqb-false i k q)))
              (each i hi)

      each-found : (e : Event) → P (held c lim (e ∷ h)) → (r : Answer) → Each (if_found r (event c e) s)
      each-found e so (Ok n) = each-event e so
      each-found e so (Err w) = each

      each-heard : (t : ℕ) → Each (if_found (answer_in (held c lim h) t a) (event c (event_on (held c lim h) t a)) s)
      each-heard t = go (earlier_in h t) refl
        where
          go : (b : Bool) → earlier_in h t ≡ b → Each (if_found (answer_in (held c lim h) t a) (event c (event_on (held c lim h) t a)) s)
          go true early = rw early each
          go false early = each-found (event_in h t (a lim)) (grows c lim h t early (subst P own (each k low))) (answer_in (held c lim h) t a)

    pub each_fed : (c t : ℕ) → Each (feed_steps s c t a)
    unfolding feed01 feed_steps
    each_fed c t = go (is_channel c) (ltb (holder s c) post_count) refl refl
      where
        go : (p q : Bool) → is_channel c ≡ p → ltb (holder s c) post_count ≡ q → Each (feed_steps s c t a)
        go false q e f = rw e each
        go true false e f = rw (e, f) each
        go true true e f =
            let h : holder s c < post_count = ltb-true (holder s c) post_count f in
            let o = held_on (standing (holder s c) s) c (holder_holds s c h) in
            rw (e, f, o.2) (each-heard (holder s c) c o.0 o.1 h o.2 t)
