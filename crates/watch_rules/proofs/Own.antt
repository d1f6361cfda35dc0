-- A post's standing is that of its own accepted steps alone, and so are all answers about it but a set-up's refusal.
use Prim.Native.Nat.{ℕ, ◌<◌}
use mathlib.Core.Path.{◌≡◌, refl, ap, sym, ◌∙◌}
use mathlib.Core.List.{List, [], ◌∷◌}
use mathlib.Core.Bool.{Bool, true, false, cond}
use lib.Dec.{eqb}
use borrow.Author.Tests.{eqb-true}
use Rattle.rule_limits.specs.declared.PlainLimits.{PlainLimits}
use Rattle.rules.specs.History.{Event}
use Rattle.watch_rules.specs.Table.{post_count, look_up_of}
use Rattle.watch_rules.specs.Steps.{setUp, release, event, Steps, standing, holds_in, own_of}
use Rattle.watch_rules.specs.Run.{Request, reply, run, accepted, arrives_on}
use Rattle.watch_rules.specs.Run as request
use Rattle.watch_rules.proofs.Standings.{standing_set_up, standing_set_up_other, standing_release, standing_release_other, standing_event, standing_event_other, held_on}
use Rattle.watch_rules.proofs.Demand.{alike_record, alike_release, alike_arrival}

module _ (i : ℕ) (s : Steps) (rest : standing i (own_of i s) ≡ standing i s) where
  own-setUp : (j c : ℕ) (lim : PlainLimits) (b : Bool) → eqb j i ≡ b
      → standing i (cond b (setUp j c lim ∷ own_of i s) (own_of i s)) ≡ standing i (setUp j c lim ∷ s)
  own-setUp j c lim true e = rw (eqb-true j i e) (standing_set_up (own_of i s) i c lim ∙ sym (standing_set_up s i c lim))
  own-setUp j c lim false e = rest ∙ sym (standing_set_up_other s j c lim i e)

  own-release : (j : ℕ) (b : Bool) → eqb j i ≡ b → standing i (cond b (release j ∷ own_of i s) (own_of i s)) ≡ standing i (release j ∷ s)
  own-release j true e = rw (eqb-true j i e) (standing_release (own_of i s) i ∙ sym (standing_release s i))
  own-release j false e = rest ∙ sym (standing_release_other s j i e)

  own_event : (c : ℕ) (e : Event) (b : Bool) → holds_in (standing i s) c ≡ b
      → standing i (cond b (event c e ∷ own_of i s) (own_of i s)) ≡ standing i (event c e ∷ s)
  own_event c e true q =
      let o = held_on (standing i s) c q in
      standing_event (own_of i s) i c o.0 o.1 e (rest ∙ o.2) ∙ sym (standing_event s i c o.0 o.1 e o.2)
  own_event c e false q = rest ∙ sym (standing_event_other s c e i q)

pub standing_own : (i : ℕ) (s : Steps) → standing i (own_of i s) ≡ standing i s
standing_own i [] = refl
standing_own i (setUp j c lim ∷ s) = own-setUp i s (standing_own i s) j c lim (eqb j i) refl
standing_own i (release j ∷ s) = own-release i s (standing_own i s) j (eqb j i) refl
standing_own i (event c e ∷ s) = own_event i s (standing_own i s) c e (holds_in (standing i s) c) refl

-- Demand 3: "Of the answers about a post only a set-up's refusal may depend on other posts". After two runs in which the post's own accepted steps are the same
module _ (rs qs : List Request) (i : ℕ) (own : own_of i (accepted rs) ≡ own_of i (accepted qs)) where
  pub same_own : standing i (accepted rs) ≡ standing i (accepted qs)
  same_own = sym (standing_own i (accepted rs)) ∙ ap (standing i) own ∙ standing_own i (accepted qs)

  pub own_record : look_up_of (run rs) i ≡ look_up_of (run qs) i
  own_record = alike_record rs qs i same_own

  pub own_released : reply (run rs) (request.release i) ≡ reply (run qs) (request.release i)
  own_released = alike_release rs qs i same_own

  pub own_arrival : i < post_count → (c : ℕ) → holds_in (standing i (accepted rs)) c ≡ true → (a : Request) → arrives_on c a ≡ true
      → reply (run rs) a ≡ reply (run qs) a
  own_arrival low c q a e = alike_arrival rs qs i same_own low c q a e
