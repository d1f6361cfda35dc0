-- What the operations answered to a post's accepted events is 01's findings of each, over the history before it.
use Rattle.std.specs.Prelude.{Ok, Err}
use Prim.Native.Nat.{ℕ, ◌<◌}
use mathlib.Core.Path.{◌≡◌, refl, sym, ap, subst, ◌∙◌}
use mathlib.Core.List.{List, [], ◌∷◌, map}
use mathlib.Core.Bool.{Bool, true, false, cond, true≢false}
use borrow.Author.Tests.{eqb-true, eq-eqb}
use Rattle.refusals.specs.declared.Refusal.TheVariants.{Earlier, CountFull}
use Rattle.rule_limits.specs.declared.PlainLimits.{PlainLimits}
use Rattle.rules.specs.History.{Event, History}
use Rattle.rules.specs.Times.{earlier_in}
use Rattle.rules.specs.Rules.{findings01}
use Rattle.rules.specs.Counts.{is_full}
use Rattle.watch_rules.specs.Answer.{Answer}
use Rattle.watch_rules.specs.Setting.{Setting}
use Rattle.watch_rules.specs.declared.Arrival.{Arrival}
use Rattle.watch_rules.specs.declared.Arrival.TheVariants.{Tick, Frame, Unread}
use Rattle.watch_rules.specs.Table.{post_count, Arriving, framing, ticking}
use Rattle.watch_rules.specs.Steps.{Standing, free, held, standing, holds_in, holder, answer_in, counted01, found01, feed01, event_in, feed_steps}
use Rattle.watch_rules.specs.Run.{Request, setUp, release, frame, tick, Reply, set, fed, reply, run, reply01, accepted, is_refusal, concerns}
use Rattle.watch_rules.proofs.Standings.{standing_event, held_on, holder_is}
use Rattle.watch_rules.proofs.Demand.{run_kept, every_answer, feed_own, refused_nothing, others_standing, counted_none, counted_set_up, counted_release}
use Rattle.watch_ticks.specs.Marks.{judged}
use Rattle.watch_ticks.specs.Answers.{answers_after, answers_to}

abbrev Stands : Standing → List Answer → Type 0
Stands free l = l ≡ []
Stands (held c lim h) l = l ≡ map Ok (judged lim h)

-- ---- one accepted frame or tick

module _ (lim : PlainLimits) (h : History) where
  counted_is : (e : Event) → is_refusal (fed (counted01 lim h e)) ≡ false → counted01 lim h e ≡ Ok (findings01 lim h e)
  counted_is e = go (is_full h)
    where
      go : (full : Bool) → is_refusal (fed (cond full (Err CountFull) (Ok (findings01 lim h e)))) ≡ false
          → cond full (Err CountFull) (Ok (findings01 lim h e)) ≡ Ok (findings01 lim h e)
      go true q = absurd (true≢false q)
      go false q = refl

  found-is : (t : ℕ) (x : Arrival) → is_refusal (fed (found01 lim h t x)) ≡ false → found01 lim h t x ≡ Ok (findings01 lim h (event_in h t x))
  found-is t Tick q = counted_is (event_in h t Tick) q
  found-is t (Frame k n) q = counted_is (event_in h t (Frame k n)) q
  found-is t (Unread w) q = absurd (true≢false q)

  answer-is : (c t : ℕ) (a : Arriving) → is_refusal (fed (answer_in (held c lim h) t a)) ≡ false
      → answer_in (held c lim h) t a ≡ Ok (findings01 lim h (event_in h t (a lim)))
  answer-is c t a = go (earlier_in h t)
    where
      go : (early : Bool) → is_refusal (fed (cond early (Err Earlier) (found01 lim h t (a lim)))) ≡ false
          → cond early (Err Earlier) (found01 lim h t (a lim)) ≡ Ok (findings01 lim h (event_in h t (a lim)))
      go true q = absurd (true≢false q)
      go false q = found-is t (a lim) q

module _ (rs : List Request) (i : ℕ) (low : i < post_count) where
  module _ (c : ℕ) (lim : PlainLimits) (h : History) (own : standing i (accepted rs) ≡ held c lim h) (t : ℕ) (a : Arriving) where
    is-holder : holder (accepted rs) c ≡ i
    is-holder = holder_is (accepted rs) (run_kept rs).apart i c low (ap (λ (x : Standing). holds_in x c) own ∙ eq-eqb c c refl)

    arrived : is_refusal (fed (feed01 (accepted rs) c t a)) ≡ false
        → (feed01 (accepted rs) c t a ≡ Ok (findings01 lim h (event_in h t (a lim)))) × (standing i (feed_steps (accepted rs) c t a) ≡ held c lim (event_in h t (a lim) ∷ h))
    unfolding feed_steps
    arrived q =
        let z : feed01 (accepted rs) c t a ≡ Ok (findings01 lim h (event_in h t (a lim))) = feed_own rs i c lim h low own t a ∙ answer-is lim h c t a (ap (λ (w : Answer). is_refusal (fed w)) (sym (feed_own rs i c lim h low own t a)) ∙ q) in
        (z, rw (z, is-holder, own) (standing_event (accepted rs) i c lim h (event_in h t (a lim)) own))

  -- ---- one request

  module _ (stands : Stands (standing i (accepted rs)) (answers_to i rs)) where
    arrives : (c t : ℕ) (a : Arriving) → holds_in (standing i (accepted rs)) c ≡ true → is_refusal (fed (feed01 (accepted rs) c t a)) ≡ false
        → Stands (standing i (feed_steps (accepted rs) c t a)) (feed01 (accepted rs) c t a ∷ answers_to i rs)
    arrives c t a holds q = go (held_on (standing i (accepted rs)) c holds)
      where
        go : (lim : PlainLimits) × (h : History) × (standing i (accepted rs) ≡ held c lim h)
            → Stands (standing i (feed_steps (accepted rs) c t a)) (feed01 (accepted rs) c t a ∷ answers_to i rs)
        go (lim, h, own) =
            let z = arrived c lim h own t a q in
            let before : answers_to i rs ≡ map Ok (judged lim h) = subst (λ (x : Standing). Stands x (answers_to i rs)) own stands in
            rw (z.0, z.1, before) refl

    done : (r : Setting) → is_refusal (set r) ≡ false → set r ≡ set (Ok tt)
    done (Ok tt) q = refl
    done (Err w) q = absurd (true≢false q)

    by_answer : (a : Request) → Stands (standing i (accepted (a ∷ rs))) (answers_after (reply01 (accepted rs) a) (answers_to i rs))
        → Stands (standing i (accepted (a ∷ rs))) (answers_after (reply (run rs) a) (answers_to i rs))
    by_answer a s = subst (λ (r : Reply). Stands (standing i (accepted (a ∷ rs))) (answers_after r (answers_to i rs))) (sym (every_answer rs a)) s

    by-refusal : (a : Request) → is_refusal (reply (run rs) a) ≡ false → is_refusal (reply01 (accepted rs) a) ≡ false
    by-refusal a q = ap is_refusal (sym (every_answer rs a)) ∙ q

    own-request : (a : Request) → concerns (accepted rs) a i ≡ true → is_refusal (reply (run rs) a) ≡ false
        → Stands (standing i (accepted (a ∷ rs))) (answers_after (reply (run rs) a) (answers_to i rs))
    unfolding accepted
    own-request (setUp j c lim) mine q =
        let z : j ≡ i = eqb-true j i mine in
        rw (z, counted_set_up rs i c lim (ap (λ (k : ℕ). reply (run rs) (setUp k c lim)) (sym z) ∙ done _ q)) refl
    own-request (release j) mine q =
        let z : j ≡ i = eqb-true j i mine in
        rw (z, counted_release rs i (ap (λ (k : ℕ). reply (run rs) (release k)) (sym z) ∙ done _ q)) refl
    own-request (frame c t m x bs) mine q = by_answer (frame c t m x bs) (arrives c t (framing m x bs) mine (by-refusal (frame c t m x bs) q))
    own-request (tick c t) mine q = by_answer (tick c t) (arrives c t ticking mine (by-refusal (tick c t) q))

    any-request : (a : Request) → Stands (standing i (accepted (a ∷ rs))) (answers_to i (a ∷ rs))
    any-request a = go (concerns (accepted rs) a i) (is_refusal (reply (run rs) a)) refl refl
      where
        go : (p q : Bool) → concerns (accepted rs) a i ≡ p → is_refusal (reply (run rs) a) ≡ q → Stands (standing i (accepted (a ∷ rs))) (answers_to i (a ∷ rs))
        go false q e f = rw (e, others_standing rs a i e) stands
        go true true e f = rw (e, f, (refused_nothing rs a f).1) stands
        go true false e f = rw (e, f) (own-request a e f)

-- ---- any requests

stand : (i : ℕ) → i < post_count → (rs : List Request) → Stands (standing i (accepted rs)) (answers_to i rs)
stand i low [] = rw (counted_none i) refl
stand i low (a ∷ rs) = any-request rs i low (stand i low rs) a

-- a post's accepted events, each with its answer: 01's findings of it
pub answers_judged : (rs : List Request) (i c : ℕ) (lim : PlainLimits) (h : History) → i < post_count → standing i (accepted rs) ≡ held c lim h
    → answers_to i rs ≡ map Ok (judged lim h)
answers_judged rs i c lim h low own = subst (λ (x : Standing). Stands x (answers_to i rs)) own (stand i low rs)
