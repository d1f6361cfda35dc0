-- Each operation on a table with the posts that accepted steps leave is looking back over them:
-- its answer is 01's, and its posts are those that the steps leave with one more, or as they were.
use Rattle.std.specs.Prelude.{Ok, Err}
use Prim.Native.Nat.{ℕ, ◌<◌}
use native.Mathlib.Omega.{arith}
use mathlib.Core.Path.{◌≡◌, refl, ap, sym, subst, ◌∙◌}
use mathlib.Core.List.{List, [], ◌∷◌}
use mathlib.Core.Bool.{Bool, true, false, cond}
use lib.Dec.{eqb, ltb}
use lib.ListN.{get_or, set}
use lib.Seq.{set-get_or}
use borrow.Author.Tests.{eqb-true, eqb-false, eq-eqb, ne_eqb, ltb-true}
use Rattle.refusals.specs.declared.Refusal.TheVariants.{NotSetUp}
use Rattle.rule_limits.specs.declared.PlainLimits.{PlainLimits}
use Rattle.rule_limits.specs.Limits.{limits_fit}
use Rattle.rules.specs.declared.Post.{Post}
use Rattle.rules.specs.History.{Event, History}
use Rattle.rules.specs.Times.{Unrolled}
use Rattle.rules.specs.Record.{is_set, post_of}
use Rattle.rules.specs.After.{stored, free_post, fresh_post, post_record}
use Rattle.rules.proofs.Counted.{count_same, count_set}
use Rattle.rules.proofs.Look.{used_look, limits_look, fresh_look, record_look}
use Rattle.watch_rules.specs.declared.Table.{Table}
use Rattle.watch_rules.specs.Answer.{Answer, Fed}
use Rattle.watch_rules.specs.declared.Heard.{Heard}
use Rattle.watch_rules.specs.Setting.{Setting, Settled}
use Rattle.watch_rules.specs.Table.{post_count, is_channel, place_of, place_in, no_post, post_in, Arriving, with_post, feed_at, feed_of, empty_table, is_other, is_post, set_up_of, release_of, not_found, look_up_of}
use Rattle.watch_rules.specs.Steps.{setUp, release, event, Steps, Standing, free, held, standing, holds_in, holder, other_holds, answer_in, feed01, set_up01, is_held, release01, shown_in, look_up01, event_in, event_on, grown, Hears01, if_found, feed_steps, set_up_steps, release_steps, kept_post, posts_of, Apart, InTime, Indexed}
use Rattle.watch_rules.proofs.Placed.{used_standing, post_at, place_look}
use Rattle.watch_rules.proofs.Indexed.{place_in_lem}
use Rattle.watch_rules.proofs.Hears.{hear_look}
use Rattle.watch_rules.proofs.Standings.{standing_set_up, standing_set_up_other, standing_release, standing_release_other, standing_event, standing_event_other, held_on, holder_holds, alone, other_look}

-- ---- the posts of the table

module _ (s : Steps) where
  abbrev kept_at : ℕ → Post
  kept_at i = kept_post (standing i s)

  -- storing at a place, where the steps with one more leave the other posts as they were
  posts-put : (z : Steps) (i : ℕ) (p : Post) → kept_post (standing i z) ≡ p → ((j : ℕ) → j < post_count → (j ≡ i → ⊥) → standing j z ≡ standing j s)
      → set (posts_of s) i p ≡ posts_of z
  unfolding posts_of
  posts-put z i p here others =
      count_set kept_at (λ j. cond (eqb j i) p (kept_at j)) p i (rw (eq-eqb i i refl)) (λ j ne. rw (ne_eqb j i ne)) 0 post_count i (omega arith)
      ∙ count_same (λ j. cond (eqb j i) p (kept_at j)) (λ j. kept_post (standing j z)) 0 post_count (λ j low high. agrees j (omega arith) (eqb j i) refl)
    where
      agrees : (j : ℕ) → j < post_count → (b : Bool) → eqb j i ≡ b → cond b p (kept_at j) ≡ kept_post (standing j z)
      agrees j h true e = sym here ∙ ap (λ (k : ℕ). kept_post (standing k z)) (sym (eqb-true j i e))
      agrees j h false e = ap kept_post (sym (others j h (eqb-false j i e)))

  -- storing what stands there
  posts-same : (i : ℕ) → i < post_count → set (posts_of s) i (kept_post (standing i s)) ≡ posts_of s
  posts-same i h = rw (← (post_at s i h)) (set-get_or (posts_of s) i no_post)

-- ---- frames, ticks and set-ups on a table with these posts, where no channel is held twice

-- an answer, and the posts afterwards
abbrev Fed01 : Steps → Answer → Fed → Type 0
Fed01 z w r = (r.answer ≡ w) × (r.table.posts ≡ posts_of z)

abbrev Set01 : Steps → Setting → Settled → Type 0
Set01 z w r = (r.answer ≡ w) × (r.table.posts ≡ posts_of z)

module _ (t : Table) (s : Steps) (apart : Apart s) (same : t.posts ≡ posts_of s) where
  module _ (i c : ℕ) (lim : PlainLimits) (h : History) (low : i < post_count) (own : standing i s ≡ held c lim h) where
    there : post_in t i ≡ post_of c lim h
    there = ap (λ (ps : List Post). get_or ps i no_post) same ∙ post_at s i low ∙ ap kept_post own

    posts-event : (e : Event) → set t.posts i (post_of c lim (e ∷ h)) ≡ posts_of (event c e ∷ s)
    posts-event e =
        ap (λ (ps : List Post). set ps i (post_of c lim (e ∷ h))) same
        ∙ posts-put s (event c e ∷ s) i (post_of c lim (e ∷ h))
        (ap kept_post (standing_event s i c lim h e own))
        (λ j hj ne. standing_event_other s c e j (alone s apart i j c low hj (ap (λ (x : Standing). holds_in x c) own ∙ eq-eqb c c refl) ne))

    posts-stay : set t.posts i (post_of c lim h) ≡ posts_of s
    posts-stay = ap (λ (ps : List Post). set ps i (post_of c lim h)) same ∙ ap (set (posts_of s) i) (ap kept_post (sym own)) ∙ posts-same s i low

    abbrev Heard01 : ℕ → Arriving → Fed → Type 0
    Heard01 time a = Fed01 (if_found (answer_in (held c lim h) time a) (event c (event_on (held c lim h) time a)) s) (answer_in (held c lim h) time a)

    posts-grown : (e : Event) (w : Answer) → set t.posts i (post_of c lim (grown w e h)) ≡ posts_of (if_found w (event c e) s)
    posts-grown e (Ok n) = posts-event e
    posts-grown e (Err w) = posts-stay

    heard-look : (time : ℕ) (a : Arriving) → Unrolled h → is_channel c ≡ true → Heard01 time a (feed_at t i c time a)
    unfolding feed_at
    heard-look time a un channel = rw (there, ap a (limits_look c lim h)) (stands (hear_look c lim h un c time (a lim)))
      where
        stands : {r : Heard} → Hears01 c lim h c time (a lim) r
            → Heard01 time a (record { table = with_post t i (stored (post_of c lim h) r.head r.at r.slot) r.answer; answer = r.answer })
        stands {r} heard =
            let answer : r.answer ≡ answer_in (held c lim h) time a = heard.answer ∙ rw (channel, eq-eqb c c refl) in
            (answer, ap (set t.posts i) heard.post ∙ posts-grown (event_in h time (a lim)) r.answer ∙ ap (λ (w : Answer). posts_of (if_found w (event c (event_in h time (a lim))) s)) answer)

  pub feed_look : ((i : ℕ) → i < post_count → InTime (standing i s)) → Indexed t.index s → (c time : ℕ) (a : Arriving) → Fed01 (feed_steps s c time a) (feed01 s c time a) (feed_of t c time a)
  unfolding feed_of feed01 feed_steps
  feed_look times true-to c time a = go (is_channel c) (ltb (holder s c) post_count) refl refl
    where
      place : is_channel c ≡ true → place_in t c ≡ holder s c
      place = place_in_lem t s same true-to c

      go : (p q : Bool) → is_channel c ≡ p → ltb (holder s c) post_count ≡ q → Fed01 (feed_steps s c time a) (feed01 s c time a) (feed_of t c time a)
      go false q e f = rw e (refl, same)
      go true false e f = rw (e, place e, f) (refl, same)
      go true true e f =
          let h : holder s c < post_count = ltb-true (holder s c) post_count f in
          let o = held_on (standing (holder s c) s) c (holder_holds s c h) in
          rw (e, place e, f, o.2) (heard-look (holder s c) c o.0 o.1 h o.2 time a (subst InTime o.2 (times (holder s c) h)) e)

  posts-setUp : (i c : ℕ) (lim : PlainLimits) → set t.posts i (fresh_post c lim) ≡ posts_of (setUp i c lim ∷ s)
  posts-setUp i c lim =
      ap (λ (ps : List Post). set ps i (fresh_post c lim)) same
      ∙ posts-put s (setUp i c lim ∷ s) i (fresh_post c lim)
      (ap kept_post (standing_set_up s i c lim) ∙ sym (fresh_look c lim))
      (λ j hj ne. standing_set_up_other s i c lim j (ne_eqb i j (λ e. ne (sym e))))

  pub other_place : (i c : ℕ) → is_other (place_of t.posts c) i ≡ other_holds s i c 0 post_count
  other_place i c = ap (λ (ps : List Post). is_other (place_of ps c) i) same ∙ ap (λ (k : ℕ). is_other k i) (place_look s c) ∙ other_look s apart i c

  pub set_up_look : (i c : ℕ) (lim : PlainLimits) → Set01 (set_up_steps s i c lim) (set_up01 s i c lim) (set_up_of t i c lim)
  unfolding set_up_of set_up01 set_up_steps
  set_up_look i c lim = go (is_post i) (is_channel c) (other_holds s i c 0 post_count) (limits_fit lim) refl refl refl refl
    where
      go : (p q o f : Bool) → is_post i ≡ p → is_channel c ≡ q → other_holds s i c 0 post_count ≡ o → limits_fit lim ≡ f
          → Set01 (set_up_steps s i c lim) (set_up01 s i c lim) (set_up_of t i c lim)
      go false q o f a b d e = rw a (refl, same)
      go true false o f a b d e = rw (a, b) (refl, same)
      go true true true f a b d e = rw (a, b, other_place i c, d) (refl, same)
      go true true false false a b d e = rw (a, b, other_place i c, d, e) (refl, same)
      go true true false true a b d e = rw (a, b, other_place i c, d, e) (refl, posts-setUp i c lim)

-- ---- release, look-up, and the table to start with

module _ (t : Table) (s : Steps) (same : t.posts ≡ posts_of s) where
  posts-release : (i : ℕ) → set t.posts i free_post ≡ posts_of (release i ∷ s)
  posts-release i =
      ap (λ (ps : List Post). set ps i free_post) same
      ∙ posts-put s (release i ∷ s) i free_post
      (ap kept_post (standing_release s i))
      (λ j hj ne. standing_release_other s i j (ne_eqb i j (λ e. ne (sym e))))

  pub at : (i : ℕ) → i < post_count → post_in t i ≡ kept_post (standing i s)
  at i h = ap (λ (ps : List Post). get_or ps i no_post) same ∙ post_at s i h

  pub used_at : (i : ℕ) → i < post_count → is_set (post_in t i).head.used ≡ is_held (standing i s)
  used_at i h = ap (λ (p : Post). is_set p.head.used) (at i h) ∙ used_standing (standing i s)

  pub release_look : (i : ℕ) → Set01 (release_steps s i) (release01 s i) (release_of t i)
  unfolding release_of release01 release_steps
  release_look i = go (is_post i) (is_held (standing i s)) refl refl
    where
      go : (p q : Bool) → is_post i ≡ p → is_held (standing i s) ≡ q → Set01 (release_steps s i) (release01 s i) (release_of t i)
      go false q a b = rw a (refl, same)
      go true true a b = rw (a, used_at i (ltb-true i post_count a), b) (refl, posts-release i)
      go true false a b = rw (a, used_at i (ltb-true i post_count a), b) (refl, same)

  pub look_up_look : (i : ℕ) → look_up_of t i ≡ look_up01 s i
  unfolding look_up_of look_up01
  look_up_look i = go (is_post i) refl
    where
      shown : (x : Standing) → cond (is_set (kept_post x).head.used) (record { answer = Ok tt; shown = post_record (kept_post x) }) (not_found NotSetUp) ≡ shown_in x
      shown free = refl
      shown (held c lim h) = rw (record_look c lim h, used_look c lim h)

      go : (p : Bool) → is_post i ≡ p → look_up_of t i ≡ look_up01 s i
      go false a = rw a
      go true a = rw (a, at i (ltb-true i post_count a)) (shown (standing i s))

pub empty_look : empty_table.posts ≡ posts_of []
unfolding posts_of standing
empty_look = refl
