-- Each operation on a table that stands for accepted steps answers what 01's rules give over them, and its table stands for the steps afterwards.
use Rattle.std.specs.Prelude.{Ok, Err}
use Prim.Native.Nat.{ℕ, suc, ◌<◌, ◌≤◌}
use native.Mathlib.Omega.{arith}
use mathlib.Core.Path.{◌≡◌, refl, ap, sym, subst, ◌∙◌}
use mathlib.Core.List.{List, [], ◌∷◌}
use mathlib.Core.Bool.{Bool, true, false, cond, true≢false}
use lib.Dec.{eqb}
use lib.ListN.{set}
use borrow.Author.Tests.{eqb-true, ne_eqb, ltb-true, leb-true}
use Rattle.rule_limits.specs.declared.PlainLimits.{PlainLimits}
use Rattle.rules.specs.declared.Post.{Post}
use Rattle.rules.specs.History.{Event, History}
use Rattle.rules.specs.Times.{earlier_in, Unrolled}
use Rattle.rules.specs.Record.{is_set}
use Rattle.rules.proofs.Unrolled.{unrolled_next}
use Rattle.watch_rules.specs.declared.Table.{Table}
use Rattle.watch_rules.specs.Answer.{Answer}
use Rattle.watch_rules.specs.declared.Arrival.{Arrival}
use Rattle.watch_rules.specs.declared.Arrival.TheVariants.{Tick, Frame, Unread}
use Rattle.watch_rules.specs.Setting.{Setting}
use Rattle.watch_rules.specs.Table.{post_count, is_channel, place_of, post_in, Arriving, feed_of, empty_table, is_other, is_post, set_up_of, release_of, look_up_of}
use Rattle.rule_limits.specs.Limits.{limits_fit}
use Rattle.watch_rules.specs.Steps.{setUp, release, event, Steps, Standing, standing, holds_in, holder, other_holds, feed01, set_up01, is_held, release01, look_up01, event_in, event_on, if_found, feed_steps, if_done, set_up_steps, release_steps, posts_of, Apart, InRange, InTime, Indexed, Kept, FeedRight, SetUpRight, ReleaseRight}
use Rattle.watch_rules.proofs.Standings.{standing_none, over_set_up, over_release, over_event, others_none}
use Rattle.watch_rules.proofs.Each.{Each, each_none, each_released, each_set, each_fed}
use Rattle.watch_rules.proofs.Tables.{feed_look, other_place, set_up_look, at, used_at, release_look, look_up_look, empty_look}
use Rattle.watch_rules.proofs.Indexed.{feed_index, indexed_fed, cleared, cleared_look, indexed_release, indexed_set_up, indexed_none}

-- ---- what a table may rest on, of steps alone

abbrev Sound : Steps → Type 0
Sound s = Apart s × ((i : ℕ) → i < post_count → InRange (standing i s))

sound_none : Sound []
unfolding Apart
sound_none = (λ i j c hi hj p q. absurd (true≢false (sym p ∙ ap (λ (x : Standing). holds_in x c) (standing_none i))), λ i h. rw (standing_none i) tt)

-- a step by which no post gets a channel
apart_less : (s z : Steps) → Apart s → ((i c : ℕ) → holds_in (standing i z) c ≡ true → holds_in (standing i s) c ≡ true) → Apart z
unfolding Apart
apart_less s z apart was i j c hi hj p q = apart i j c hi hj (was i c p) (was j c q)

module _ (s : Steps) (sound : Sound s) where
  sound-event : (c : ℕ) (e : Event) → Sound (event c e ∷ s)
  sound-event c e = (
    apart_less s (event c e ∷ s) sound.0
        (λ i d. over_event s (λ x. holds_in x d ≡ true → holds_in (standing i s) d ≡ true) i c e (λ lim h had. had) (λ q. q)),
    λ i h. over_event s InRange i c e (λ lim h' r. r) (sound.1 i h),
  )

  sound-release : (k : ℕ) → Sound (release k ∷ s)
  sound-release k = (
    apart_less s (release k ∷ s) sound.0
        (λ i d. over_release s (λ x. holds_in x d ≡ true → holds_in (standing i s) d ≡ true) i k (λ q. absurd (true≢false (sym q))) (λ q. q)),
    λ i h. over_release s InRange i k tt (sound.1 i h),
  )

  sound-setUp : (k c : ℕ) (lim : PlainLimits) → is_channel c ≡ true → other_holds s k c 0 post_count ≡ false → limits_fit lim ≡ true → Sound (setUp k c lim ∷ s)
  unfolding Apart
  sound-setUp k c lim channel others fit = (apart-now, λ i h. over_set_up s InRange i k c lim (λ e. (channel, fit)) (λ ne. sound.1 i h))
    where
      alone : (j d : ℕ) → j < post_count → eqb c d ≡ true → holds_in (standing j (setUp k c lim ∷ s)) d ≡ true → k ≡ j
      alone j d h cd =
          over_set_up s (λ x. holds_in x d ≡ true → k ≡ j) j k c lim (λ e q. e)
          (λ ne q. absurd (true≢false (sym q ∙ ap (holds_in (standing j s)) (sym (eqb-true c d cd)) ∙ others_none s k c others j h (ne_eqb j k (λ e. ne (sym e))))))

      apart-now : (i j d : ℕ) → i < post_count → j < post_count → holds_in (standing i (setUp k c lim ∷ s)) d ≡ true → holds_in (standing j (setUp k c lim ∷ s)) d ≡ true → i ≡ j
      apart-now i j d hi hj p q =
          over_set_up s (λ x. holds_in x d ≡ true → i ≡ j) i k c lim
          (λ ki cd. sym ki ∙ alone j d hj cd q)
          (λ ni was. over_set_up s (λ x. holds_in x d ≡ true → i ≡ j) j k c lim (λ kj cd. sym (alone i d hi cd p) ∙ kj) (λ nj was'. sound.0 i j d hi hj was was') q) p

  -- ---- after a request

  sound-fed : (c : ℕ) (e : Event) (r : Answer) → Sound (if_found r (event c e) s)
  sound-fed c e (Ok n) = sound-event c e
  sound-fed c e (Err w) = sound

  sound-released : (i : ℕ) (r : Setting) → Sound (if_done r (release i) s)
  sound-released i (Ok tt) = sound-release i
  sound-released i (Err w) = sound

  sound-set : (i c : ℕ) (lim : PlainLimits) → Sound (set_up_steps s i c lim)
  unfolding set_up_steps set_up01
  sound-set i c lim = go (is_post i) (is_channel c) (other_holds s i c 0 post_count) (limits_fit lim) refl refl refl refl
    where
      go : (p q o f : Bool) → is_post i ≡ p → is_channel c ≡ q → other_holds s i c 0 post_count ≡ o → limits_fit lim ≡ f → Sound (set_up_steps s i c lim)
      go false q o f a b d e = rw a sound
      go true false o f a b d e = rw (a, b) sound
      go true true true f a b d e = rw (a, b, d) sound
      go true true false false a b d e = rw (a, b, d, e) sound
      go true true false true a b d e = rw (a, b, d, e) (sound-setUp i c lim b d e)

-- ---- the times of the posts

abbrev InTimes : Steps → Type 0
InTimes s = Each InTime s

-- whatever arrives stands where its time puts it
un_event : (a : Arriving) (c : ℕ) (lim : PlainLimits) (h : History) (t : ℕ) → earlier_in h t ≡ false → Unrolled h → Unrolled (event_in h t (a lim) ∷ h)
un_event a c lim h t early un = go (a lim)
  where
    go : (x : Arrival) → Unrolled (event_in h t x ∷ h)
    go Tick = unrolled_next h (event_in h t Tick) t refl early un
    go (Frame j n) = unrolled_next h (event_in h t (Frame j n)) t refl early un
    go (Unread w) = unrolled_next h (event_in h t (Unread w)) t refl early un

-- ---- the operations' second promise

kept_sound : (t : Table) (s : Steps) → Sound s → InTimes s → t.posts ≡ posts_of s → Indexed t.index s → Kept t s
kept_sound t s sound times same true-to = record { apart = sound.0; ranges = sound.1; times = times; posts = same; index = true-to }

module _ (t : Table) (s : Steps) where
  sound-kept : Kept t s → Sound s
  sound-kept kept = (kept.apart, kept.ranges)

  pub feed_right : (c time : ℕ) (a : Arriving) → Kept t s → FeedRight s c time a (feed_of t c time a)
  unfolding feed_steps
  feed_right c time a kept =
      let look = feed_look t s kept.apart kept.posts kept.times kept.index c time a in
      let e : Event = event_on (standing (holder s c) s) time a in
      record {
        answer = look.0;
        kept = kept_sound _ _ (sound-fed s (sound-kept kept) c e (feed01 s c time a)) (each_fed InTime s kept.times kept.apart a (un_event a) c time) look.1
            (subst (λ (xs : List ℕ). Indexed xs (if_found (feed01 s c time a) (event c e) s)) (sym (feed_index t c time a)) (indexed_fed t.index s c e (feed01 s c time a) kept.index));
      }

  -- the index without the entry of the channel that the post held
  clears : Kept t s → (i : ℕ) → i < post_count → cond (is_set (post_in t i).head.used) (set t.index (post_in t i).head.channel 0) t.index ≡ cleared (standing i s) t.index
  clears kept i low =
      ap (λ (p : Post). cond (is_set p.head.used) (set t.index p.head.channel 0) t.index) (at t s kept.posts i low)
      ∙ cleared_look (standing i s) t.index

  set-indexed : Kept t s → (i c : ℕ) (lim : PlainLimits) → Indexed (set_up_of t i c lim).table.index (set_up_steps s i c lim)
  unfolding set_up_of set_up01 set_up_steps
  set-indexed kept i c lim = go (is_post i) (is_channel c) (other_holds s i c 0 post_count) (limits_fit lim) refl refl refl refl
    where
      other : is_other (place_of t.posts c) i ≡ other_holds s i c 0 post_count
      other = other_place t s kept.apart kept.posts i c

      seated : i < post_count → c ≤ 31 → Apart (setUp i c lim ∷ s)
          → Indexed (set (cond (is_set (post_in t i).head.used) (set t.index (post_in t i).head.channel 0) t.index) c (suc i)) (setUp i c lim ∷ s)
      seated low on apart =
          subst (λ (xs : List ℕ). Indexed (set xs c (suc i)) (setUp i c lim ∷ s)) (sym (clears kept i low))
          (indexed_set_up t.index s kept.apart kept.index i low c lim (omega arith) apart)

      go : (p q o f : Bool) → is_post i ≡ p → is_channel c ≡ q → other_holds s i c 0 post_count ≡ o → limits_fit lim ≡ f
          → Indexed (set_up_of t i c lim).table.index (set_up_steps s i c lim)
      go false q o f a b d e = rw a kept.index
      go true false o f a b d e = rw (a, b) kept.index
      go true true true f a b d e = rw (a, b, other, d) kept.index
      go true true false false a b d e = rw (a, b, other, d, e) kept.index
      go true true false true a b d e =
          rw (a, b, other, d, e) (seated (ltb-true i post_count a) (leb-true c 31 b) (sound-setUp s (sound-kept kept) i c lim b d e).0)

  pub set_up_right : (i c : ℕ) (lim : PlainLimits) → Kept t s → SetUpRight s i c lim (set_up_of t i c lim)
  unfolding set_up_steps
  set_up_right i c lim kept =
      let look = set_up_look t s kept.apart kept.posts i c lim in
      record {
        answer = look.0;
        kept = kept_sound _ _ (sound-set s (sound-kept kept) i c lim) (each_set InTime tt (λ d l. tt) s kept.times i c lim (set_up01 s i c lim)) look.1 (set-indexed kept i c lim);
      }

  release-indexed : Kept t s → (i : ℕ) → Indexed (release_of t i).table.index (release_steps s i)
  unfolding release_of release01 release_steps
  release-indexed kept i = go (is_post i) (is_held (standing i s)) refl refl
    where
      unseated : i < post_count → Indexed (cond (is_set (post_in t i).head.used) (set t.index (post_in t i).head.channel 0) t.index) (release i ∷ s)
      unseated low =
          subst (λ (xs : List ℕ). Indexed xs (release i ∷ s)) (sym (clears kept i low)) (indexed_release t.index s kept.apart kept.index i low)

      go : (p q : Bool) → is_post i ≡ p → is_held (standing i s) ≡ q → Indexed (release_of t i).table.index (release_steps s i)
      go false q a b = rw a kept.index
      go true false a b = rw (a, used_at t s kept.posts i (ltb-true i post_count a), b) kept.index
      go true true a b =
          let low : i < post_count = ltb-true i post_count a in
          let used : is_set (post_in t i).head.used ≡ true = used_at t s kept.posts i low ∙ b in
          rw (a, used, b) (rw used at (unseated low))

  pub release_right : (i : ℕ) → Kept t s → ReleaseRight s i (release_of t i)
  unfolding release_steps
  release_right i kept =
      let look = release_look t s kept.posts i in
      record {
        answer = look.0;
        kept = kept_sound _ _ (sound-released s (sound-kept kept) i (release01 s i)) (each_released InTime tt (λ d l. tt) s kept.times i (release01 s i)) look.1 (release-indexed kept i);
      }

  pub look_up_right : (i : ℕ) → Kept t s → look_up_of t i ≡ look_up01 s i
  look_up_right i kept = look_up_look t s kept.posts i

pub empty_kept : Kept empty_table []
empty_kept = kept_sound empty_table [] sound_none (each_none InTime tt (λ d l. tt)) empty_look indexed_none
