-- What asking for a channel's holder promises. Of every table: a post only where it holds the channel, and what comes on the channel goes to it.
-- Over accepted steps: the post that stands on the channel, whose answer 01's rules give over its own history.
use Prim.Native.Nat.{ℕ, suc, ◌%◌, ◌<◌, ◌≤◌}
use native.Mathlib.Nat.{mod-eq_of_lt}
use native.Mathlib.Omega.{arith}
use mathlib.Core.Path.{◌≡◌, refl, ap, sym, subst, ◌∙◌}
use mathlib.Core.Bool.{Bool, true, false, cond, ◌&&◌, true≢false}
use lib.Dec.{ltb}
use lib.ListN.{get_or}
use borrow.Author.Tests.{eq-eqb, ltb-true, lt-ltb, leb-true}
use Rattle.refusals.specs.declared.Refusal.TheVariants.{ChannelFree}
use Rattle.rule_limits.specs.declared.PlainLimits.{PlainLimits}
use Rattle.rules.specs.History.{History}
use Rattle.watch_rules.specs.declared.Table.{Table}
use Rattle.watch_rules.specs.Table.{post_count, channel_count, is_channel, holds, place_named, some_place, place_in, post_in, Arriving, refused, feed_at, feed_of}
use Rattle.watch_rules.specs.Steps.{Steps, Standing, held, standing, holds_in, holder, answer_in, feed01, InRange, Kept}
use Rattle.watch_rules.proofs.Standings.{held_on, holder_holds, holder_is}
use Rattle.watch_rules.proofs.Indexed.{named_back, place_in_lem}
use Rattle.watch_rules.proofs.Same.{some_low, place_named_lem, place_past}
use Rattle.watch_rules.proofs.Index.{place_holds}
use Rattle.watch_rules.proofs.Right.{feed_right}
use Rattle.plain_words.specs.Words.{refusal_word}
use Rattle.lent_holder.specs.Holder.{holder_word, holder_at, holder01}

-- ---- of every table

and_second : (a b : Bool) → (a && b) ≡ true → b ≡ true
and_second true b e = e
and_second false b e = absurd (true≢false (sym e))

module _ (t : Table) (c : ℕ) where
  -- the head of the post that the index names tells it
  pub holder_same : holder_at (post_in t (some_place t c)).head (some_place t c) c ≡ holder_word t c
  unfolding holder_word holder_at
  holder_same = go (is_channel c) (holds (post_in t (some_place t c)).head c) refl
    where
      go : (a b : Bool) → holds (post_in t (some_place t c)).head c ≡ b
          → cond (a && b) (some_place t c) (refusal_word ChannelFree) ≡ cond (a && ltb (place_in t c) post_count) (place_in t c) (refusal_word ChannelFree)
      go true true e = rw (place_named_lem t c e, lt-ltb (some_place t c) post_count (some_low t c))
      go true false e = rw (place_past t c e)
      go false b e = refl

  -- what the word tells: a place of a post, or 1
  told : holder_word t c < 65536 → (is_channel c ≡ true) × (place_in t c < post_count) × (holder_word t c ≡ place_in t c)
  unfolding holder_word
  told l = go (is_channel c) (ltb (place_in t c) post_count) refl refl l
    where
      go : (p q : Bool) → is_channel c ≡ p → ltb (place_in t c) post_count ≡ q → cond (p && q) (place_in t c) (refusal_word ChannelFree) < 65536
          → (p ≡ true) × (place_in t c < post_count) × (cond (p && q) (place_in t c) (refusal_word ChannelFree) ≡ place_in t c)
      go true true e f m = (refl, ltb-true _ _ f, refl)
      go true false e f m = absurd (let z : ⊥ = omega arith in z)
      go false q e f m = absurd (let z : ⊥ = omega arith in z)

  -- below 65,536 it is a post that holds the channel, whatever the index says
  pub some_holder : holder_word t c < 65536 → (is_channel c ≡ true) × (holder_word t c < post_count) × (holds (post_in t (holder_word t c)).head c ≡ true)
  some_holder l =
      let k = told l in
      (k.0, rw k.2 k.1, rw k.2 (place_holds t c k.1))

  -- and where the index names a post that holds it, the word is that post's number
  pub named_holder : (i : ℕ) → i < post_count → is_channel c ≡ true → get_or t.index c 0 ≡ suc i → holds (post_in t i).head c ≡ true → holder_word t c ≡ i
  unfolding holder_word some_place
  named_holder i low channel named q =
      let on : c ≤ 31 = leb-true c 31 channel in
      let entry : get_or t.index (c % channel_count) 0 ≡ suc i = ap (λ (k : ℕ). get_or t.index k 0) (mod-eq_of_lt (omega arith)) ∙ named in
      let here : some_place t c ≡ i = ap place_named entry ∙ named_back i low in
      let place : place_in t c ≡ i = place_named_lem t c (rw here q) ∙ here in
      rw (channel, place, lt-ltb i post_count low)

  -- every other word is refusal 1's
  pub no_holder : 65536 ≤ holder_word t c → holder_word t c ≡ refusal_word ChannelFree
  unfolding holder_word
  no_holder l = go (is_channel c && ltb (place_in t c) post_count) refl l
    where
      go : (b : Bool) → is_channel c && ltb (place_in t c) post_count ≡ b → 65536 ≤ cond b (place_in t c) (refusal_word ChannelFree)
          → cond b (place_in t c) (refusal_word ChannelFree) ≡ refusal_word ChannelFree
      go true e m = absurd (let z : ⊥ = omega (arith, ltb-true (place_in t c) post_count (and_second (is_channel c) (ltb (place_in t c) post_count) e)) in z)
      go false e m = refl

  -- 01: "A frame or tick goes to the post that holds its channel."
  pub goes_to : holder_word t c < 65536 → (time : ℕ) (a : Arriving) → feed_of t c time a ≡ feed_at t (holder_word t c) c time a
  unfolding feed_of
  goes_to l time a = let k = told l in rw (k.2, k.0, lt-ltb _ _ k.1)

  pub goes_nowhere : 65536 ≤ holder_word t c → (time : ℕ) (a : Arriving) → feed_of t c time a ≡ refused t ChannelFree
  unfolding feed_of holder_word
  goes_nowhere l time a = go (is_channel c && ltb (place_in t c) post_count) refl l
    where
      go : (b : Bool) → is_channel c && ltb (place_in t c) post_count ≡ b → 65536 ≤ cond b (place_in t c) (refusal_word ChannelFree)
          → cond b (feed_at t (place_in t c) c time a) (refused t ChannelFree) ≡ refused t ChannelFree
      go true e m = absurd (let z : ⊥ = omega (arith, ltb-true (place_in t c) post_count (and_second (is_channel c) (ltb (place_in t c) post_count) e)) in z)
      go false e m = refl

-- ---- over accepted steps

module _ (t : Table) (s : Steps) (kept : Kept t s) (c : ℕ) where
  pub holder_right : holder_word t c ≡ holder01 s c
  unfolding holder_word holder01
  holder_right = go (is_channel c) refl
    where
      go : (b : Bool) → is_channel c ≡ b → holder_word t c ≡ holder01 s c
      go true e = rw (place_in_lem t s kept.posts kept.index c e)
      go false e = rw e

  -- the post that stands on the channel
  pub holder_stands : (i : ℕ) (lim : PlainLimits) (h : History) → i < post_count → standing i s ≡ held c lim h → holder_word t c ≡ i
  unfolding holder01
  holder_stands i lim h low own =
      let range : InRange (held c lim h) = subst InRange own (kept.ranges i low) in
      holder_right ∙ rw (holder_is s kept.apart i c low (ap (λ (x : Standing). holds_in x c) own ∙ eq-eqb c c refl), range.0, lt-ltb i post_count low)

  -- and no other word is below 65,536
  pub stands_on : holder_word t c < 65536 → (holder_word t c < post_count) × (lim : PlainLimits) × (h : History) × (standing (holder_word t c) s ≡ held c lim h)
  stands_on l =
      let k = told t c l in
      let e : holder_word t c ≡ holder s c = k.2 ∙ place_in_lem t s kept.posts kept.index c k.0 in
      let low : holder_word t c < post_count = rw k.2 k.1 in
      let o = held_on (standing (holder s c) s) c (holder_holds s c (rw e at low)) in
      (low, o.0, o.1, ap (λ (i : ℕ). standing i s) e ∙ o.2)

  -- a frame or tick on the channel is answered by 01's rules over that post's own history
  pub answers : (i : ℕ) (lim : PlainLimits) (h : History) → i < post_count → standing i s ≡ held c lim h → (time : ℕ) (a : Arriving) → (feed_of t c time a).answer ≡ answer_in (held c lim h) time a
  unfolding feed01
  answers i lim h low own time a =
      let range : InRange (held c lim h) = subst InRange own (kept.ranges i low) in
      (feed_right t s c time a kept).answer ∙ rw (holder_is s kept.apart i c low (ap (λ (x : Standing). holds_in x c) own ∙ eq-eqb c c refl), range.0, lt-ltb i post_count low, own)
