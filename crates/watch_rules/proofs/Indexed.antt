-- The index of a table that stands for accepted steps: by it a channel's post is found as by the search, and each step keeps it so.
use Rattle.std.specs.Prelude.{Ok, Err}
use Prim.Native.Nat.{ℕ, zero, suc, ◌+◌, ◌-◌, ◌%◌, ◌<◌, ◌≤◌}
use native.Mathlib.Nat.{mod-eq_of_lt}
use native.Mathlib.Decide.{ℕ_discrete}
use native.Mathlib.Omega.{arith}
use mathlib.Core.Path.{◌≡◌, refl, ap, sym, ◌∙◌}
use mathlib.Core.List.{List, [], ◌∷◌}
use mathlib.Core.Bool.{Bool, true, false, cond, ◌&&◌}
use lib.Dec.{eqb, ltb}
use lib.ListN.{length, get_or, set, replicate, length-set}
use lib.Seq.{get_or-set_same, get_or-set_other}
use borrow.Author.Tests.{eqb-true, eqb-false, ne_eqb, ltb-true, ltb-false, lt-ltb, leb-true}
use Rattle.refusals.specs.declared.Refusal.TheVariants.{ChannelFree}
use Rattle.rule_limits.specs.declared.PlainLimits.{PlainLimits}
use Rattle.rules.specs.declared.Post.{Post}
use Rattle.rules.specs.History.{Event}
use Rattle.rules.specs.Record.{is_set}
use Rattle.rules.proofs.Look.{used_look, channel_look}
use Rattle.watch_rules.specs.declared.Table.{Table}
use Rattle.watch_rules.specs.Answer.{Answer}
use Rattle.watch_rules.specs.Table.{post_count, channel_count, is_channel, holds, no_post, post_in, entry_of, place_named, some_place, place_in, Arriving, refused, feed_at, feed_of, empty_table}
use Rattle.watch_rules.specs.Steps.{setUp, release, event, Steps, Standing, free, held, standing, holds_in, holder, if_found, kept_post, posts_of, Apart, Indexed}
use Rattle.watch_rules.proofs.Standings.{standing_none, standing_set_up, standing_set_up_other, standing_release, standing_release_other, over_event, holder_holds, holder_first, holder_most, holder_none, holder_alike, holder_is, alone}
use Rattle.watch_rules.proofs.Placed.{holds_look, post_at}

-- ---- a channel's post by the index

pub named_back : (i : ℕ) → i < post_count → place_named (suc i) ≡ i
unfolding place_named
named_back i low = let z : suc i + (post_count - 1) ≡ i + post_count = omega arith in ap (λ (k : ℕ). k % post_count) z ∙ omega arith

nobody_named : place_named 0 ≡ post_count - 1
unfolding place_named
nobody_named = refl

module _ (t : Table) (s : Steps) (same : t.posts ≡ posts_of s) (true-to : Indexed t.index s) (c : ℕ) (channel : is_channel c ≡ true) where
  low : c < channel_count
  low = let z : c ≤ 31 = leb-true c 31 channel in omega arith

  entry : get_or t.index (c % channel_count) 0 ≡ entry_of (holder s c)
  unfolding Indexed
  entry = ap (λ (k : ℕ). get_or t.index k 0) (mod-eq_of_lt low) ∙ true-to.1 c low

  holds-there : (i : ℕ) → i < post_count → holds (post_in t i).head c ≡ holds_in (standing i s) c
  holds-there i h = ap (λ (p : Post). holds p.head c) (ap (λ (ps : List Post). get_or ps i no_post) same ∙ post_at s i h) ∙ holds_look (standing i s) c

  found_at : (i : ℕ) → some_place t c ≡ i → (b : Bool) → holds (post_in t i).head c ≡ b → place_in t c ≡ cond b i post_count
  unfolding place_in
  found_at i e b q = rw (e, q)

  pub place_in_lem : place_in t c ≡ holder s c
  unfolding some_place
  place_in_lem = go (ltb (holder s c) post_count) refl
    where
      go : (b : Bool) → ltb (holder s c) post_count ≡ b → place_in t c ≡ holder s c
      go true e =
          let h : holder s c < post_count = ltb-true (holder s c) post_count e in
          found_at (holder s c) (ap place_named (entry ∙ rw e) ∙ named_back (holder s c) h) true (holds-there (holder s c) h ∙ holder_holds s c h)
      go false e =
          let past : post_count ≤ holder s c = ltb-false (holder s c) post_count e in
          found_at (post_count - 1) (ap place_named (entry ∙ rw e) ∙ nobody_named) false (holds-there (post_count - 1) (omega arith) ∙ not-held (post_count - 1) (omega arith) past) ∙ omega (arith, holder_most s c)
        where
          not-held : (i : ℕ) → i < post_count → post_count ≤ holder s c → holds_in (standing i s) c ≡ false
          not-held i h past = by (holds_in (standing i s) c) refl
            where
              by : (b : Bool) → holds_in (standing i s) c ≡ b → b ≡ false
              by true q = absurd (let z : ⊥ = omega (arith, holder_first s c i h q) in z)
              by false q = refl

-- ---- kept by each step

-- the same posts hold the same channels
indexed_alike : (xs : List ℕ) (s z : Steps) → ((d j : ℕ) → j < post_count → holds_in (standing j z) d ≡ holds_in (standing j s) d) → Indexed xs s → Indexed xs z
unfolding Indexed
indexed_alike xs s z same true-to = (true-to.0, λ d h. true-to.1 d h ∙ ap entry_of (sym (holder_alike s z d (same d))))

indexed_event : (xs : List ℕ) (s : Steps) (c : ℕ) (e : Event) → Indexed xs s → Indexed xs (event c e ∷ s)
indexed_event xs s c e =
    indexed_alike xs s (event c e ∷ s) (λ d j h. over_event s (λ x. holds_in x d ≡ holds_in (standing j s) d) j c e (λ lim g same. same) refl)

pub indexed_fed : (xs : List ℕ) (s : Steps) (c : ℕ) (e : Event) (r : Answer) → Indexed xs s → Indexed xs (if_found r (event c e) s)
indexed_fed xs s c e (Ok n) = indexed_event xs s c e
indexed_fed xs s c e (Err w) = λ true-to. true-to

-- frames and ticks leave the index of any table as it was
pub feed_index : (t : Table) (c time : ℕ) (a : Arriving) → (feed_of t c time a).table.index ≡ t.index
unfolding feed_of feed_at
feed_index t c time a = go (is_channel c && ltb (place_in t c) post_count)
  where
    go : (b : Bool) → (cond b (feed_at t (place_in t c) c time a) (refused t ChannelFree)).table.index ≡ t.index
    go true = refl
    go false = refl

-- the index without the entry of the channel that a post held
abbrev pub cleared : Standing → List ℕ → List ℕ
cleared free xs = xs
cleared (held d lim h) xs = set xs d 0

pub cleared_look : (x : Standing) (xs : List ℕ) → cond (is_set (kept_post x).head.used) (set xs (kept_post x).head.channel 0) xs ≡ cleared x xs
cleared_look free xs = refl
cleared_look (held d lim h) xs = rw (used_look d lim h, channel_look d lim h)

cleared_long : (x : Standing) (xs : List ℕ) → length (cleared x xs) ≡ length xs
cleared_long free xs = refl
cleared_long (held d lim h) xs = length-set xs d 0

cleared_at : (x : Standing) (xs : List ℕ) (d : ℕ) → d < length xs → get_or (cleared x xs) d 0 ≡ cond (holds_in x d) 0 (get_or xs d 0)
cleared_at free xs d h = refl
cleared_at (held k lim g) xs d h = go (eqb k d) refl
  where
    go : (b : Bool) → eqb k d ≡ b → get_or (set xs k 0) d 0 ≡ cond b 0 (get_or xs d 0)
    go true e = rw (eqb-true k d e) (get_or-set_same xs d 0 0 h)
    go false e = get_or-set_other xs k d 0 0 (λ q. eqb-false k d e (sym q))

module _ (xs : List ℕ) (s z : Steps) (apart : Apart s) (true-to : Indexed xs s) (i : ℕ) (low : i < post_count)
    (others : (j : ℕ) → (j ≡ i → ⊥) → standing j z ≡ standing j s) where
  -- a channel that the post i does not hold afterwards
  left_at : (d : ℕ) → d < channel_count → holds_in (standing i z) d ≡ false → get_or (cleared (standing i s) xs) d 0 ≡ entry_of (holder z d)
  unfolding Indexed
  left_at d h gone = cleared_at (standing i s) xs d (omega (arith, true-to.0, h)) ∙ go (holds_in (standing i s) d) refl
    where
      go : (b : Bool) → holds_in (standing i s) d ≡ b → cond b 0 (get_or xs d 0) ≡ entry_of (holder z d)
      go true q = rw (holder_none z d (λ j hj. nobody j hj (ℕ_discrete j i)))
        where
          nobody : (j : ℕ) → j < post_count → Dec (j ≡ i) → holds_in (standing j z) d ≡ false
          nobody j hj (yes e) = rw e gone
          nobody j hj (no ne) = rw (others j ne) (alone s apart i j d low hj q ne)
      go false q = true-to.1 d h ∙ ap entry_of (sym (holder_alike s z d (λ j hj. as_before j hj (ℕ_discrete j i))))
        where
          as_before : (j : ℕ) → j < post_count → Dec (j ≡ i) → holds_in (standing j z) d ≡ holds_in (standing j s) d
          as_before j hj (yes e) = rw e (gone ∙ sym q)
          as_before j hj (no ne) = rw (others j ne)

module _ (xs : List ℕ) (s : Steps) (apart : Apart s) (true-to : Indexed xs s) (i : ℕ) (low : i < post_count) where
  pub indexed_release : Indexed (cleared (standing i s) xs) (release i ∷ s)
  unfolding Indexed
  indexed_release = (
    cleared_long (standing i s) xs ∙ true-to.0,
    λ d h. left_at xs s (release i ∷ s) apart true-to i low (λ j ne. standing_release_other s i j (ne_eqb i j (λ e. ne (sym e)))) d h
        (ap (λ (x : Standing). holds_in x d) (standing_release s i)),
  )

  pub indexed_set_up : (c : ℕ) (lim : PlainLimits) → c < channel_count → Apart (setUp i c lim ∷ s) → Indexed (set (cleared (standing i s) xs) c (suc i)) (setUp i c lim ∷ s)
  unfolding Indexed
  indexed_set_up c lim on apart-now = (
    length-set (cleared (standing i s) xs) c (suc i) ∙ cleared_long (standing i s) xs ∙ true-to.0,
    λ d h. go d h (eqb c d) refl,
  )
    where
      seated : (d : ℕ) → holds_in (standing i (setUp i c lim ∷ s)) d ≡ eqb c d
      seated d = ap (λ (x : Standing). holds_in x d) (standing_set_up s i c lim)

      go : (d : ℕ) → d < channel_count → (b : Bool) → eqb c d ≡ b → get_or (set (cleared (standing i s) xs) c (suc i)) d 0 ≡ entry_of (holder (setUp i c lim ∷ s) d)
      go d h true e =
          let named : entry_of (holder (setUp i c lim ∷ s) d) ≡ suc i = rw (holder_is (setUp i c lim ∷ s) apart-now i d low (seated d ∙ e), lt-ltb i post_count low) in
          rw (eqb-true c d e) (get_or-set_same (cleared (standing i s) xs) d (suc i) 0 (omega (arith, cleared_long (standing i s) xs, true-to.0, h))) ∙ sym named
      go d h false e =
          get_or-set_other (cleared (standing i s) xs) c d (suc i) 0 (λ q. eqb-false c d e (sym q))
          ∙ left_at xs s (setUp i c lim ∷ s) apart true-to i low (λ j ne. standing_set_up_other s i c lim j (ne_eqb i j (λ q. ne (sym q)))) d h (seated d ∙ e)

-- ---- the table to start with

zeros : (n c : ℕ) → ◌≡◌ {A = ℕ} (get_or (replicate n 0) c 0) 0
zeros zero c = refl
zeros (suc n) zero = refl
zeros (suc n) (suc c) = zeros n c

pub indexed_none : Indexed empty_table.index []
unfolding Indexed
indexed_none = (refl, λ c h. zeros channel_count c ∙ sym (rw (holder_none [] c (λ j hj. ap (λ (x : Standing). holds_in x c) (standing_none j)))))
