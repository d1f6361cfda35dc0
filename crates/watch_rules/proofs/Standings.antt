-- What one accepted step makes of each post's standing, and who holds a channel.
use Prim.Native.Nat.{ℕ, zero, suc, ◌+◌, ◌<◌, ◌≤◌}
use native.Mathlib.Decide.{ℕ_discrete}
use native.Mathlib.Omega.{arith}
use mathlib.Core.Path.{◌≡◌, refl, ap, sym, subst, ◌∙◌}
use mathlib.Core.List.{[], ◌∷◌}
use mathlib.Core.Bool.{Bool, true, false, cond, not, ◌&&◌, true≢false}
use mathlib.Core.Option.{Option, none, some}
use borrow.Author.Tests.{eqb-true, eqb-false, eq-eqb, ne_eqb, ltb-true, ltb-false, lt-ltb, le-ltb, not-true}
use lib.Dec.{eqb, ltb}
use Rattle.rule_limits.specs.declared.PlainLimits.{PlainLimits}
use Rattle.rules.specs.History.{Event, History, newest, since_newest}
use Rattle.watch_rules.specs.Table.{post_count, is_other}
use Rattle.watch_rules.specs.Steps.{setUp, release, event, Steps, Standing, free, held, setting_of, standing_from, standing, holds_in, find_from, holder, other_holds, Apart}

-- ---- one step more

pub standing_none : (i : ℕ) → standing i [] ≡ free
unfolding standing
standing_none i = refl

abbrev Found : Type 0
Found = Option (Option (ℕ × PlainLimits))

quiet_set_up : (x : Found) (s : Steps) (i c : ℕ) (lim : PlainLimits) → standing_from x (setUp i c lim ∷ s) ≡ standing_from x s
quiet_set_up none s i c lim = refl
quiet_set_up (some none) s i c lim = refl
quiet_set_up (some (some p)) s i c lim = refl

quiet_release : (x : Found) (s : Steps) (i : ℕ) → standing_from x (release i ∷ s) ≡ standing_from x s
quiet_release none s i = refl
quiet_release (some none) s i = refl
quiet_release (some (some p)) s i = refl

quiet_event : (x : Found) (s : Steps) (c : ℕ) (e : Event) → holds_in (standing_from x s) c ≡ false → standing_from x (event c e ∷ s) ≡ standing_from x s
quiet_event none s c e q = refl
quiet_event (some none) s c e q = refl
quiet_event (some (some p)) s c e q = rw (ne_eqb c p.0 (λ r. eqb-false p.0 c q (sym r)))

own_event : (x : Found) (s : Steps) (c : ℕ) (lim : PlainLimits) (h : History) (e : Event) → standing_from x s ≡ held c lim h → standing_from x (event c e ∷ s) ≡ held c lim (e ∷ h)
own_event none s c lim h e q = cc
own_event (some none) s c lim h e q = cc
own_event (some (some p)) s c lim h e q = let z : c ≡ p.0 = cc in rw (eq-eqb c p.0 z) (cc)

module _ (s : Steps) where
  -- 01: "Setting up a post again .. starts an empty history."
  pub standing_set_up : (i c : ℕ) (lim : PlainLimits) → standing i (setUp i c lim ∷ s) ≡ held c lim []
  unfolding standing
  standing_set_up i c lim = rw (eq-eqb i i refl)

  pub standing_set_up_other : (i c : ℕ) (lim : PlainLimits) (j : ℕ) → eqb i j ≡ false → standing j (setUp i c lim ∷ s) ≡ standing j s
  unfolding standing
  standing_set_up_other i c lim j q = rw q (quiet_set_up (newest (setting_of j) s) (since_newest (setting_of j) s) i c lim)

  -- 01: "Release frees the channel and drops the record."
  pub standing_release : (i : ℕ) → standing i (release i ∷ s) ≡ free
  unfolding standing
  standing_release i = rw (eq-eqb i i refl)

  pub standing_release_other : (i j : ℕ) → eqb i j ≡ false → standing j (release i ∷ s) ≡ standing j s
  unfolding standing
  standing_release_other i j q = rw q (quiet_release (newest (setting_of j) s) (since_newest (setting_of j) s) i)

  -- 01: "A frame or tick goes to the post that holds its channel."
  pub standing_event : (i c : ℕ) (lim : PlainLimits) (h : History) (e : Event) → standing i s ≡ held c lim h → standing i (event c e ∷ s) ≡ held c lim (e ∷ h)
  unfolding standing
  standing_event i c lim h e q = own_event (newest (setting_of i) s) (since_newest (setting_of i) s) c lim h e q

  pub standing_event_other : (c : ℕ) (e : Event) (j : ℕ) → holds_in (standing j s) c ≡ false → standing j (event c e ∷ s) ≡ standing j s
  unfolding standing
  standing_event_other c e j q = quiet_event (newest (setting_of j) s) (since_newest (setting_of j) s) c e q

-- a standing that holds a channel is a set-up on it
pub held_on : (x : Standing) (c : ℕ) → holds_in x c ≡ true → (lim : PlainLimits) × (h : History) × (x ≡ held c lim h)
held_on free c q = absurd (true≢false (sym q))
held_on (held d lim h) c q = (lim, h, rw (eqb-true d c q))

-- ---- a fact of every standing, carried over one step more

module _ (s : Steps) (P : Standing → Type 0) (j : ℕ) where
  pub over_set_up : (i c : ℕ) (lim : PlainLimits) → (i ≡ j → P (held c lim [])) → ((i ≡ j → ⊥) → P (standing j s)) → P (standing j (setUp i c lim ∷ s))
  over_set_up i c lim here there = go (ℕ_discrete i j)
    where
      go : Dec (i ≡ j) → P (standing j (setUp i c lim ∷ s))
      go (yes e) = subst (λ (k : ℕ). P (standing j (setUp k c lim ∷ s))) (sym e) (subst P (sym (standing_set_up s j c lim)) (here e))
      go (no ne) = subst P (sym (standing_set_up_other s i c lim j (ne_eqb i j ne))) (there ne)

  pub over_release : (i : ℕ) → P free → P (standing j s) → P (standing j (release i ∷ s))
  over_release i here there = go (ℕ_discrete i j)
    where
      go : Dec (i ≡ j) → P (standing j (release i ∷ s))
      go (yes e) = subst (λ (k : ℕ). P (standing j (release k ∷ s))) (sym e) (subst P (sym (standing_release s j)) here)
      go (no ne) = subst P (sym (standing_release_other s i j (ne_eqb i j ne))) there

  pub over_event : (c : ℕ) (e : Event) → ((lim : PlainLimits) (h : History) → P (held c lim h) → P (held c lim (e ∷ h))) → P (standing j s) → P (standing j (event c e ∷ s))
  over_event c e more before = go (holds_in (standing j s) c) refl
    where
      go : (b : Bool) → holds_in (standing j s) c ≡ b → P (standing j (event c e ∷ s))
      go true q =
          let o = held_on (standing j s) c q in
          subst P (sym (standing_event s j c o.0 o.1 e o.2)) (more o.0 o.1 (subst P o.2 before))
      go false q = subst P (sym (standing_event_other s c e j q)) before

-- ---- the first that is found

module _ (p : ℕ → Bool) where
  find-here : (k n : ℕ) → find_from p k n < k + n → p (find_from p k n) ≡ true
  unfolding find_from
  find-here k zero h = absurd (let z : ⊥ = omega arith in z)
  find-here k (suc n) h = go (p k) refl (find-here (suc k) n) h
    where
      go : (b : Bool) → p k ≡ b → (find_from p (suc k) n < suc k + n → p (find_from p (suc k) n) ≡ true)
          → cond b k (find_from p (suc k) n) < k + suc n → p (cond b k (find_from p (suc k) n)) ≡ true
      go true e rest l = e
      go false e rest l = rest (omega arith)

  find_first : (k n j : ℕ) → k ≤ j → j < k + n → p j ≡ true → find_from p k n ≤ j
  unfolding find_from
  find_first k zero j low high q = omega arith
  find_first k (suc n) j low high q = go (p k) refl (find_first (suc k) n j)
    where
      go : (b : Bool) → p k ≡ b → (suc k ≤ j → j < suc k + n → p j ≡ true → find_from p (suc k) n ≤ j) → cond b k (find_from p (suc k) n) ≤ j
      go true e rest = low
      go false e rest = let ne : k ≡ j → ⊥ = λ r. true≢false (sym q ∙ ap p (sym r) ∙ e) in rest (omega arith) (omega arith) q

  find-most : (k n : ℕ) → find_from p k n ≤ k + n
  unfolding find_from
  find-most k zero = omega arith
  find-most k (suc n) = go (p k) (find-most (suc k) n)
    where
      go : (b : Bool) → find_from p (suc k) n ≤ suc k + n → cond b k (find_from p (suc k) n) ≤ k + suc n
      go true rest = omega arith
      go false rest = omega arith

pub find_same : (p q : ℕ → Bool) (k n : ℕ) → ((i : ℕ) → k ≤ i → i < k + n → p i ≡ q i) → find_from p k n ≡ find_from q k n
unfolding find_from
find_same p q k zero same = refl
find_same p q k (suc n) same =
    rw (same k (omega arith) (omega arith), find_same p q (suc k) n (λ i low high. same i (omega arith) (omega arith)))

-- ---- who holds a channel

module _ (s : Steps) (c : ℕ) where
  pub holder_most : holder s c ≤ post_count
  unfolding holder
  holder_most = find-most (λ i. holds_in (standing i s) c) 0 post_count

  pub holder_holds : holder s c < post_count → holds_in (standing (holder s c) s) c ≡ true
  unfolding holder
  holder_holds h = find-here (λ i. holds_in (standing i s) c) 0 post_count h

  pub holder_first : (j : ℕ) → j < post_count → holds_in (standing j s) c ≡ true → holder s c ≤ j
  unfolding holder
  holder_first j h q = find_first (λ i. holds_in (standing i s) c) 0 post_count j (omega arith) h q

  pub holder_none : ((j : ℕ) → j < post_count → holds_in (standing j s) c ≡ false) → holder s c ≡ post_count
  holder_none nobody = go (ltb (holder s c) post_count) refl
    where
      go : (b : Bool) → ltb (holder s c) post_count ≡ b → holder s c ≡ post_count
      go true e =
          let h : holder s c < post_count = ltb-true (holder s c) post_count e in
          absurd (true≢false (sym (holder_holds h) ∙ nobody (holder s c) h))
      go false e = omega (arith, ltb-false (holder s c) post_count e, holder_most)

-- the same posts hold it after both
pub holder_alike : (s z : Steps) (c : ℕ) → ((j : ℕ) → j < post_count → holds_in (standing j z) c ≡ holds_in (standing j s) c) → holder z c ≡ holder s c
unfolding holder
holder_alike s z c same = find_same (λ i. holds_in (standing i z) c) (λ i. holds_in (standing i s) c) 0 post_count (λ i low high. same i high)

-- ---- whether another post holds it

and_true : (a b : Bool) → (a && b) ≡ true → (a ≡ true) × (b ≡ true)
and_true true b q = (refl, q)
and_true false b q = absurd (true≢false (sym q))

module _ (s : Steps) (i c : ℕ) where
  -- a post other than i, with the channel
  abbrev is_another : ℕ → Bool
  is_another j = not (eqb j i) && holds_in (standing j s) c

  others-found : (k n : ℕ) → other_holds s i c k n ≡ ltb (find_from is_another k n) (k + n)
  unfolding other_holds find_from
  others-found k zero = sym (le-ltb k (k + 0) (omega arith))
  others-found k (suc n) = go (is_another k) (others-found (suc k) n)
    where
      go : (b : Bool) → other_holds s i c (suc k) n ≡ ltb (find_from is_another (suc k) n) (suc k + n)
          → cond b true (other_holds s i c (suc k) n) ≡ ltb (cond b k (find_from is_another (suc k) n)) (k + suc n)
      go true rest = sym (lt-ltb k (k + suc n) (omega arith))
      go false rest = rest ∙ ap (ltb (find_from is_another (suc k) n)) (omega arith)

  abbrev another : ℕ
  another = find_from is_another 0 post_count

  pub others_some : other_holds s i c 0 post_count ≡ true → (j : ℕ) × (j < post_count) × (eqb j i ≡ false) × (holds_in (standing j s) c ≡ true)
  others_some q =
      let h : another < post_count = ltb-true another post_count (sym (others-found 0 post_count) ∙ q) in
      let p = and_true (not (eqb another i)) (holds_in (standing another s) c) (find-here is_another 0 post_count h) in
      (another, h, not-true (eqb another i) p.0, p.1)

  pub others_none : other_holds s i c 0 post_count ≡ false → (j : ℕ) → j < post_count → eqb j i ≡ false → holds_in (standing j s) c ≡ false
  others_none q j h ne = go (holds_in (standing j s) c) refl
    where
      go : (b : Bool) → holds_in (standing j s) c ≡ b → b ≡ false
      go false e = refl
      go true e =
          let low : post_count ≤ another = ltb-false another post_count (sym (others-found 0 post_count) ∙ q) in
          absurd (let z : ⊥ = omega (arith, find_first is_another 0 post_count j (omega arith) h (rw (ne, e))) in z)

-- whether another post holds a channel depends on the channels of the others alone
pub others_alike : (s z : Steps) (i c : ℕ) → ((j : ℕ) → j < post_count → (j ≡ i → ⊥) → holds_in (standing j s) c ≡ holds_in (standing j z) c)
    → other_holds s i c 0 post_count ≡ other_holds z i c 0 post_count
others_alike s z i c agree = go (other_holds s i c 0 post_count) (other_holds z i c 0 post_count) refl refl
  where
    clash : (a b : Steps) → ((j : ℕ) → j < post_count → (j ≡ i → ⊥) → holds_in (standing j a) c ≡ holds_in (standing j b) c)
        → other_holds a i c 0 post_count ≡ true → other_holds b i c 0 post_count ≡ false → ⊥
    clash a b agrees p q =
        let o = others_some a i c p in
        true≢false (sym o.3 ∙ agrees o.0 o.1 (eqb-false o.0 i o.2) ∙ others_none b i c q o.0 o.1 o.2)

    go : (a b : Bool) → other_holds s i c 0 post_count ≡ a → other_holds z i c 0 post_count ≡ b → a ≡ b
    go true true p q = refl
    go false false p q = refl
    go true false p q = absurd (clash s z agree p q)
    go false true p q = absurd (clash z s (λ j h ne. sym (agree j h ne)) q p)

-- ---- where no channel is held twice

module _ (s : Steps) (apart : Apart s) where
  pub holder_is : (i c : ℕ) → i < post_count → holds_in (standing i s) c ≡ true → holder s c ≡ i
  unfolding Apart
  holder_is i c h q =
      let k : holder s c < post_count = omega (arith, holder_first s c i h q) in
      apart (holder s c) i c k h (holder_holds s c k) q

  pub alone : (i j c : ℕ) → i < post_count → j < post_count → holds_in (standing i s) c ≡ true → (j ≡ i → ⊥) → holds_in (standing j s) c ≡ false
  unfolding Apart
  alone i j c hi hj q ne = go (holds_in (standing j s) c) refl
    where
      go : (b : Bool) → holds_in (standing j s) c ≡ b → b ≡ false
      go true e = absurd (ne (apart j i c hj hi e q))
      go false e = refl

  -- the first post with the channel is another exactly where some other post has it
  pub other_look : (i c : ℕ) → is_other (holder s c) i ≡ other_holds s i c 0 post_count
  unfolding is_other
  other_look i c = go (other_holds s i c 0 post_count) refl
    where
      not-here : (b d : Bool) → ltb (holder s c) post_count ≡ b → eqb (holder s c) i ≡ d → other_holds s i c 0 post_count ≡ false → (b && not d) ≡ false
      not-here false d p q r = refl
      not-here true true p q r = refl
      not-here true false p q r =
          let h : holder s c < post_count = ltb-true (holder s c) post_count p in
          absurd (true≢false (sym (holder_holds s c h) ∙ others_none s i c r (holder s c) h q))

      go : (b : Bool) → other_holds s i c 0 post_count ≡ b → (ltb (holder s c) post_count && not (eqb (holder s c) i)) ≡ b
      go true q =
          let o = others_some s i c q in
          rw (holder_is o.0 c o.1 o.3, lt-ltb o.0 post_count o.1, o.2)
      go false q = not-here (ltb (holder s c) post_count) (eqb (holder s c) i) refl refl q
