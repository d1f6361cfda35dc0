-- Turns of `pair`: a record of the second log is used exactly when its rank there is at most the number of the same in the first log so far.
use mathlib.Core.Path.{◌≡◌, refl, sym, ap, ◌∙◌, subst}
use mathlib.Core.Bool.{Bool, true, false, cond}
use mathlib.Core.List.{List, ◌∷◌}
use Prim.Native.Nat.{ℕ, suc, ◌+◌, ◌-◌, ◌≤◌, ◌<◌}
use native.Mathlib.Omega.{arith}
use native.Mathlib.Numerals.{add-one}
use native.Mathlib.Nat.{sub-zero}
use lib.ListN.{length, get_or, take, set, replicate, length-set, length-replicate, get_or-replicate}
use lib.Seq.{sets, get_or-set_same, get_or-set_other}
use lib.Dec.{ltb, leb, eqb}
use borrow.Author.Tests.{ltb-true, ltb-false, lt-ltb, le-ltb, leb-true, leb-false, le-leb, lt-leb, eqb-true, eqb-false}
use Rattle.log_records.specs.Record.{Rec}
use Rattle.compare_rules.specs.Records.{same, at}
use Rattle.compare_rules.specs.Surplus.{count_of, is_surplus, surplus_from, surplus_of}
use Rattle.compare_logs.specs.Held.{FirstFree, UsedBelow}
use Rattle.compare_rules.proofs.Sames.{rec_refl, rec_same, never}
use Rattle.compare_rules.proofs.Counts.{count_here, count_past, count_up, count_all, rank, ranked, rank_less}
use Rattle.compare_logs.proofs.Lists.{Onto, onto_more, onto_end}

abbrev bit : Bool → ℕ
bit true = 1
bit false = 0

abbrev pub Marks : List Rec → List Rec → List ℕ → ℕ → Type 0
Marks a b used i = (j : ℕ) → j < length b → get_or used j 0 ≡ bit (leb (rank b j) (count_of (at b j) (take i a)))

module _ (a b : List Rec) (used : List ℕ) (i : ℕ) (w : Marks a b used i) where
  is_free : (j : ℕ) → j < length b → get_or used j 0 ≡ 0 → count_of (at b j) (take i a) < rank b j
  is_free j h e = by (leb (rank b j) (count_of (at b j) (take i a))) refl (sym (w j h) ∙ e) where
    by : (t : Bool) → leb (rank b j) (count_of (at b j) (take i a)) ≡ t → bit t ≡ 0 → count_of (at b j) (take i a) < rank b j
    by true p q = absurd (omega arith)
    by false p q = leb-false (rank b j) (count_of (at b j) (take i a)) p

  is-used : (j : ℕ) → j < length b → (get_or used j 0 ≡ 0 → ⊥) → rank b j ≤ count_of (at b j) (take i a)
  is-used j h e = by (leb (rank b j) (count_of (at b j) (take i a))) refl (w j h) where
    by : (t : Bool) → leb (rank b j) (count_of (at b j) (take i a)) ≡ t → get_or used j 0 ≡ bit t → rank b j ≤ count_of (at b j) (take i a)
    by true p q = leb-true (rank b j) (count_of (at b j) (take i a)) p
    by false p q = absurd (e q)

-- r, the first that is free and the same as record i of a: those in front of it that are the same have been used
module _ (a b : List Rec) (used : List ℕ) (i low r : ℕ) (w : Marks a b used i) (u : UsedBelow used low) (f : FirstFree a b used i low (length b) r) where
  was-used : (j : ℕ) → j < r → at a i ≡ at b j → get_or used j 0 ≡ 0 → ⊥
  was-used j h e z = by (leb low j) refl where
    by : (t : Bool) → leb low j ≡ t → ⊥
    by true p = f.1 j h (leb-true low j p) z (subst (λ (x : Rec). same (at a i) x ≡ true) e (rec_refl (at a i)))
    by false p = u j (leb-false low j p) z

  few : count_of (at a i) (take r b) ≤ count_of (at a i) (take i a)
  few = ranked b (at a i) (count_of (at a i) (take i a)) r f.0
      (λ l p q. omega (arith, is-used a b used i w l (omega (arith, f.0)) (was-used l p q), ap (λ (x : Rec). count_of x (take i a)) q))

-- ---- the marks after one more record
step_leb : (x k : ℕ) → (x ≡ k + 1 → ⊥) → leb x (k + 1) ≡ leb x k
step_leb x k h = by (leb x k) refl where
  by : (t : Bool) → leb x k ≡ t → leb x (k + 1) ≡ t
  by true e = le-leb x (k + 1) (omega (arith, leb-true x k e))
  by false e = lt-leb x (k + 1) (let g : k < x = leb-false x k e in omega arith)

kept : (a b : List Rec) (i j : ℕ) → i < length a → (at a i ≡ at b j → rank b j ≡ count_of (at a i) (take i a) + 1 → ⊥)
    → leb (rank b j) (count_of (at b j) (take (suc i) a)) ≡ leb (rank b j) (count_of (at b j) (take i a))
kept a b i j h f = by (same (at b j) (at a i)) refl where
  by : (t : Bool) → same (at b j) (at a i) ≡ t → leb (rank b j) (count_of (at b j) (take (suc i) a)) ≡ leb (rank b j) (count_of (at b j) (take i a))
  by true e =
      let z : at b j ≡ at a i = rec_same (at b j) (at a i) e in
      ap (leb (rank b j)) (count_here a (at b j) i h z)
      ∙ step_leb (rank b j) (count_of (at b j) (take i a)) (λ q. f (sym z) (q ∙ ap (λ (x : Rec). count_of x (take i a) + 1) z))
  by false e = ap (leb (rank b j)) (count_past a (at b j) i h (λ z. never e (subst (λ (x : Rec). same (at b j) x ≡ true) z (rec_refl (at b j)))))

-- ---- surplus or not
surplus_more : (a b : List Rec) (i : ℕ) → i < length a → is_surplus a b i ≡ true
    → surplus_from a b i (length a - i) ≡ (i + 1) ∷ surplus_from a b (i + 1) (length a - (i + 1))
unfolding surplus_from
surplus_more a b i h e =
    let z : length a - i ≡ suc (length a - (i + 1)) = omega arith in
    ap (surplus_from a b i) z ∙ rw (e, add-one)

surplus_skip : (a b : List Rec) (i : ℕ) → i < length a → is_surplus a b i ≡ false
    → surplus_from a b i (length a - i) ≡ surplus_from a b (i + 1) (length a - (i + 1))
unfolding surplus_from
surplus_skip a b i h e =
    let z : length a - i ≡ suc (length a - (i + 1)) = omega arith in
    ap (surplus_from a b i) z ∙ rw (e, add-one)

-- ---- `pair`
abbrev pub Paired : List Rec → List Rec → List ℕ → List ℕ → List ℕ → ℕ → ℕ → ℕ → Type 0
Paired a b list₀ used list i k low =
    (i ≤ length a) × (k ≤ i) × (low ≤ length b) × (length used ≡ 512) × UsedBelow used low × Marks a b used i
    × Onto (surplus_of a b) list₀ list k (surplus_from a b i (length a - i))

module _ (a b : List Rec) (list₀ used list : List ℕ) (i k low low' r : ℕ) (h : i < length a) (few-b : length b ≤ 512) (inv : Paired a b list₀ used list i k low)
    (u : UsedBelow used low') (le : low' ≤ length b) (f : FirstFree a b used i low' (length b) r) where
  own : count_of (at a i) (take (suc i) a) ≡ count_of (at a i) (take i a) + 1
  own = count_here a (at a i) i h refl

  ends-b : count_of (at a i) (take (length b) b) ≡ count_of (at a i) b
  ends-b = count_all b (at a i)

  -- its partner is the next of the same
  partner : r < length b → rank b r ≡ count_of (at a i) (take i a) + 1
  partner lt =
      let z : at a i ≡ at b r = rec_same (at a i) (at b r) (f.2 lt).1 in
      let free = is_free a b used i inv.5 r lt (f.2 lt).0 in
      omega (arith, few a b used i low' r inv.5 u f, free, count_here b (at b r) r lt refl, ap (λ (x : Rec). count_of x (take i a)) z, ap (λ (x : Rec). count_of x (take r b)) z)

  matched : r < length b → is_surplus a b i ≡ false
  matched lt =
      let z : at a i ≡ at b r = rec_same (at a i) (at b r) (f.2 lt).1 in
      le-ltb (count_of (at a i) b) (count_of (at a i) (take (suc i) a))
      (omega (arith, own, partner lt, ends-b, count_up b (at a i) (suc r) (length b) (omega arith), ap (λ (x : Rec). count_of x (take (suc r) b)) z))

  left_over : length b ≤ r → is_surplus a b i ≡ true
  left_over ge =
      let z : r ≡ length b = omega (arith, f.0) in
      lt-ltb (count_of (at a i) b) (count_of (at a i) (take (suc i) a))
      (omega (arith, own, ends-b, few a b used i low' r inv.5 u f, ap (λ (x : ℕ). count_of (at a i) (take x b)) z))

  -- others of the same have another rank
  others : r < length b → (j : ℕ) → j < length b → (j ≡ r → ⊥) → at a i ≡ at b j → rank b j ≡ count_of (at a i) (take i a) + 1 → ⊥
  others lt j g ne e q =
      let z : at a i ≡ at b r = rec_same (at a i) (at b r) (f.2 lt).1 in
      by (ltb j r) refl z
    where
      by : (t : Bool) → ltb j r ≡ t → at a i ≡ at b r → ⊥
      by true p z = let l : j < r = ltb-true j r p in omega (arith, rank_less b j r l lt (sym e ∙ z), partner lt)
      by false p z = let l : r ≤ j = ltb-false j r p in omega (arith, rank_less b r j (omega arith) g (sym z ∙ e), partner lt)

  marks-found : r < length b → Marks a b (set used r 1) (i + 1)
  marks-found lt j g = by (eqb j r) refl where
    by : (t : Bool) → eqb j r ≡ t → get_or (set used r 1) j 0 ≡ bit (leb (rank b j) (count_of (at b j) (take (i + 1) a)))
    by true p =
        let same-j : j ≡ r = eqb-true j r p in
        let z : at a i ≡ at b r = rec_same (at a i) (at b r) (f.2 lt).1 in
        let room : r < length used = omega (arith, inv.3) in
        let full : rank b r ≤ count_of (at b r) (take (suc i) a) = omega (arith, partner lt, own, ap (λ (x : Rec). count_of x (take (suc i) a)) z) in
        rw (same-j, add-one) (get_or-set_same used r 1 0 room ∙ ap bit (sym (le-leb (rank b r) (count_of (at b r) (take (suc i) a)) full)))
    by false p =
        let ne : j ≡ r → ⊥ = eqb-false j r p in
        rw add-one (get_or-set_other used r j 1 0 ne ∙ inv.5 j g ∙ ap bit (sym (kept a b i j h (others lt j g ne))))

  marks-none : length b ≤ r → Marks a b used (i + 1)
  marks-none ge j g =
      rw add-one (inv.5 j g ∙ ap bit (sym (kept a b i j h
      (λ e q. omega (arith, is-used a b used i inv.5 j g (was-used a b used i low' r inv.5 u f j (omega arith) e), ap (λ (x : Rec). count_of x (take i a)) e)))))

  below-found : r < length b → UsedBelow (set used r 1) low'
  below-found lt j g e = by (eqb j r) refl where
    by : (t : Bool) → eqb j r ≡ t → ⊥
    by true p =
        let same-j : j ≡ r = eqb-true j r p in
        omega (arith, sym (get_or-set_same used r 1 0 (omega (arith, inv.3))) ∙ ap (λ (x : ℕ). get_or (set used r 1) x 0) (sym same-j) ∙ e)
    by false p = u j g (sym (get_or-set_other used r j 1 0 (eqb-false j r p)) ∙ e)

  pub pair_found : r < length b → Paired a b list₀ (set used r 1) list (i + 1) k low'
  pair_found lt = (
    omega arith,
    omega (arith, inv.1),
    le,
    length-set used r 1 ∙ inv.3,
    below-found lt,
    marks-found lt,
    subst (Onto (surplus_of a b) list₀ list k) (surplus_skip a b i h (matched lt)) inv.6,
  )

  pub pair_none : length b ≤ r → Paired a b list₀ used (set list k (i + 1)) (i + 1) (k + 1) low'
  pair_none ge = (
    omega arith,
    omega (arith, inv.1),
    le,
    inv.3,
    u,
    marks-none ge,
    onto_more (surplus_of a b) list₀ list k (i + 1) (surplus_from a b (i + 1) (length a - (i + 1)))
        (subst (Onto (surplus_of a b) list₀ list k) (surplus_more a b i h (left_over ge)) inv.6),
  )

pub pair_start : (a b : List Rec) (list₀ used : List ℕ) → length b ≤ 512 → used ≡ replicate 512 0 → Paired a b list₀ used list₀ 0 0 0
unfolding count_of
pair_start a b list₀ used few-b e =
    let z : surplus_from a b 0 (length a - 0) ≡ surplus_of a b = ap (surplus_from a b 0) (sub-zero (length a)) in
    (omega arith, omega arith, omega arith, ap length e ∙ length-replicate {A = ℕ} 512 0, λ j h. absurd (omega arith), marks, (omega (arith, ap length z), ap (sets list₀ 0) z, refl))
  where
    marks : Marks a b used 0
    marks j h =
        ap (λ (l : List ℕ). get_or l j 0) e ∙ get_or-replicate 512 j 0 0 (omega arith)
        ∙ ap bit (sym (lt-leb (rank b j) 0 (omega (arith, count_here b (at b j) j h refl))))

pub pair_end : (a b : List Rec) (list₀ used list : List ℕ) (i k low : ℕ) → length a ≤ i → Paired a b list₀ used list i k low
    → (k ≡ length (surplus_of a b)) × (list ≡ sets list₀ 0 (surplus_of a b)) × ((j : ℕ) → j < length b → get_or used j 0 ≡ cond (is_surplus b a j) 0 1)
unfolding surplus_from
pair_end a b list₀ used list i k low h w =
    let none : length a - i ≡ 0 = omega arith in
    let all : i ≡ length a = omega (arith, w.0) in
    let o = onto_end (surplus_of a b) list₀ list k (subst (λ (x : ℕ). Onto (surplus_of a b) list₀ list k (surplus_from a b i x)) none w.6) in
    (o.0, o.1, λ j g. w.5 j g ∙ ap (λ (x : ℕ). bit (leb (rank b j) x)) (ap (λ (x : ℕ). count_of (at b j) (take x a)) all ∙ count_all a (at b j)) ∙ flip (rank b j) (count_of (at b j) a))
  where
    flip : (x y : ℕ) → bit (leb x y) ≡ cond (ltb y x) 0 1
    flip x y = by (leb x y) refl where
      by : (t : Bool) → leb x y ≡ t → bit t ≡ cond (ltb y x) 0 1
      by true e = rw (le-ltb y x (leb-true x y e))
      by false e = rw (lt-ltb y x (leb-false x y e))
