-- The lists of surplus records: a number is listed exactly where its record is surplus, and they ascend.
use mathlib.Core.Path.{◌≡◌, refl, sym, ap, ◌∙◌, subst}
use mathlib.Core.Logic.{inl, inr}
use mathlib.Core.Bool.{Bool, true, false, cond, true≢false}
use mathlib.Core.List.{List, [], ◌∷◌}
use Prim.Native.Nat.{ℕ, zero, suc, ◌+◌, ◌-◌, ◌≤◌, ◌<◌}
use native.Mathlib.Omega.{arith}
use lib.ListN.{length, take}
use lib.Dec.{eqb}
use borrow.Author.Tests.{ltb-true, lt-ltb, eqb-true, eqb-false}
use Rattle.log_records.specs.Record.{Rec}
use Rattle.compare_rules.specs.Records.{at}
use Rattle.compare_rules.specs.Surplus.{count_of, is_surplus, surplus_from, surplus_of, Stands, SurplusRecord, Ascends}

-- ---- what stands in a list, and in which order

-- of the k records behind the first i: number n is listed exactly where it is one of them and surplus
abbrev Within : List Rec → List Rec → ℕ → ℕ → ℕ → Type 0
Within a b i k n = (i < n) × (n ≤ i + k) × (is_surplus a b (n - 1) ≡ true)

listed_there : (a b : List Rec) (k i n : ℕ) → Stands n (surplus_from a b i k) → Within a b i k n
unfolding surplus_from
listed_there a b zero i n h = absurd h
listed_there a b (suc k) i n h = by (is_surplus a b i) refl h (listed_there a b k (suc i) n) where
  by : (t : Bool) → is_surplus a b i ≡ t → Stands n (cond t (suc i ∷ surplus_from a b (suc i) k) (surplus_from a b (suc i) k))
      → (Stands n (surplus_from a b (suc i) k) → Within a b (suc i) k n) → Within a b i (suc k) n
  by true p (inl e) f =
      let z : n - 1 ≡ i = omega (arith, e) in
      (omega (arith, e), omega (arith, e), ap (is_surplus a b) z ∙ p)
  by true p (inr g) f = let w = f g in (omega (arith, w.0), omega (arith, w.1), w.2)
  by false p g f = let w = f g in (omega (arith, w.0), omega (arith, w.1), w.2)

there_listed : (a b : List Rec) (k i n : ℕ) → Within a b i k n → Stands n (surplus_from a b i k)
unfolding surplus_from
there_listed a b zero i n w = absurd (let z : ⊥ = omega (arith, w.0, w.1) in z)
there_listed a b (suc k) i n w = by (is_surplus a b i) refl (eqb n (suc i)) refl (there_listed a b k (suc i) n) where
  by : (t : Bool) → is_surplus a b i ≡ t → (u : Bool) → eqb n (suc i) ≡ u → (Within a b (suc i) k n → Stands n (surplus_from a b (suc i) k))
      → Stands n (cond t (suc i ∷ surplus_from a b (suc i) k) (surplus_from a b (suc i) k))
  by true p true q f = inl (eqb-true n (suc i) q)
  by true p false q f = let ne : n ≡ suc i → ⊥ = eqb-false n (suc i) q in inr (f (omega (arith, w.0), omega (arith, w.1), w.2))
  by false p true q f =
      let z : n - 1 ≡ i = omega (arith, eqb-true n (suc i) q) in
      absurd (true≢false (sym w.2 ∙ ap (is_surplus a b) z ∙ p))
  by false p false q f = let ne : n ≡ suc i → ⊥ = eqb-false n (suc i) q in f (omega (arith, w.0), omega (arith, w.1), w.2)

module _ (a b : List Rec) (n : ℕ) where
  as-taken : 0 < n → take (suc (n - 1)) a ≡ take n a
  as-taken h = let z : suc (n - 1) ≡ n = omega arith in ap (λ (k : ℕ). take k a) z

  -- a number is listed only where its record is surplus
  pub listed_surplus : Stands n (surplus_of a b) → SurplusRecord a b n
  listed_surplus h =
      let w = listed_there a b (length a) 0 n h in
      (w.0, omega (arith, w.1), subst (λ (l : List Rec). count_of (at a (n - 1)) b < count_of (at a (n - 1)) l) (as-taken w.0) (ltb-true _ _ w.2))

  -- and of every record that is
  pub surplus_listed : SurplusRecord a b n → Stands n (surplus_of a b)
  surplus_listed w =
      there_listed a b (length a) 0 n
      (w.0, omega (arith, w.1), lt-ltb _ _ (subst (λ (l : List Rec). count_of (at a (n - 1)) b < count_of (at a (n - 1)) l) (sym (as-taken w.0)) w.2))

later : (i : ℕ) (ns : List ℕ) → Ascends (suc i) ns → Ascends i ns
later i [] h = tt
later i (n ∷ ns) h = (omega (arith, h.0), h.1)

pub ascends_from : (a b : List Rec) (k i : ℕ) → Ascends i (surplus_from a b i k)
unfolding surplus_from
ascends_from a b zero i = tt
ascends_from a b (suc k) i = by (is_surplus a b i) (ascends_from a b k (suc i)) where
  by : (t : Bool) → Ascends (suc i) (surplus_from a b (suc i) k) → Ascends i (cond t (suc i ∷ surplus_from a b (suc i) k) (surplus_from a b (suc i) k))
  by true h = (omega arith, h)
  by false h = later i (surplus_from a b (suc i) k) h

pub ascends : (a b : List Rec) → Ascends 0 (surplus_of a b)
ascends a b = ascends_from a b (length a) 0

few_from : (a b : List Rec) (k i : ℕ) → length (surplus_from a b i k) ≤ k
unfolding surplus_from
few_from a b zero i = omega arith
few_from a b (suc k) i = by (is_surplus a b i) (few_from a b k (suc i)) where
  by : (t : Bool) → length (surplus_from a b (suc i) k) ≤ k → length (cond t (suc i ∷ surplus_from a b (suc i) k) (surplus_from a b (suc i) k)) ≤ suc k
  by true h = omega arith
  by false h = omega arith

-- no more numbers than records
pub few_listed : (a b : List Rec) → length (surplus_of a b) ≤ length a
few_listed a b = few_from a b (length a) 0
