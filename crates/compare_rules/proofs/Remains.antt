-- What is listed, taken out of its log, leaves two logs with the same records, counted with repeats.
use mathlib.Core.Path.{◌≡◌, refl, sym, ap, ap₂, ◌∙◌, subst}
use mathlib.Core.Bool.{Bool, true, false, cond}
use mathlib.Core.List.{List, [], ◌∷◌}
use Prim.Native.Nat.{ℕ, zero, suc, ◌+◌, ◌≤◌, ◌<◌, min}
use native.Mathlib.Omega.{arith}
use lib.ListN.{length, take, drop, drop_of_length-le}
use lib.Seq.{drop-cons}
use borrow.Author.Tests.{ltb-true, ltb-false, eq-eqb, ne_eqb}
use Rattle.log_records.specs.Record.{Rec, tick}
use Rattle.compare_rules.specs.Records.{same, at}
use Rattle.compare_rules.specs.Surplus.{count_of, is_surplus, surplus_from, surplus_of, taken_out, Ascends}
use Rattle.compare_rules.proofs.Sames.{rec_refl, rec_same, never}
use Rattle.compare_rules.proofs.Counts.{count_here, count_past, count_all}
use Rattle.compare_rules.proofs.Lists.{ascends_from}

-- a record whose number is below those listed stays
stays : (ns : List ℕ) (i : ℕ) (x : Rec) (xs : List Rec) → Ascends (suc i) ns → taken_out ns i (x ∷ xs) ≡ x ∷ taken_out ns (suc i) xs
unfolding taken_out
stays [] i x xs h = refl
stays (n ∷ ns) i x xs h = rw (ne_eqb n (suc i) (λ e. omega arith))

goes : (ns : List ℕ) (i : ℕ) (x : Rec) (xs : List Rec) → taken_out (suc i ∷ ns) i (x ∷ xs) ≡ taken_out ns (suc i) xs
unfolding taken_out
goes ns i x xs = rw (eq-eqb (suc i) (suc i) refl)

-- of each record the smaller number stays: min of so many among the first i, and of those behind
module _ (a b : List Rec) (r : Rec) where
  abbrev Stay : ℕ → ℕ → Type 0
  Stay i k = min (count_of r (take i a)) (count_of r b) + count_of r (taken_out (surplus_from a b i k) i (drop i a)) ≡ min (count_of r a) (count_of r b)

  stay-step : (i k : ℕ) → i < length a → Stay (suc i) k → Stay i (suc k)
  unfolding surplus_from count_of
  stay-step i k h e =
      subst (λ (l : List Rec). min (count_of r (take i a)) (count_of r b) + count_of r (taken_out (surplus_from a b i (suc k)) i l) ≡ min (count_of r a) (count_of r b))
      (sym (drop-cons a i (tick 0 0) h)) (by (is_surplus a b i) refl)
    where
      by : (t : Bool) → is_surplus a b i ≡ t
          → min (count_of r (take i a)) (count_of r b) + count_of r (taken_out (cond t (suc i ∷ surplus_from a b (suc i) k) (surplus_from a b (suc i) k)) i (at a i ∷ drop (suc i) a)) ≡ min (count_of r a) (count_of r b)
      by true p =
          ap (λ (l : List Rec). min (count_of r (take i a)) (count_of r b) + count_of r l) (goes (surplus_from a b (suc i) k) i (at a i) (drop (suc i) a))
          ∙ ap (λ (n : ℕ). n + count_of r (taken_out (surplus_from a b (suc i) k) (suc i) (drop (suc i) a))) (out (same r (at a i)) refl) ∙ e
        where
          out : (u : Bool) → same r (at a i) ≡ u → min (count_of r (take i a)) (count_of r b) ≡ min (count_of r (take (suc i) a)) (count_of r b)
          out true q =
              let z : r ≡ at a i = rec_same r (at a i) q in
              let l : count_of (at a i) b < count_of (at a i) (take (suc i) a) = ltb-true (count_of (at a i) b) (count_of (at a i) (take (suc i) a)) p in
              omega (arith, count_here a r i h z, ap (λ (x : Rec). count_of x b) z, ap (λ (x : Rec). count_of x (take (suc i) a)) z)
          out false q = ap (λ (n : ℕ). min n (count_of r b)) (sym (count_past a r i h (λ z. never q (subst (λ (x : Rec). same r x ≡ true) z (rec_refl r)))))
      by false p =
          ap (λ (l : List Rec). min (count_of r (take i a)) (count_of r b) + count_of r l) (stays (surplus_from a b (suc i) k) i (at a i) (drop (suc i) a) (ascends_from a b k (suc i)))
          ∙ kept (same r (at a i)) refl ∙ e
        where
          kept : (u : Bool) → same r (at a i) ≡ u
              → min (count_of r (take i a)) (count_of r b) + cond u (suc (count_of r (taken_out (surplus_from a b (suc i) k) (suc i) (drop (suc i) a)))) (count_of r (taken_out (surplus_from a b (suc i) k) (suc i) (drop (suc i) a)))
              ≡ min (count_of r (take (suc i) a)) (count_of r b) + count_of r (taken_out (surplus_from a b (suc i) k) (suc i) (drop (suc i) a))
          kept true q =
              let z : r ≡ at a i = rec_same r (at a i) q in
              let l : count_of (at a i) (take (suc i) a) ≤ count_of (at a i) b = ltb-false (count_of (at a i) b) (count_of (at a i) (take (suc i) a)) p in
              omega (arith, count_here a r i h z, ap (λ (x : Rec). count_of x b) z, ap (λ (x : Rec). count_of x (take (suc i) a)) z)
          kept false q =
              ap (λ (n : ℕ). min n (count_of r b) + count_of r (taken_out (surplus_from a b (suc i) k) (suc i) (drop (suc i) a)))
              (sym (count_past a r i h (λ z. never q (subst (λ (x : Rec). same r x ≡ true) z (rec_refl r)))))

  stay : (k i : ℕ) → i + k ≡ length a → Stay i k
  unfolding surplus_from count_of taken_out
  stay zero i e =
      let z : i ≡ length a = omega arith in
      ap₂ (λ (n : ℕ) (l : List Rec). min n (count_of r b) + count_of r l) (ap (λ (x : ℕ). count_of r (take x a)) z ∙ count_all a r) (drop_of_length-le a {i = i} (omega arith)) ∙ omega arith
  stay (suc k) i e = stay-step i k (omega arith) (stay k (suc i) (omega arith))

  pub smaller : count_of r (taken_out (surplus_of a b) 0 a) ≡ min (count_of r a) (count_of r b)
  unfolding count_of
  smaller = omega (arith, stay (length a) 0 (omega arith))

-- what is listed, taken out of its log, leaves two logs with the same records, counted with repeats
pub same_left : (a b : List Rec) (r : Rec) → count_of r (taken_out (surplus_of a b) 0 a) ≡ count_of r (taken_out (surplus_of b a) 0 b)
same_left a b r =
    let swap : min (count_of r a) (count_of r b) ≡ min (count_of r b) (count_of r a) = omega arith in
    smaller a b r ∙ swap ∙ sym (smaller b a r)
