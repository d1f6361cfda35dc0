-- An array made by calls of a closure, each of which leaves the closure as it was: at each place stands what a call gives there.
use Rattle.std.proofs.Common.{◌≡◌, refl, sym, ap, subst, ◌∙◌, ℕ, zero, suc, ◌+◌, ◌<◌, ◌≤◌, List, map, get_or, Bool, true, false, eqb, arith}
use Rattle.std.specs.Array.{IsFromFnResult, IsFromFnResultFrom, IsMapOf, MapsFrom}
use Rattle.std.specs.Fn.{Called}
use Rattle.std.specs.List.{range_with_len}
use Rattle.std.proofs.lemmas.List.FromFn.{fill_by_all}
use borrow.Author.Tests.{eqb-true, eqb-false}
use denote.Param.Members.{Mut}

module _ {F B : Type 0} (g : Mut F (ℕ × Unit {0}) B) (f : F) (v : ℕ → B)
    (gives : (i : ℕ) (y : B) (q : F) → Called g f (i, tt) y q → (y ≡ v i) × (q ≡ f)) where
  made_from : (ys : List B) (d : B) (i n k : ℕ) → IsFromFnResultFrom g f ys i n → i ≤ k → k < i + n → get_or ys k d ≡ v k
  made_from ys d i zero k h low high = absurd (let z : ⊥ = omega arith in z)
  made_from ys d i (suc n) k (q, y, at, call, rest) low high =
      go (eqb i k) refl
      (λ more. made_from ys d (i + 1) n k (subst (λ (p : F). IsFromFnResultFrom g p ys (i + 1) n) (gives i y q call).1 rest) more (omega arith))
    where
      go : (b : Bool) → eqb i k ≡ b → (i + 1 ≤ k → get_or ys k d ≡ v k) → get_or ys k d ≡ v k
      go true e later = subst (λ (j : ℕ). get_or ys j d ≡ v j) (eqb-true i k e) (at.1 d ∙ (gives i y q call).0)
      go false e later = let apart = eqb-false i k e in later (omega (arith, apart))

  pub made : (ys : List B) (d : B) (n : ℕ) → IsFromFnResult g f ys n → ys ≡ map v (range_with_len 0 n)
  made ys d n h = fill_by_all v ys n d h.long (λ k below. made_from ys d 0 n k h.each (omega arith) (omega arith))

-- the same of an array that `map` makes of another
module _ {F A B : Type 0} (g : Mut F (A × Unit {0}) B) (f : F) (v : A → B)
    (gives : (x : A) (y : B) (q : F) → Called g f (x, tt) y q → (y ≡ v x) × (q ≡ f)) where
  mapped_from : (xs : List A) (ys : List B) (d : A) (e : B) (i n k : ℕ) → MapsFrom g f xs ys i n → i ≤ k → k < i + n → get_or ys k e ≡ v (get_or xs k d)
  mapped_from xs ys d e i zero k h low high = absurd (let z : ⊥ = omega arith in z)
  mapped_from xs ys d e i (suc n) k (q, x, y, at_x, at_y, call, rest) low high =
      go (eqb i k) refl
      (λ more. mapped_from xs ys d e (i + 1) n k (subst (λ (p : F). MapsFrom g p xs ys (i + 1) n) (gives x y q call).1 rest) more (omega arith))
    where
      go : (b : Bool) → eqb i k ≡ b → (i + 1 ≤ k → get_or ys k e ≡ v (get_or xs k d)) → get_or ys k e ≡ v (get_or xs k d)
      go true t later =
          subst (λ (j : ℕ). get_or ys j e ≡ v (get_or xs j d)) (eqb-true i k t) (at_y.1 e ∙ (gives x y q call).0 ∙ ap v (sym (at_x.1 d)))
      go false t later = let apart = eqb-false i k t in later (omega (arith, apart))

  pub mapped : (xs : List A) (ys : List B) (d : A) (e : B) (n : ℕ) → IsMapOf g f xs ys n → ys ≡ map (λ (k : ℕ). v (get_or xs k d)) (range_with_len 0 n)
  mapped xs ys d e n h =
      fill_by_all (λ (k : ℕ). v (get_or xs k d)) ys n e h.long (λ k below. mapped_from xs ys d e 0 n k h.each (omega arith) (omega arith))
