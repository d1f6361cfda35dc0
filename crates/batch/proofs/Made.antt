-- An array made by calls of a closure, each of which leaves the closure as it was: at each place stands what a call gives there.
use Rattle.std.proofs.Common.{◌≡◌, refl, sym, subst, ◌∙◌, length, ℕ, zero, suc, ◌+◌, ◌<◌, ◌≤◌, List, get_or, Bool, true, false, eqb, arith}
use Rattle.std.specs.Array.{IsFromFnResult, IsFromFnResultFrom}
use Rattle.std.specs.Fn.{Called}
use Rattle.std.specs.List.{range_with_len}
use Rattle.std.proofs.lemmas.List.FromFn.{fill_by_all}
use borrow.Author.Tests.{eqb-true, eqb-false}
use denote.Param.Members.{Mut}

module _ {F B : Type 0} (g : Mut F (ℕ × Unit {0}) B) (f : F) (v : ℕ → B)
    (gives : (i : ℕ) (y : B) (q : F) → Called g f (i, tt) y q → (y ≡ v i) × (q ≡ f)) where
  made_from : (ys : List B) (d : B) (i n k : ℕ) → IsFromFnResultFrom g f ys i n → i ≤ k → k < i + n → get_or ys k d ≡ v k
  made_from ys d i zero k h low high = absurd (let z : ⊥ = omega arith in z)
  made_from ys d i (suc n) k (q, y, at, call, rest) low high =
      go (eqb i k) refl
      (λ more. made_from ys d (i + 1) n k (subst (λ (p : F). IsFromFnResultFrom g p ys (i + 1) n) (gives i y q call).1 rest) more (omega arith))
    where
      go : (b : Bool) → eqb i k ≡ b → (i + 1 ≤ k → get_or ys k d ≡ v k) → get_or ys k d ≡ v k
      go true e later = subst (λ (j : ℕ). get_or ys j d ≡ v j) (eqb-true i k e) (at.1 d ∙ (gives i y q call).0)
      go false e later = let apart = eqb-false i k e in later (omega (arith, apart))

  -- it is the list that has the same at each place
  pub made : (xs ys : List B) (d : B) (n : ℕ) → IsFromFnResult g f ys n → length xs ≡ n → ((k : ℕ) → k < n → get_or xs k d ≡ v k) → ys ≡ xs
  made xs ys d n h e w =
      fill_by_all v ys n d h.long (λ k below. made_from ys d 0 n k h.each (omega arith) (omega arith)) ∙ sym (fill_by_all v xs n d e w)
