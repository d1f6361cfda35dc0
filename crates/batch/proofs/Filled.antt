-- An array that is filled place by place with the elements of a list: after j places it begins as the list does.
use Prim.Native.Nat.{ℕ, ◌+◌, ◌<◌, ◌≤◌}
use native.Mathlib.Numerals.{add-one}
use native.Mathlib.Omega.{arith}
use mathlib.Core.Path.{◌≡◌, ap, sym, ◌∙◌}
use mathlib.Core.List.{List, [], ◌∷◌, ◌++◌}
use lib.ListN.{length, take, get_or, set, length-set}
use lib.Seq.{take_all, take-suc, take-suc-set}

module _ {A : Type 0} (n : ℕ) (s : List A) where
  abbrev pub Filled : List A → ℕ → Type 0
  Filled l j = (j ≤ n) × (length l ≡ n) × (take j l ≡ take j s)

  pub filled_more : (l : List A) (z : A) (j : ℕ) → length s ≡ n → j < n → Filled l j → Filled (set l j (get_or s j z)) (j + 1)
  filled_more l z j h m e = (
    omega arith,
    length-set l j (get_or s j z) ∙ e.1,
    rw (add-one j) (take-suc-set l j (get_or s j z) (omega (arith, e.1)) ∙ ap (λ (x : List A). x ++ (get_or s j z ∷ [])) e.2 ∙ sym (take-suc s j z (omega (arith, h)))),
  )

  pub filled_whole : (l : List A) (j : ℕ) → length s ≡ n → n ≤ j → Filled l j → l ≡ s
  filled_whole l j h m e = sym (take_all j l (omega (arith, e.1))) ∙ e.2 ∙ take_all j s (omega (arith, h))
