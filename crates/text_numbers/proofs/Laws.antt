-- What a reader may rely on: a number's text reads as the number, and no other text does. Assumes nothing.
use mathlib.Core.Path.{◌≡◌, refl, sym, ap, ◌∙◌}
use mathlib.Core.Bool.{Bool, true, false, cond, ◌&&◌}
use mathlib.Core.List.{List}
use Prim.Native.Nat.{ℕ, ◌≤◌, ◌<◌}
use native.Mathlib.Omega.{arith}
use lib.Dec.{leb}
use borrow.Author.Tests.{le-leb}
use Rattle.text_numbers.specs.Numbers.{are_digits, value_of, is_shortest, number_of, numeral}
use Rattle.std.specs.Prelude.{Some, None}
use Rattle.text_numbers.proofs.Spelling.{spelt, shortest, spelt_back}

-- ---- numbers, in any base of 2 to 16

module _ (b : ℕ) (o : 1 < b) (h : b ≤ 16) (most : ℕ) where
  -- a number's text reads as the number
  pub number_numeral : (n : ℕ) → n ≤ most → number_of b most (numeral b n) ≡ Some n
  unfolding number_of
  number_numeral n l =
      let s = spelt b o h n in
      rw (shortest b o h n, s.1, s.0, le-leb n most l)

  -- and no other text does
  pub one_text : (s : List ℕ) (n : ℕ) → number_of b most s ≡ Some n → s ≡ numeral b n
  unfolding number_of
  one_text s n e = let r = parts e in spelt_back b o h s r.0 r.1 ∙ ap (numeral b) r.2
    where
      read : (x y z : Bool) → cond (x && (y && z)) (Some (value_of b s)) None ≡ Some n → (x ≡ true) × (y ≡ true) × (value_of b s ≡ n)
      read true true true e = (refl, refl, cc)
      read true true false e = absurd (let z : ◌≡◌ {A = ℕ} 0 1 = cc in omega arith)
      read true false z e = absurd (let z : ◌≡◌ {A = ℕ} 0 1 = cc in omega arith)
      read false y z e = absurd (let z : ◌≡◌ {A = ℕ} 0 1 = cc in omega arith)

      parts : number_of b most s ≡ Some n → (is_shortest s ≡ true) × (are_digits b s ≡ true) × (value_of b s ≡ n)
      parts e = read (is_shortest s) (are_digits b s) (leb (value_of b s) most) e

  -- so two different texts never read as the same number
  pub texts_differ : (s t : List ℕ) (n : ℕ) → number_of b most s ≡ Some n → number_of b most t ≡ Some n → s ≡ t
  texts_differ s t n d e = one_text s n d ∙ sym (one_text t n e)
