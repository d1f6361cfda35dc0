-- The digits of a number: the recursion that `numeral` follows, and a proof by it. Assumes nothing.
use mathlib.Core.Path.{◌≡◌, refl, sym, ap, ◌∙◌}
use mathlib.Core.Logic.{◌⊎◌, inl, inr}
use mathlib.Core.List.{List, [], ◌∷◌, ◌++◌}
use Prim.Native.Nat.{ℕ, zero, suc, ◌-◌, ◌/◌, ◌%◌, ◌^◌, ◌≤◌, ◌<◌}
use native.Mathlib.Nat.{div-lt_self, div-lt_iff_lt-mul, pow-suc, mul-le-mul_left, pow-zero}
use native.Mathlib.Omega.{arith}
use lib.ListN.{length, drop, set}
use lib.Seq.{drop-cons, drop-set-lt, get_or-set_same, lt-length-set}
use borrow.Author.Tests.{lt-ltb, le-ltb}
use Rattle.text_numbers.specs.Numbers.{glyph_of, digits_in, numeral}
use Rattle.text_numbers.proofs.Cases.{which}

module _ (b : ℕ) (o : 1 < b) where
  less : (n : ℕ) → b ≤ n → n / b < n
  less n h = div-lt_self (omega arith) o

  small : (turns n : ℕ) → n < b → digits_in b turns n ≡ glyph_of n ∷ []
  unfolding digits_in
  small zero n h = refl
  small (suc t) n h = rw (lt-ltb n b h)

  large : (turns n : ℕ) → b ≤ n → digits_in b (suc turns) n ≡ digits_in b turns (n / b) ++ (glyph_of (n % b) ∷ [])
  unfolding digits_in
  large t n h = rw (le-ltb n b h)

  -- turns beyond those that n takes change nothing
  enough : (t u n : ℕ) → n ≤ t → n ≤ u → digits_in b t n ≡ digits_in b u n
  enough zero u n h k = small zero n (omega arith) ∙ sym (small u n (omega arith))
  enough (suc t) zero n h k = small (suc t) n (omega arith) ∙ sym (small zero n (omega arith))
  enough (suc t) (suc u) n h k = go (λ l. enough t u (n / b) (omega (arith, less n l)) (omega (arith, less n l))) (which n b)
    where
      go : (b ≤ n → digits_in b t (n / b) ≡ digits_in b u (n / b)) → (n < b) ⊎ (b ≤ n) → digits_in b (suc t) n ≡ digits_in b (suc u) n
      go r (inl l) = small (suc t) n l ∙ sym (small (suc u) n l)
      go r (inr l) = large t n l ∙ ap (λ (ds : List ℕ). ds ++ (glyph_of (n % b) ∷ [])) (r l) ∙ sym (large u n l)

  pub one_digit : (n : ℕ) → n < b → numeral b n ≡ glyph_of n ∷ []
  unfolding numeral
  one_digit n h = small n n h

  pub more_digits : (n : ℕ) → b ≤ n → numeral b n ≡ numeral b (n / b) ++ (glyph_of (n % b) ∷ [])
  unfolding numeral
  more_digits zero h = absurd (omega arith)
  more_digits (suc m) h =
      large m (suc m) h
      ∙ ap (λ (ds : List ℕ). ds ++ (glyph_of (suc m % b) ∷ []))
      (enough m (suc m / b) (suc m / b) (omega (arith, less (suc m) h)) (omega arith))

  -- what holds of one digit, and of n where it holds of n / b, holds of each n
  pub by_digits : (P : ℕ → Type 0) → ((n : ℕ) → n < b → P n) → ((n : ℕ) → b ≤ n → P (n / b) → P n) → (n : ℕ) → P n
  by_digits P one more n = upto n n (omega arith)
    where
      upto : (k n : ℕ) → n ≤ k → P n
      upto zero n h = one n (omega arith)
      upto (suc k) n h = go (λ l. upto k (n / b) (omega (arith, less n l))) (which n b)
        where
          go : (b ≤ n → P (n / b)) → (n < b) ⊎ (b ≤ n) → P n
          go r (inl l) = one n l
          go r (inr l) = more n l (r l)

-- ---- the loop that writes them, the last digit first

-- a place more is taken, and what is left is shorter
pub shorter : (b rest at : ℕ) → 10 ≤ b → b ≤ rest → rest < 10 ^ at → (2 ≤ at) × (rest / b < 10 ^ (at - 1))
shorter b rest zero o h l = absurd (omega (arith, pow-zero 10))
shorter b rest (suc zero) o h l = absurd (omega arith)
shorter b rest (suc (suc k)) o h l =
    let p : ℕ = 10 ^ suc k in
    let e : suc (suc k) - 1 ≡ suc k = omega arith in
    let h : rest / b < p = (div-lt_iff_lt-mul {k = b} {x = rest} {y = p} (omega arith)).1 (omega (arith, pow-suc 10 (suc k), mul-le-mul_left p o)) in
    (omega arith, rw e h)

-- a store in front of what stands from at on
pub in_front : (t : List ℕ) (i v : ℕ) → i < length t → drop i (set t i v) ≡ v ∷ drop (suc i) t
in_front t i v h =
    drop-cons (set t i v) i 0 (lt-length-set t i v h) ∙ rw (get_or-set_same t i v 0 h, drop-set-lt (suc i) t i v (omega arith))
