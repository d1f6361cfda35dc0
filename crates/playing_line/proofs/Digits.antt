-- How many decimal digits a number has: as few as spell it, and at most k below 10 ^ k.
use mathlib.Core.Path.{◌≡◌, refl, ap, ◌∙◌}
use mathlib.Core.Bool.{Bool, true, false, not}
use mathlib.Core.Logic.{◌⊎◌, inl, inr}
use mathlib.Core.List.{List, [], ◌∷◌}
use Prim.Native.Nat.{ℕ, zero, suc, ◌+◌, ◌/◌, ◌%◌, ◌^◌, ◌≤◌, ◌<◌}
use native.Mathlib.Nat.{div-lt_iff_lt-mul, pow-suc, zero-mul}
use native.Mathlib.Omega.{arith}
use lib.Dec.{ltb, eqb}
use lib.ListN.{length, length-append}
use borrow.Author.Tests.{eqb-true}
use Rattle.text_numbers.specs.Ascii.{zero_sign}
use Rattle.text_numbers.specs.Numbers.{digit_of, glyph_of, are_digits, value_of, is_shortest, numeral}
use Rattle.text_numbers.proofs.Cases.{which, both}
use Rattle.text_numbers.proofs.Numerals.{one_digit, more_digits}
use Rattle.text_numbers.proofs.Spelling.{spelt_back}

ten : ◌<◌ 1 10
ten = omega arith

one_long : (n : ℕ) → n < 10 → length (numeral 10 n) ≡ 1
one_long n h = ap length (one_digit 10 ten n h)

more_long : (n : ℕ) → 10 ≤ n → length (numeral 10 n) ≡ length (numeral 10 (n / 10)) + 1
more_long n h = ap length (more_digits 10 ten n h) ∙ length-append (numeral 10 (n / 10)) (glyph_of (n % 10) ∷ [])

-- a number below 10 ^ k has at most k digits
pub few_digits : (k n : ℕ) → n < 10 ^ suc k → length (numeral 10 n) ≤ suc k
few_digits zero n h = omega (arith, one_long n (omega arith))
few_digits (suc k) n h = go (λ l. few_digits k (n / 10) ((div-lt_iff_lt-mul {k = 10} {x = n} {y = 10 ^ suc k} (omega arith)).1 (omega (arith, pow-suc 10 (suc k))))) (which n 10)
  where
    go : (10 ≤ n → length (numeral 10 (n / 10)) ≤ suc k) → (n < 10) ⊎ (10 ≤ n) → length (numeral 10 n) ≤ suc (suc k)
    go f (inl l) = omega (arith, one_long n l)
    go f (inr l) = omega (arith, more_long n l, f l)

ten_high : ◌≤◌ 10 16
ten_high = omega arith

zero_front : (c : ℕ) (cs : List ℕ) → c ≡ zero_sign → value_of 10 (c ∷ cs) ≡ value_of 10 cs
unfolding value_of digit_of
zero_front c cs e = ap (λ (x : ℕ). value_of 10 (x ∷ cs)) e ∙ omega (arith, zero-mul (10 ^ length cs))

-- whatever digits spell a number are no fewer than the numeral's, which has no leading zero (text_numbers' law `shortest`)
pub least_digits : (s : List ℕ) → 1 ≤ length s → are_digits 10 s ≡ true → length (numeral 10 (value_of 10 s)) ≤ length s
unfolding is_shortest are_digits value_of digit_of
least_digits [] h d = absurd (omega arith)
least_digits (c ∷ []) h d = omega (arith, ap length (spelt_back 10 ten ten_high (c ∷ []) refl d))
least_digits (c ∷ e ∷ cs) h d = go (eqb c zero_sign) refl (least_digits (e ∷ cs) (omega arith) (both (ltb (digit_of c) 10) (are_digits 10 (e ∷ cs)) d).1)
  where
    go : (b : Bool) → eqb c zero_sign ≡ b → length (numeral 10 (value_of 10 (e ∷ cs))) ≤ length (e ∷ cs) → length (numeral 10 (value_of 10 (c ∷ e ∷ cs))) ≤ length (c ∷ e ∷ cs)
    go false z h = omega (arith, ap length (spelt_back 10 ten ten_high (c ∷ e ∷ cs) (ap not z) d))
    go true z h = omega (arith, ap (λ (v : ℕ). length (numeral 10 v)) (zero_front c (e ∷ cs) (eqb-true c zero_sign z)), h)
