-- What a character counts, and the character of a digit, by their cases; each undoes the other. Assumes nothing.
use mathlib.Core.Path.{◌≡◌, ap, ◌∙◌}
use mathlib.Core.Logic.{◌⊎◌, inl, inr}
use Prim.Native.Nat.{ℕ, ◌+◌, ◌-◌, ◌≤◌, ◌<◌}
use native.Mathlib.Omega.{arith}
use borrow.Author.Tests.{le-leb, lt-leb, lt-ltb, le-ltb}
use Rattle.text_numbers.specs.Ascii.{zero_sign, nine_sign, letter_a, letter_f}
use Rattle.text_numbers.specs.Numbers.{digit_of, glyph_of}
use Rattle.text_numbers.proofs.Cases.{which}

module _ (c : ℕ) where
  pub decimal_digit : zero_sign ≤ c → c ≤ nine_sign → digit_of c ≡ c - zero_sign
  unfolding digit_of
  decimal_digit l h = rw (le-leb zero_sign c l, le-leb c nine_sign h)

  pub letter_digit : letter_a ≤ c → c ≤ letter_f → digit_of c ≡ c - letter_a + 10
  unfolding digit_of
  letter_digit l h = rw (le-leb zero_sign c (omega arith), lt-leb c nine_sign (omega arith), le-leb letter_a c l, le-leb c letter_f h)

  pub below_digits : c < zero_sign → digit_of c ≡ 16
  unfolding digit_of
  below_digits l = rw (lt-leb zero_sign c l, lt-leb letter_a c (omega arith))

  pub between_digits : nine_sign < c → c < letter_a → digit_of c ≡ 16
  unfolding digit_of
  between_digits l h = rw (le-leb zero_sign c (omega arith), lt-leb c nine_sign l, lt-leb letter_a c h)

  pub above_digits : letter_f < c → digit_of c ≡ 16
  unfolding digit_of
  above_digits l = rw (le-leb zero_sign c (omega arith), lt-leb c nine_sign (omega arith), le-leb letter_a c (omega arith), lt-leb c letter_f l)

module _ (d : ℕ) where
  pub low_glyph : d < 10 → glyph_of d ≡ zero_sign + d
  unfolding glyph_of
  low_glyph h = rw (lt-ltb d 10 h)

  pub high_glyph : 10 ≤ d → glyph_of d ≡ letter_a + (d - 10)
  unfolding glyph_of
  high_glyph h = rw (le-ltb d 10 h)

pub digit_glyph : (d : ℕ) → d < 16 → digit_of (glyph_of d) ≡ d
digit_glyph d h = go (which d 10)
  where
    go : (d < 10) ⊎ (10 ≤ d) → digit_of (glyph_of d) ≡ d
    go (inl l) =
        ap digit_of (low_glyph d l) ∙ decimal_digit (zero_sign + d) (omega arith) (omega arith) ∙ omega arith
    go (inr l) =
        ap digit_of (high_glyph d l) ∙ letter_digit (letter_a + (d - 10)) (omega arith) (omega arith) ∙ omega arith

pub glyph_digit : (c : ℕ) → digit_of c < 16 → glyph_of (digit_of c) ≡ c
glyph_digit c h = low (which c zero_sign)
  where
    letter : nine_sign < c → (letter_f < c) ⊎ (c ≤ letter_f) → (c < letter_a) ⊎ (letter_a ≤ c) → glyph_of (digit_of c) ≡ c
    letter l (inl m) n = absurd (omega (arith, above_digits c m))
    letter l (inr m) (inl n) = absurd (omega (arith, between_digits c l n))
    letter l (inr m) (inr n) =
        ap glyph_of (letter_digit c n m) ∙ high_glyph (c - letter_a + 10) (omega arith) ∙ omega arith

    high : zero_sign ≤ c → (nine_sign < c) ⊎ (c ≤ nine_sign) → glyph_of (digit_of c) ≡ c
    high l (inl m) = letter m (which letter_f c) (which c letter_a)
    high l (inr m) = ap glyph_of (decimal_digit c l m) ∙ low_glyph (c - zero_sign) (omega arith) ∙ omega arith

    low : (c < zero_sign) ⊎ (zero_sign ≤ c) → glyph_of (digit_of c) ≡ c
    low (inl l) = absurd (omega (arith, below_digits c l))
    low (inr l) = high l (which nine_sign c)
