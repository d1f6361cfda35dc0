-- The words of bytes and of a signed number, put one after the other. Assumes nothing.
use mathlib.Core.Path.{◌≡◌, refl}
use mathlib.Core.Bool.{true, false}
use lib.Dec.{eqb}
use borrow.Author.Tests.{true-eqb}
use mathlib.Core.List.{List, [], ◌∷◌, map}
use Prim.Native.Nat.{ℕ, ◌+◌, ◌<◌}
use native.Mathlib.Omega.{arith}
use native.Mathlib.Numerals.{add-one}
use lib.IntN.{ℤ, pos, negsuc, nat_abs}
use lib.ListN.{length, get_or, drop, drop_of_length-le}
use lib.Seq.{drop-cons}
use Rattle.text_numbers.specs.Ascii.{dash}
use Rattle.text_numbers.specs.Numbers.{numeral}
use Rattle.text_written.specs.Words.{two_digits, hex_words, signed_words}

pub no_bytes : (xs : List ℕ) → true ≡ eqb (length xs) 0 → (dash ∷ []) ∷ [] ≡ hex_words xs
unfolding hex_words
no_bytes [] h = refl
no_bytes (x ∷ xs) h = absurd (let e : length (x ∷ xs) ≡ 0 = true-eqb _ _ h in omega arith)

pub some_bytes : (xs : List ℕ) → false ≡ eqb (length xs) 0 → map two_digits xs ≡ hex_words xs
unfolding hex_words
some_bytes [] h = absurd cc
some_bytes (x ∷ xs) h = refl

pub next_byte : (xs : List ℕ) (i : ℕ) → i < length xs → map two_digits (drop i xs) ≡ two_digits (get_or xs i 0) ∷ map two_digits (drop (i + 1) xs)
next_byte xs i h = rw (add-one, drop-cons xs i 0 h)

pub last_byte : (xs : List ℕ) → map two_digits (drop (length xs) xs) ≡ []
last_byte xs = rw (drop_of_length-le xs {i = length xs} (omega arith))

module _ (z : ℤ) (n : ℕ) where
  pub below_0 : z ≡ negsuc n → signed_words z ≡ (dash ∷ []) ∷ numeral 10 (nat_abs z) ∷ []
  unfolding signed_words
  below_0 e = rw e

  pub from_0 : z ≡ pos n → signed_words z ≡ numeral 10 (nat_abs z) ∷ []
  unfolding signed_words
  from_0 e = rw e
