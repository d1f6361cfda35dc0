-- The text of bytes: its length, its digits, and the bytes that it gives back. Assumes nothing.
use mathlib.Core.Path.{◌≡◌, refl, ap₂, ◌∙◌}
use mathlib.Core.Bool.{true}
use mathlib.Core.List.{List, [], ◌∷◌, map}
use Prim.Native.Nat.{ℕ, suc, ◌+◌, ◌*◌, ◌/◌, ◌%◌, ◌≤◌, ◌<◌}
use native.Mathlib.Omega.{arith}
use lib.ListN.{length, get_or}
use borrow.Author.Tests.{lt-ltb}
use Rattle.text_numbers.specs.Ascii.{dash}
use Rattle.text_numbers.specs.Numbers.{digit_of, glyph_of, are_digits}
use Rattle.text_bytes.specs.Hex.{is_dash, bytes_of, have_room}
use Rattle.text_pen.specs.Pens.{text_of}
use Rattle.text_written.specs.Words.{two_digits, hex_words}
use Rattle.text_numbers.proofs.Digits.{digit_glyph}
use Rattle.text_bytes.proofs.Pairs.{has_hex, has_dash, hex_is}

-- each element is a byte
abbrev pub EachByte : List ℕ → Type 0
EachByte xs = (i : ℕ) → get_or xs i 0 < 256

module _ (x : ℕ) (h : x < 256) where
  high : digit_of (glyph_of (x / 16)) ≡ x / 16
  high = digit_glyph (x / 16) (omega arith)

  low : digit_of (glyph_of (x % 16)) ≡ x % 16
  low = digit_glyph (x % 16) (omega arith)

pub bytes_of_lem : (xs : List ℕ) → EachByte xs → bytes_of (text_of (map two_digits xs)) ≡ xs
unfolding text_of bytes_of
bytes_of_lem [] h = refl
bytes_of_lem (x ∷ xs) h =
    let e : x / 16 * 16 + x % 16 ≡ x = omega arith in
    ap₂ (λ (y : ℕ) (ys : List ℕ). y ∷ ys)
    (ap₂ (λ (m n : ℕ). m * 16 + n) (high x (h 0)) (low x (h 0)) ∙ e)
    (bytes_of_lem xs (λ i. h (suc i)))

all_digits : (xs : List ℕ) → EachByte xs → are_digits 16 (text_of (map two_digits xs)) ≡ true
unfolding text_of are_digits
all_digits [] h = refl
all_digits (x ∷ xs) h =
    let k : x < 256 = h 0 in
    rw (high x k, lt-ltb (x / 16) 16 (omega arith), low x k, lt-ltb (x % 16) 16 (omega arith)) (all_digits xs (λ i. h (suc i)))

length_text : (xs : List ℕ) → length (text_of (map two_digits xs)) ≡ length xs * 2
unfolding text_of
length_text [] = refl
length_text (x ∷ xs) = omega (arith, length_text xs)

pub bytes_back : (xs : List ℕ) → EachByte xs → bytes_of (text_of (hex_words xs)) ≡ xs
unfolding text_of bytes_of hex_words
bytes_back [] h = refl
bytes_back (x ∷ xs) h = bytes_of_lem (x ∷ xs) h

pub room_back : (xs : List ℕ) → EachByte xs → (room : ℕ) → length xs ≤ room → have_room (text_of (hex_words xs)) room ≡ true
unfolding text_of is_dash hex_words
room_back [] h room l = has_dash (dash ∷ []) room refl
room_back (x ∷ xs) h room l =
    let s : List ℕ = text_of (map two_digits (x ∷ xs)) in
    let k : length s ≡ length (x ∷ xs) * 2 = length_text (x ∷ xs) in
    has_hex s room refl (hex_is s (omega arith) (omega arith) (all_digits (x ∷ xs) h)) (omega arith)
