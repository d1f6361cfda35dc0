-- Numbers and bytes as the words that the pen puts one after the other.
use Rattle.std.specs.Prelude.{ℕ, suc, ◌/◌, ◌%◌, List, [], ◌∷◌, map, ℤ, pos, negsuc}
use Rattle.text_numbers.specs.Ascii.{dash}
use Rattle.text_numbers.specs.Numbers.{glyph_of, numeral}

-- desk.md: "decimal whole number, `-` sign if negative"
unfoldable pub signed_words : ℤ → List (List ℕ)
signed_words (pos n) = numeral 10 n ∷ []
signed_words (negsuc n) = (dash ∷ []) ∷ numeral 10 (suc n) ∷ []

abbrev pub two_digits : ℕ → List ℕ
two_digits x = glyph_of (x / 16) ∷ glyph_of (x % 16) ∷ []

-- desk.md: "bytes as two lower-case hexadecimal digits each; `-` when empty"
unfoldable pub hex_words : List ℕ → List (List ℕ)
hex_words [] = (dash ∷ []) ∷ []
hex_words (x ∷ xs) = two_digits x ∷ map two_digits xs
