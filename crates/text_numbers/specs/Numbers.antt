-- Numbers as text. desk.md: "decimal whole number, `-` sign if negative, no leading zeros", "lower-case hexadecimal without prefix and without leading zeros".
use Rattle.std.specs.Prelude.{ℕ, zero, suc, ◌+◌, ◌-◌, ◌*◌, ◌/◌, ◌%◌, ◌^◌, Bool, true, false, cond, not, ◌&&◌, List, [], ◌∷◌, ◌++◌, ltb, leb, eqb, length, ℤ, pos, negsuc, Option, Some, None}
use Rattle.text_numbers.specs.Ascii.{dash, zero_sign, nine_sign, letter_a, letter_f}

-- what a character counts as a digit, `0` to `9`, then `a` to `f`; any other counts 16, which no base here has
unfoldable pub digit_of : ℕ → ℕ
digit_of c = cond (leb zero_sign c && leb c nine_sign) (c - zero_sign) (cond (leb letter_a c && leb c letter_f) (c - letter_a + 10) 16)

-- the character of a digit below 16
unfoldable pub glyph_of : ℕ → ℕ
glyph_of d = cond (ltb d 10) (zero_sign + d) (letter_a + (d - 10))

-- each character is a digit of base b
unfoldable pub are_digits : ℕ → List ℕ → Bool
are_digits b [] = true
are_digits b (c ∷ cs) = ltb (digit_of c) b && are_digits b cs

-- what digits are worth: each is taken times b for each digit after it
unfoldable pub value_of : ℕ → List ℕ → ℕ
value_of b [] = 0
value_of b (c ∷ cs) = digit_of c * b ^ length cs + value_of b cs

-- there is a digit, and the first is no `0` unless it stands alone
unfoldable pub is_shortest : List ℕ → Bool
is_shortest [] = false
is_shortest (c ∷ []) = true
is_shortest (c ∷ d ∷ cs) = not (eqb c zero_sign)

-- the number no larger than most that s spells in base b
unfoldable pub number_of : ℕ → ℕ → List ℕ → Option ℕ
number_of b most s = cond (is_shortest s && (are_digits b s && leb (value_of b s) most)) (Some (value_of b s)) None

-- ---- with a sign, in 64 bits

-- `-0` is none
abbrev pub negated : Option ℕ → Option ℤ
negated None = None
negated (Some zero) = None
negated (Some (suc n)) = Some (negsuc n)

abbrev pub unsigned : Option ℕ → Option ℤ
unsigned None = None
unsigned (Some n) = Some (pos n)

unfoldable pub signed_of : List ℕ → Option ℤ
signed_of [] = None
signed_of (c ∷ cs) = cond (eqb c dash) (negated (number_of 10 (2 ^ 63) cs)) (unsigned (number_of 10 (2 ^ 63 - 1) (c ∷ cs)))

-- ---- the text of a number

-- the digits of n in base b, the highest first, and no more of them than turns + 1
unfoldable pub digits_in : ℕ → ℕ → ℕ → List ℕ
digits_in b zero n = glyph_of n ∷ []
digits_in b (suc turns) n = cond (ltb n b) (glyph_of n ∷ []) (digits_in b turns (n / b) ++ (glyph_of (n % b) ∷ []))

-- the fewest digits that spell n: one below b, and else those of n / b with that of n % b after them (the laws `one-digit` and `more-digits`)
unfoldable pub numeral : ℕ → ℕ → List ℕ
numeral b n = digits_in b n n
