-- Answers, as the words that the pen puts one after the other. desk.md: `A`, `A<number>`, `R<n>`, `R5:<start>`, `R.. HEX`, `?`, each with its line feed.
use Rattle.std.specs.Prelude.{cond, List, [], ◌∷◌, ◌++◌, ℕ, ◌-◌, ◌/◌, ◌%◌, ltb, eqb}
use Rattle.refusals.specs.declared.Refusal.{Refusal}
use Rattle.refusals.specs.Refusals.{number_of, start_of}
use Rattle.text_numbers.specs.Ascii.{space}
use Rattle.text_numbers.specs.Numbers.{numeral}
use Rattle.text_written.specs.Words.{hex_words}

-- ---- signs, as ASCII codes them

abbrev pub line_feed : ℕ
line_feed = 10

abbrev pub question_mark : ℕ
question_mark = 63

abbrev pub capital_a : ℕ
capital_a = 65

abbrev pub capital_r : ℕ
capital_r = 82

abbrev pub colon : ℕ
colon = 58

-- ---- words

abbrev pub unknown_words : List (List ℕ)
unknown_words = (question_mark ∷ line_feed ∷ []) ∷ []

abbrev pub end_words : List (List ℕ)
end_words = (line_feed ∷ []) ∷ []

-- a name and its number
abbrev pub named_words : List ℕ → ℕ → List (List ℕ)
named_words name n = name ∷ numeral 10 n ∷ []

abbrev pub numbered_words : List ℕ → ℕ → List (List ℕ)
numbered_words name n = named_words name n ++ end_words

-- a refusal's number n, and of 5 the start bit s too: 02, "Every caller that hands a refusal on now hands the start bit on too."
unfoldable pub refused_words : ℕ → ℕ → List (List ℕ)
refused_words n s = named_words (capital_r ∷ []) n ++ cond (eqb n 5) (named_words (colon ∷ []) s) []

abbrev pub refusal_words : Refusal → List (List ℕ)
refusal_words w = refused_words (number_of w) (start_of w)

-- an answer word below 65,536 is accepted, and any other is 65,536, the refusal's number and 256 times the start bit
abbrev pub refused_in : ℕ → List (List ℕ)
refused_in w = refused_words ((w - 65536) % 256) ((w - 65536) / 256) ++ end_words

unfoldable pub findings_words : ℕ → List (List ℕ)
findings_words w = cond (ltb w 65536) (numbered_words (capital_a ∷ []) w) (refused_in w)

unfoldable pub setting_words : ℕ → List (List ℕ)
setting_words w = cond (ltb w 65536) ((capital_a ∷ line_feed ∷ []) ∷ []) (refused_in w)

-- a space, the bytes and a line feed
abbrev pub bytes_words : List ℕ → List (List ℕ)
bytes_words bs = (space ∷ []) ∷ (hex_words bs ++ end_words)
