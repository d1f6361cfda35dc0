-- A record's line. 02, Req 05: "count from 1, post (dash for refusal 1), then A with the decimal finding number or R with the refusal, one space between,
-- a line feed after; refusal 5 adds a space and the start bit."
use Rattle.std.specs.Prelude.{ℕ, ◌^◌, ◌≤◌, ◌<◌, Bool, true, false, cond, List, [], ◌∷◌, ◌++◌, eqb, length, drop, Ok, Err}
use Rattle.refusals.specs.Refusals.{number_of, start_of}
use Rattle.text_numbers.specs.Ascii.{space, dash}
use Rattle.text_numbers.specs.Numbers.{numeral}
use Rattle.text_pen.specs.Pens.{text_of}
use Rattle.notation_answers.specs.Answers.{capital_a, capital_r, named_words, end_words}
use Rattle.watch_rules.specs.Answer.{Answer}

-- "a line buffer under 40 bytes gets 8 first"; no line has more (the law `line-short`)
abbrev pub line_room : ℕ
line_room = 40

-- refusal 1: no post holds the channel
abbrev pub unheld : Answer → Bool
unheld (Ok f) = false
unheld (Err w) = eqb (number_of w) 1

-- ---- the words of a line; each number is `numeral 10`, the fewest digits that spell it (text_numbers' laws `number-numeral`, `one-text`)

-- "post (dash for refusal 1)"
abbrev pub post_words : ℕ → Bool → List (List ℕ)
post_words i true = (space ∷ dash ∷ []) ∷ []
post_words i false = named_words (space ∷ []) i

-- "R with the refusal"; "refusal 5 adds a space and the start bit"
unfoldable pub refused_words : ℕ → ℕ → List (List ℕ)
refused_words n s = named_words (space ∷ capital_r ∷ []) n ++ cond (eqb n 5) (named_words (space ∷ []) s) []

-- "A with the decimal finding number or R with the refusal"
abbrev pub answer_words : Answer → List (List ℕ)
answer_words (Ok f) = named_words (space ∷ capital_a ∷ []) f
answer_words (Err w) = refused_words (number_of w) (start_of w)

-- count, post, answer, "a line feed after"
abbrev pub line_words : ℕ → ℕ → Answer → List (List ℕ)
line_words n i a = ((numeral 10 n ∷ []) ++ post_words i (unheld a)) ++ (answer_words a ++ end_words)

-- the line of the record that is the n-th, for the post i, with the watch's answer
unfoldable pub line_of : ℕ → ℕ → Answer → List ℕ
line_of n i a = text_of (line_words n i a)

-- an answer's numbers have 32 bits, as the program holds them
abbrev pub InWords : Answer → Type 0
InWords (Ok f) = f < 2 ^ 32
InWords (Err w) = (number_of w < 2 ^ 32) × (start_of w < 2 ^ 32)

abbrev pub AllShort : List (List ℕ) → Type 0
AllShort [] = Unit {0}
AllShort (l ∷ ls) = (length l ≤ line_room) × AllShort ls

-- ---- in the buffer

-- a text at the front, and the rest as it was
abbrev pub laid : List ℕ → List ℕ → List ℕ
laid text out = text ++ drop (length text) out
