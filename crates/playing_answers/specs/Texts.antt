-- A record's line by its answer word, as text: the count, the post, the answer. `playing_batches` shows that it is the line of the answer itself
-- (`line-of-word`).
use Rattle.std.specs.Prelude.{ℕ, Bool, cond, List, [], ◌∷◌, ◌++◌, ltb, eqb}
use Rattle.text_numbers.specs.Ascii.{space, dash}
use Rattle.text_numbers.specs.Numbers.{numeral}
use Rattle.plain_words.specs.Words.{number_in, start_in}
use Rattle.notation_answers.specs.Answers.{line_feed, capital_a, capital_r}

-- "refusal 5 adds a space and the start bit"; "a line feed after"
unfoldable pub start_text : ℕ → ℕ → List ℕ
start_text n s = cond (eqb n 5) (space ∷ (numeral 10 s ++ (line_feed ∷ []))) (line_feed ∷ [])

abbrev pub refused_text : ℕ → ℕ → List ℕ
refused_text n s = capital_r ∷ (numeral 10 n ++ start_text n s)

abbrev pub found_text : ℕ → List ℕ
found_text f = capital_a ∷ (numeral 10 f ++ (line_feed ∷ []))

-- "A with the decimal finding number or R with the refusal"
unfoldable pub answer_text : ℕ → List ℕ
answer_text w = cond (ltb w 65536) (found_text w) (refused_text (number_in w) (start_in w))

-- "post (dash for refusal 1)"
unfoldable pub post_text : ℕ → Bool → List ℕ
post_text i b = cond b (dash ∷ []) (numeral 10 i)

-- "count from 1, post .., then A .. or R .., one space between"
unfoldable pub word_line : ℕ → ℕ → ℕ → List ℕ
word_line n i w = numeral 10 n ++ (space ∷ (post_text i (eqb (number_in w) 1) ++ (space ∷ answer_text w)))
