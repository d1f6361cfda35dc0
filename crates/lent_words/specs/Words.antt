-- The answers of `watch` as one 32-bit word: the findings or 0, or the refusal's word.
use Rattle.std.specs.Prelude.{ℕ, Ok, Err}
use Rattle.watch_rules.specs.Answer.{Answer}
use Rattle.watch_rules.specs.Setting.{Setting}
use Rattle.plain_words.specs.Words.{Outcome, answers, refuses, outcome_of, outcome_word}

abbrev pub answer_outcome : Answer → Outcome
answer_outcome a = outcome_of a

abbrev pub answer_word : Answer → ℕ
answer_word a = outcome_word (answer_outcome a)

abbrev pub setting_outcome : Setting → Outcome
setting_outcome (Ok tt) = answers 0
setting_outcome (Err w) = refuses w

abbrev pub setting_word : Setting → ℕ
setting_word a = outcome_word (setting_outcome a)
