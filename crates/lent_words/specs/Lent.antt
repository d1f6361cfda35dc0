-- What starting, a set-up and a release leave of a table, and a frame and a tick: exactly what the by-value operation of `watch` gives, the answer as a word.
use Rattle.std.specs.Prelude.{ℕ}
use Rattle.rule_limits.specs.declared.PlainLimits.{PlainLimits}
use Rattle.watch_rules.specs.declared.Table.{Table}
use Rattle.watch_rules.specs.Answer.{Fed}
use Rattle.watch_rules.specs.Setting.{Settled}
use Rattle.watch_rules.specs.Table.{set_up_of, release_of, empty_table}
use Rattle.watch_rules.specs.declared.Stepped.{Stepped}
use Rattle.lent_words.specs.Words.{answer_word, setting_word}

abbrev pub Lent : Type 0
Lent = Stepped ℕ

abbrev pub lent_fed : Fed → Lent
lent_fed r = record { table = r.table; answer = answer_word r.answer }

abbrev pub lent_settled : Settled → Lent
lent_settled r = record { table = r.table; answer = setting_word r.answer }

unfoldable pub start_of : Table → Lent
start_of t = record { table = empty_table; answer = 0 }

unfoldable pub set_up_word : Table → ℕ → ℕ → PlainLimits → Lent
set_up_word t i c lim = lent_settled (set_up_of t i c lim)

unfoldable pub release_word : Table → ℕ → Lent
release_word t i = lent_settled (release_of t i)
