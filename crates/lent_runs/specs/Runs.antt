-- Requests through the entries in place, from any memory that was started.
use Rattle.std.specs.Prelude.{ℕ, List, [], ◌∷◌}
use Rattle.watch_rules.specs.declared.Table.{Table}
use Rattle.watch_rules.specs.Run.{Request, setUp, release, frame, tick, Reply, set, fed}
use Rattle.plain_words.specs.Words.{Outcome, outcome_word}
use Rattle.lent_step.specs.lent_words.specs.Words.{answer_outcome, setting_outcome}
use Rattle.lent_step.specs.lent_words.specs.Lent.{Lent, start_of, set_up_word, release_word}
use Rattle.lent_step.specs.Fed.{frame_word, tick_word}

-- what the entry's contract says of a request: the answer's word, and the table at exit
abbrev pub lent_by : Table → Request → Lent
lent_by t (setUp i c lim) = set_up_word t i c lim
lent_by t (release i) = release_word t i
lent_by t (frame c time m x bs) = frame_word t c time m x bs
lent_by t (tick c time) = tick_word t c time

-- the lent table after requests, newest first; whatever it held before it was started
unfoldable pub lent_run : Table → List Request → Table
lent_run t [] = (start_of t).table
lent_run t (a ∷ earlier) = (lent_by (lent_run t earlier) a).table

-- what a reply comes to, as one word, and the most that an accepted one answers: 0, or all twelve findings
abbrev pub outcome_of : Reply → Outcome
outcome_of (set r) = setting_outcome r
outcome_of (fed r) = answer_outcome r

abbrev pub word_of : Reply → ℕ
word_of r = outcome_word (outcome_of r)

abbrev pub most_of : Request → ℕ
most_of (setUp i c lim) = 0
most_of (release i) = 0
most_of (frame c time m x bs) = 4095
most_of (tick c time) = 4095
