-- A post's counts over the C interface, and the table's (02, Req 08). A post's are refused as `watch::look_up` refuses, with 9 and 14.
use Rattle.std.specs.Prelude.{ℕ, min, List, ◌∷◌, length}
use Rattle.rules.specs.declared.Record.{Record}
use Rattle.rules.specs.Counts.{largest}
use Rattle.rules.specs.After.{count_count}
use Rattle.watch_rules.specs.declared.Table.{Table}
use Rattle.watch_rules.specs.Table.{look_up_of}
use Rattle.plain_words.specs.Words.{outcome_word}
use Rattle.lent_numbers.specs.LookUp.{handed_outcome, handed_left}

-- what was accepted, and then each finding's: finding k in place k
abbrev pub counts_shown : Record → List ℕ
counts_shown r = r.accepted ∷ r.tallies

-- 8 where the lent places are too few
unfoldable pub counts_word : Table → ℕ → List ℕ → ℕ
counts_word t i cs = outcome_word (handed_outcome count_count (look_up_of t i).answer (length cs))

unfoldable pub counts_after : Table → ℕ → List ℕ → List ℕ
counts_after t i cs = handed_left count_count (look_up_of t i).answer (counts_shown (look_up_of t i).shown) cs

-- what was refused; in a table of the caller's own making every larger number counts as the largest
abbrev pub refused_in : Table → ℕ
refused_in t = min t.refused largest
