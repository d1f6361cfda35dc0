-- Inner step: the lines of records by their answer words, with the posts as they stood before the first of them (proofs/Worded.antt: they are those of the
-- records fed singly).
use Rattle.std.specs.Prelude.{ℕ, List, [], ◌∷◌, drop, slice_index}
use Rattle.rules.specs.declared.Post.{Post}
use Rattle.watch_rules.specs.Table.{place_of}
use Rattle.log_records.specs.Record.{Rec}
use Rattle.playing_answers.specs.Texts.{word_line}
use Rattle.playing_nights.specs.Fed.{channel_of}
use Rattle.playing_nights.specs.Call.{next_count}

unfoldable pub word_lines : List Post → ℕ → List Rec → List ℕ → List (List ℕ)
word_lines ps n [] ws = []
word_lines ps n (x ∷ xs) ws = word_line (next_count n) (place_of ps (channel_of x)) (slice_index ws 0) ∷ word_lines ps (next_count n) xs (drop 1 ws)
