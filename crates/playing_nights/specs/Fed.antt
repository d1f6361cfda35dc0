-- The records of a log fed singly to the watch, and their lines. 02, Req 05: "Its lines must be those of the records fed singly".
use Rattle.std.specs.Prelude.{ℕ, ◌+◌, List, [], ◌∷◌}
use Rattle.log_records.specs.Record.{Rec, tick, frame}
use Rattle.watch_rules.specs.declared.Table.{Table}
use Rattle.watch_rules.specs.Answer.{Fed}
use Rattle.watch_rules.specs.Table.{place_of, Arriving, framing, ticking, feed_of}
use Rattle.watch_rules.specs.Steps.{Steps, holder, feed01, feed_steps}
use Rattle.playing_line.specs.Lines.{line_of}

-- ---- what a record brings to the watch

abbrev pub time_of : Rec → ℕ
time_of (tick time c) = time
time_of (frame time c extended id payload) = time

abbrev pub channel_of : Rec → ℕ
channel_of (tick time c) = c
channel_of (frame time c extended id payload) = c

abbrev pub arrival_in : Rec → Arriving
arrival_in (tick time c) = ticking
arrival_in (frame time c extended id payload) = framing id extended payload

-- the watch's table and answer after it
abbrev pub fed_with : Table → Rec → Fed
fed_with t x = feed_of t (channel_of x) (time_of x) (arrival_in x)

unfoldable pub fed_all : Table → List Rec → Table
fed_all t [] = t
fed_all t (x ∷ xs) = fed_all (fed_with t x).table xs

-- ---- lines

-- the line of the n-th record: its post is the one that holds its channel
abbrev pub line_for : Table → ℕ → Rec → List ℕ
line_for t n x = line_of n (place_of t.posts (channel_of x)) (fed_with t x).answer

-- the lines of records of which n came before: "count from 1"
unfoldable pub lines_from : Table → ℕ → List Rec → List (List ℕ)
lines_from t n [] = []
lines_from t n (x ∷ xs) = line_for t (n + 1) x ∷ lines_from (fed_with t x).table (n + 1) xs

-- ---- the same by 01's rules, read afresh over the accepted steps

abbrev pub line01 : Steps → ℕ → Rec → List ℕ
line01 s n x = line_of n (holder s (channel_of x)) (feed01 s (channel_of x) (time_of x) (arrival_in x))

unfoldable pub lines01_from : Steps → ℕ → List Rec → List (List ℕ)
lines01_from s n [] = []
lines01_from s n (x ∷ xs) = line01 s (n + 1) x ∷ lines01_from (feed_steps s (channel_of x) (time_of x) (arrival_in x)) (n + 1) xs
