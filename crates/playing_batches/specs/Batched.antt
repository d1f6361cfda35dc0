-- Records fed to a replay by the batch, and their lines. 02, Req 05: "Its lines must be those of the records fed singly"; Req 07: "up to 4,096 bytes of log
-- records taken in one call".
use Rattle.std.specs.Prelude.{ℕ, ◌*◌, cond, Result, List, [], ◌∷◌, ◌++◌, length, drop, nat_lt, Ok, Err}
use Rattle.std.proofs.Math.Option.{Option, none, some}
use Rattle.refusals.specs.declared.Refusal.{Refusal}
use Rattle.refusals.specs.declared.Refusal.TheVariants.{ShortBuffer}
use Rattle.refusals.specs.Refusals.{number_of}
use Rattle.text_pen.specs.Pens.{text_of}
use Rattle.log_records.specs.Record.{Rec}
use Rattle.log_records.specs.Reading.{log_of, records_in}
use Rattle.batch.specs.batch_rules.specs.Batch.{words_of, why_batch}
use Rattle.playing_line.specs.Lines.{laid}
use Rattle.playing_nights.specs.declared.Course.{Course}
use Rattle.playing_nights.specs.declared.Course.TheVariants as course
use Rattle.playing_nights.specs.declared.Replay.{Replay}
use Rattle.playing_nights.specs.declared.Replayed.{Replayed}
use Rattle.playing_nights.specs.Fed.{fed_with, line_for}
use Rattle.playing_nights.specs.Call.{next_count}
use Rattle.playing_batches.specs.declared.Unwritten.{Unwritten}
use Rattle.playing_batches.specs.declared.Unwritten.TheVariants.{SetUp, Refused}
use Rattle.playing_batches.specs.declared.Lines.{Lines}

-- the replay after a batch, and its lines or why there are none
abbrev pub Batched : Type 0
Batched = Replayed (Result Lines Unwritten)

-- an answer where nothing was fed
abbrev pub unfed : Replay → Result Lines Unwritten → Batched
unfed r x = record { replay = r; answer = x }

-- ---- records fed singly

-- the replay after a record, as a call for it leaves it (`lineCall` of playing_nights)
abbrev pub fed_one : Replay → Rec → Replay
fed_one r x = record { table = (fed_with r.table x).table; count = next_count r.count; course = course.Records }

unfoldable pub fed_on : Replay → List Rec → Replay
fed_on r [] = r
fed_on r (x ∷ xs) = fed_on (fed_one r x) xs

-- their lines; below a count of 2^64 these are `lines_from` (the law `counted`)
unfoldable pub lines_on : Replay → List Rec → List (List ℕ)
lines_on r [] = []
lines_on r (x ∷ xs) = line_for r.table (next_count r.count) x ∷ lines_on (fed_one r x) xs

-- ---- why a batch has no lines

-- room for a line of each record that the bytes may hold: a record has four bytes or more (the law `four_bytes`), a line at most 40
abbrev pub room_for : List ℕ → ℕ
room_for s = 10 * length s

-- the batch's own refusals, by their numbers
abbrev pub why_of : Option Refusal → Option Unwritten
why_of none = none
why_of (some w) = some (Refused (number_of w))

-- "a refused one ends the replay with its number and no line"
abbrev pub on_course : Course → Option Unwritten → Option Unwritten
on_course course.SetUps x = x
on_course course.Records x = x
on_course (course.Refused w) x = some (SetUp w)

-- "gets 8 first"; none where the batch s, with so many places for answers and so many bytes for lines, has its lines
unfoldable pub why_not : Replay → List ℕ → ℕ → ℕ → Option Unwritten
why_not r s places room = cond (nat_lt room (room_for s)) (some (Refused (number_of ShortBuffer))) (on_course r.course (why_of (why_batch s places)))

-- ---- what a batch leaves: the replay and the answer; the answer words; the lines, one after the other

abbrev pub batched_by : Option Unwritten → Replay → List Rec → Batched
batched_by none r xs = record { replay = fed_on r xs; answer = Ok (record { records = length xs; bytes = length (text_of (lines_on r xs)) }) }
batched_by (some p) r xs = record { replay = r; answer = Err p }

abbrev pub answers_by : Option Unwritten → Replay → List Rec → List ℕ → List ℕ
answers_by none r xs ws = words_of r.table xs ++ drop (length xs) ws
answers_by (some p) r xs ws = ws

abbrev pub lines_by : Option Unwritten → Replay → List Rec → List ℕ → List ℕ
lines_by none r xs out = laid (text_of (lines_on r xs)) out
lines_by (some p) r xs out = out

unfoldable pub batched_of : Replay → List ℕ → ℕ → ℕ → Batched
batched_of r s places room = batched_by (why_not r s places room) r (records_in (log_of s))

unfoldable pub answers_of : Replay → List ℕ → ℕ → List ℕ → List ℕ
answers_of r s room ws = answers_by (why_not r s (length ws) room) r (records_in (log_of s)) ws

unfoldable pub lines_of : Replay → List ℕ → ℕ → List ℕ → List ℕ
lines_of r s places out = lines_by (why_not r s places (length out)) r (records_in (log_of s)) out
