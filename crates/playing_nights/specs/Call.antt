-- Inner step: one set-up and one call, as the code takes them. What a whole night should come to does not speak of it (Night.antt, `nightOf`):
-- the law `lines` turns any number of calls into the lines of the records fed singly.
use Rattle.std.specs.Prelude.{⊤, ℕ, ◌+◌, ◌%◌, ◌^◌, ◌≤◌, cond, List, ltb, length, Result, Ok, Err}
use Rattle.rule_limits.specs.declared.PlainLimits.{PlainLimits}
use Rattle.log_records.specs.declared.Entry.{Entry}
use Rattle.log_records.specs.declared.Found.{Found}
use Rattle.log_records.specs.declared.Found.TheVariants as found
use Rattle.log_records.specs.Reading.{rec_of, found_at}
use Rattle.watch_rules.specs.Answer.{Answer}
use Rattle.watch_rules.specs.Setting.{Setting, Settled}
use Rattle.watch_rules.specs.Table.{empty_table, set_up_of}
use Rattle.playing_nights.specs.declared.Course.{Course}
use Rattle.playing_nights.specs.declared.Course.TheVariants.{SetUps, Records, Refused}
use Rattle.playing_nights.specs.declared.Replay.{Replay}
use Rattle.playing_nights.specs.declared.Unprepared.{Unprepared}
use Rattle.playing_nights.specs.declared.Unprepared.TheVariants as why
use Rattle.playing_nights.specs.declared.Replayed.{Replayed}
use Rattle.playing_nights.specs.declared.Played.{Played}
use Rattle.playing_nights.specs.declared.Played.TheVariants.{Line, End, Cut, Bad, SetUp, Short}
use Rattle.playing_nights.specs.declared.Next.{Next}
use Rattle.playing_line.specs.Lines.{line_room, laid}
use Rattle.playing_nights.specs.Fed.{fed_with, line_for}

-- no post set up, and no record fed
abbrev pub fresh : Replay
fresh = record { table = empty_table; count = 0; course = SetUps }

-- ---- set-ups

-- the course that a set-up leaves, and the answer
abbrev pub course_after : Setting → Course
course_after (Ok tt) = SetUps
course_after (Err w) = Refused w

-- what a set-up comes to: done, or why it is not taken
abbrev pub Preparing : Type 0
Preparing = Result ⊤ Unprepared

-- and the replay after it
abbrev pub Prepared : Type 0
Prepared = Replayed Preparing

abbrev pub answered : Setting → Preparing
answered (Ok tt) = Ok tt
answered (Err w) = Err (why.Refused w)

abbrev pub prepared_by : ℕ → Settled → Prepared
prepared_by n s = record { replay = record { table = s.table; count = n; course = course_after s.answer }; answer = answered s.answer }

-- "Set-ups come before the first record; a refused one ends the replay"
abbrev pub set_up_on : Course → Replay → Prepared → Prepared
set_up_on SetUps r p = p
set_up_on Records r p = record { replay = r; answer = Err why.Late }
set_up_on (Refused w) r p = record { replay = r; answer = Err (why.Refused w) }

unfoldable pub set_up_in : Replay → ℕ → ℕ → PlainLimits → Prepared
set_up_in r i c lim = set_up_on r.course r (prepared_by r.count (set_up_of r.table i c lim))

-- ---- calls

-- what a call comes to: the watch's answer, its line, the byte where the next record begins, and the replay then; or another answer, and everything stays
pub data Call : Type 0 where
  line : Answer → List ℕ → ℕ → Replay → Call
  other : Played → Call

abbrev pub next_by : Replay → Call → Next
next_by r (line a text next q) = record { replay = q; answer = Line (length text) next; heard = a }
next_by r (other p) = record { replay = r; answer = p; heard = Ok 0 }

abbrev pub buffer_by : List ℕ → Call → List ℕ
buffer_by out (line a text next q) = laid text out
buffer_by out (other p) = out

-- the count has 64 bits; a log has fewer records
abbrev pub next_count : ℕ → ℕ
next_count n = (n + 1) % 2 ^ 64

-- the record of an entry of the log s is fed
unfoldable pub line_call : Replay → List ℕ → Entry → Call
line_call r s e =
    line (fed_with r.table (rec_of s e)).answer (line_for r.table (next_count r.count) (rec_of s e)) e.next
    (record { table = (fed_with r.table (rec_of s e)).table; count = next_count r.count; course = Records })

-- "A malformed record ends the replay with the log's refusal and the byte where that record began; a cut piece ends it as cut, with its byte."
abbrev pub on_found : Replay → List ℕ → Found → Call
on_found r s (found.Record e) = line_call r s e
on_found r s found.End = other End
on_found r s (found.Cut at) = other (Cut at)
on_found r s (found.Refused w at) = other (Bad w at)

abbrev pub on_course : Course → Call → Call
on_course SetUps x = x
on_course Records x = x
on_course (Refused w) x = other (SetUp w)

-- the call for byte `at` of the log s, with a line buffer of so many bytes
unfoldable pub call_of : Replay → List ℕ → ℕ → ℕ → Call
call_of r s at room = cond (ltb room line_room) (other Short) (on_course r.course (on_found r s (found_at s at)))

abbrev pub next_line : Replay → List ℕ → ℕ → ℕ → Next
next_line r s at room = next_by r (call_of r s at room)

abbrev pub buffer_after : Replay → List ℕ → ℕ → List ℕ → List ℕ
buffer_after r s at out = buffer_by out (call_of r s at (length out))

-- the payload of an entry lies in the log
abbrev pub Within : List ℕ → Entry → Type 0
Within s e = e.start + e.length ≤ length s
