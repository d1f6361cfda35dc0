-- A replay as plain numbers: what its set-ups and calls answer as words, and leave. Over `playing_nights`' own definitions, which 02, Req 05 is read with.
use Rattle.std.specs.Prelude.{ℕ, ◌%◌, ◌^◌, cond, List, ◌∷◌, eqb, ltb, length, drop, Ok, Err}
use Rattle.refusals.specs.declared.Refusal.{Refusal}
use Rattle.refusals.specs.declared.Refusal.TheVariants.{ShortBuffer, NoSuchPost, NoSuchChannel, ChannelTaken, LimitOutside}
use Rattle.plain_words.specs.Words.{refusal_word}
use Rattle.playing_nights.specs.declared.Course.{Course}
use Rattle.playing_nights.specs.declared.Course.TheVariants.{SetUps, Records, Refused}
use Rattle.playing_nights.specs.declared.Replay.{Replay}
use Rattle.playing_nights.specs.declared.Unprepared.TheVariants as why
use Rattle.playing_nights.specs.declared.Played.{Played}
use Rattle.playing_nights.specs.declared.Played.TheVariants.{Line, End, Cut, Bad, SetUp, Short}
use Rattle.playing_nights.specs.Call.{Prepared, fresh, Preparing, set_up_in, next_line, buffer_after}
use Rattle.playing_words.specs.declared.PlainReplay.{PlainReplay}
use Rattle.playing_words.specs.declared.LentReplay.{LentReplay}

-- ---- the course

-- 9 to 12 are a set-up's refusals
abbrev pub refusal_at : ℕ → Refusal
refusal_at n =
    cond (eqb n (refusal_word NoSuchPost)) NoSuchPost (cond (eqb n (refusal_word NoSuchChannel)) NoSuchChannel (cond (eqb n (refusal_word ChannelTaken)) ChannelTaken LimitOutside))

abbrev pub course_of : ℕ → Course
course_of n = cond (eqb n 0) SetUps (cond (eqb n 1) Records (Refused (refusal_at n)))

abbrev pub course_word : Course → ℕ
course_word SetUps = 0
course_word Records = 1
course_word (Refused w) = refusal_word w

abbrev pub replay_of : PlainReplay → Replay
replay_of r = record { table = r.table; count = r.count; course = course_of r.course }

abbrev pub plain_of : Replay → PlainReplay
plain_of r = record { table = r.table; count = r.count; course = course_word r.course }

-- ---- set-ups

-- 1 for a set-up that comes late: 02 gives it no number
abbrev pub prepared_word : Preparing → ℕ
prepared_word (Ok tt) = 0
prepared_word (Err (why.Refused w)) = refusal_word w
prepared_word (Err why.Late) = 1

abbrev pub prepared_by : Prepared → LentReplay
prepared_by p = record { replay = plain_of p.replay; answer = prepared_word p.answer }

unfoldable pub start_by : PlainReplay → LentReplay
start_by r = record { replay = plain_of fresh; answer = 0 }

unfoldable pub set_up_by : PlainReplay → ℕ → ℕ → ℕ → ℕ → ℕ → ℕ → ℕ → ℕ → LentReplay
set_up_by r i c volt chg dis w sensor interface = prepared_by (set_up_in (replay_of r) i c (record { voltage = volt; charge = chg; discharge = dis; silence = w; sensor = sensor; interface = interface }))

-- ---- calls

-- the bytes of a line, which has three at least; 0 at the end, 1 at a cut piece
abbrev pub played_word : Played → ℕ
played_word (Line bytes next) = bytes % 2 ^ 32
played_word End = 0
played_word (Cut at) = 1
played_word (Bad w at) = refusal_word w
played_word (SetUp w) = refusal_word w
played_word Short = refusal_word ShortBuffer

-- every answer but a line leaves the replay as it was, and the lent place
abbrev pub told_by : PlainReplay → Replay → Played → LentReplay
told_by r q (Line bytes next) = record { replay = plain_of q; answer = bytes % 2 ^ 32 }
told_by r q End = record { replay = r; answer = 0 }
told_by r q (Cut at) = record { replay = r; answer = 1 }
told_by r q (Bad w at) = record { replay = r; answer = refusal_word w }
told_by r q (SetUp w) = record { replay = r; answer = refusal_word w }
told_by r q Short = record { replay = r; answer = refusal_word ShortBuffer }

abbrev pub next_left : Played → List ℕ → List ℕ
next_left (Line bytes next) ns = next ∷ drop 1 ns
next_left End ns = ns
next_left (Cut at) ns = ns
next_left (Bad w at) ns = ns
next_left (SetUp w) ns = ns
next_left Short ns = ns

-- "a line buffer under 40 bytes gets 8 first", and so does a call without a place for the next byte
unfoldable pub line_by : PlainReplay → List ℕ → ℕ → List ℕ → List ℕ → LentReplay
line_by r s at out ns =
    cond (ltb (length ns) 1) (record { replay = r; answer = refusal_word ShortBuffer }) (told_by r (next_line (replay_of r) s at (length out)).replay (next_line (replay_of r) s at (length out)).answer)

unfoldable pub line_left : PlainReplay → List ℕ → ℕ → List ℕ → List ℕ → List ℕ
line_left r s at out ns = cond (ltb (length ns) 1) out (buffer_after (replay_of r) s at out)

unfoldable pub next_after : PlainReplay → List ℕ → ℕ → List ℕ → List ℕ → List ℕ
next_after r s at out ns = cond (ltb (length ns) 1) ns (next_left (next_line (replay_of r) s at (length out)).answer ns)
