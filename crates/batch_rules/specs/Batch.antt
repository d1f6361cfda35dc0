-- 02, Req 07: "up to 4,096 bytes of log records taken in one call, with a lent slice for the answers, 32 bits a record".
use Rattle.std.specs.Prelude.{ℕ, Bool, true, false, cond, List, [], ◌∷◌, ◌++◌, ltb, length, drop}
use Rattle.std.proofs.Math.Option.{Option, none, some}
use Rattle.refusals.specs.declared.Refusal.{Refusal}
use Rattle.refusals.specs.declared.Refusal.TheVariants.{BatchBytes, BatchRecord, BatchAnswers}
use Rattle.plain_words.specs.Words.{refusal_word}
use Rattle.log_records.specs.Record.{Rec, tick, frame}
use Rattle.log_records.specs.Reading.{Log, ends, then, clean, piece, refused, log_of, records_in}
use Rattle.watch_rules.specs.declared.Table.{Table}
use Rattle.watch_rules.specs.Run.{Request}
use Rattle.watch_rules.specs.Run as request
use Rattle.lent_runs.specs.lent_words.specs.Lent.{Lent}
use Rattle.lent_runs.specs.Runs.{lent_by}

-- ---- "feeding each record in order"

abbrev pub request_of : Rec → Request
request_of (tick time c) = request.tick c time
request_of (frame time c x m bs) = request.frame c time m x bs

-- the single call of a record: the table after it, and its word: "the finding number, or 65,536 plus the refusal plus 256 times 5's start bit"
abbrev pub called_with : Table → Rec → Lent
called_with t r = lent_by t (request_of r)

unfoldable pub table_after : Table → List Rec → Table
table_after t [] = t
table_after t (r ∷ rs) = table_after (called_with t r).table rs

unfoldable pub words_of : Table → List Rec → List ℕ
words_of t [] = []
words_of t (r ∷ rs) = (called_with t r).answer ∷ words_of (called_with t r).table rs

-- ---- "each refuse the whole batch with a number of their own, judged in this order"

abbrev pub most_bytes : ℕ
most_bytes = 4096

-- no record is malformed, and none is cut
unfoldable pub is_whole : Log → Bool
is_whole (ends clean) = true
is_whole (ends (piece at)) = false
is_whole (ends (refused w at)) = false
is_whole (then r l) = is_whole l

-- why the bytes s are refused with so many places for answers; none where they are accepted
unfoldable pub why_batch : List ℕ → ℕ → Option Refusal
why_batch s places =
    cond (ltb most_bytes (length s)) (some BatchBytes)
    (cond (is_whole (log_of s))
    (cond (ltb places (length (records_in (log_of s)))) (some BatchAnswers) none)
    (some BatchRecord))

-- ---- what a batch leaves, and its answer: how many records were fed, or the refusal's word, "and nothing changes"

abbrev pub batch_by : Option Refusal → Table → List Rec → Lent
batch_by none t rs = record { table = table_after t rs; answer = length rs }
batch_by (some w) t rs = record { table = t; answer = refusal_word w }

-- "Answers beyond the records stay as they were."
abbrev pub answers_by : Option Refusal → Table → List Rec → List ℕ → List ℕ
answers_by none t rs ws = words_of t rs ++ drop (length rs) ws
answers_by (some w) t rs ws = ws

-- over a table, the bytes and the number of places for answers
unfoldable pub batch_of : Table → List ℕ → ℕ → Lent
batch_of t s places = batch_by (why_batch s places) t (records_in (log_of s))

-- over a table, the bytes and the answers as they were lent
unfoldable pub answers_after : Table → List ℕ → List ℕ → List ℕ
answers_after t s ws = answers_by (why_batch s (length ws)) t (records_in (log_of s)) ws
