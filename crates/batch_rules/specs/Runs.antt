-- Requests with batches among them, from any memory that was started, newest first; and the same requests without: each accepted batch is replaced
-- by its records, and each refused one is left out.
use Rattle.std.specs.Prelude.{ℕ, ◌+◌, List, [], ◌∷◌, length}
use Rattle.std.proofs.Math.Option.{Option, none, some}
use Rattle.refusals.specs.declared.Refusal.{Refusal}
use Rattle.log_records.specs.Record.{Rec}
use Rattle.log_records.specs.Reading.{log_of, records_in}
use Rattle.rule_asks.specs.Judgements.{bit}
use Rattle.watch_rules.specs.declared.Table.{Table}
use Rattle.watch_rules.specs.Run.{Request, reply01, accepted, is_arrival}
use Rattle.lent_runs.specs.lent_words.specs.Lent.{start_of}
use Rattle.lent_runs.specs.Runs.{lent_by, word_of}
use Rattle.batch_rules.specs.Batch.{request_of, why_batch, batch_of}

-- a single call; or a batch, by its bytes and the number of places for answers
pub data Asked : Type 0 where
  single : Request → Asked
  batch : List ℕ → ℕ → Asked

unfoldable pub asked_run : Table → List Asked → Table
asked_run t [] = (start_of t).table
asked_run t (single a ∷ earlier) = (lent_by (asked_run t earlier) a).table
asked_run t (batch s places ∷ earlier) = (batch_of (asked_run t earlier) s places).table

-- the requests, and then the records one by one
unfoldable pub with_records : List Request → List Rec → List Request
with_records earlier [] = earlier
with_records earlier (r ∷ rs) = with_records (request_of r ∷ earlier) rs

abbrev pub with_batch : Option Refusal → List Request → List Rec → List Request
with_batch none earlier rs = with_records earlier rs
with_batch (some w) earlier rs = earlier

unfoldable pub flat : List Asked → List Request
flat [] = []
flat (single a ∷ earlier) = a ∷ flat earlier
flat (batch s places ∷ earlier) = with_batch (why_batch s places) (flat earlier) (records_in (log_of s))

-- the words of records behind requests, each by 01's reply, read afresh over what was accepted before it
unfoldable pub words01 : List Request → List Rec → List ℕ
words01 earlier [] = []
words01 earlier (r ∷ rs) = word_of (reply01 (accepted earlier) (request_of r)) ∷ words01 (request_of r ∷ earlier) rs

-- ---- 02, Req 08: what was handed in, frames and ticks, with batches among them: "a batch refused whole hands in none"

abbrev pub handed_by : Option Refusal → List Rec → ℕ
handed_by none rs = length rs
handed_by (some w) rs = 0

abbrev pub handed_asked : List Asked → ℕ
handed_asked [] = 0
handed_asked (single a ∷ earlier) = bit (is_arrival a) 1 + handed_asked earlier
handed_asked (batch s places ∷ earlier) = handed_by (why_batch s places) (records_in (log_of s)) + handed_asked earlier
