-- The records of a log, one after the other: what stands at a byte gives the next one, or tells how the log ended.
use Rattle.std.specs.Prelude.{◌≡◌, ℕ, Option, Some, None}
use Rattle.log_records.specs.declared.Entry.{Entry}
use Rattle.log_records.specs.declared.Found.{Found}
use Rattle.log_records.specs.declared.Found.TheVariants as found
use Rattle.log_records.specs.Reading.{found_at, Log, ends, clean, piece, refused}
use Rattle.log_read.specs.declared.records.Records.{Records}
use Rattle.log_read.specs.declared.Ending.{Ending}
use Rattle.log_read.specs.declared.Ending.TheVariants as ending

abbrev pub entry_in : Found → Option Entry
entry_in (found.Record e) = Some e
entry_in found.End = None
entry_in (found.Cut at) = None
entry_in (found.Refused why at) = None

-- behind the record, or still where none stands
abbrev pub behind : ℕ → Option Entry → ℕ
behind at (Some e) = e.next
behind at None = at

-- a call of `next` gives the record at a reader's byte and goes behind it, or gives none and stays
pub record Reads (r : Records) (x : Option Entry) (t : Records) : Type 0 where
  pub gives : x ≡ entry_in (found_at r.log.now r.at)
  pub same_log : t.log ≡ r.log
  pub goes : t.at ≡ behind r.at x

-- a record does not end the log
abbrev pub ending_in : Found → Ending
ending_in (found.Record e) = ending.Clean
ending_in found.End = ending.Clean
ending_in (found.Cut at) = ending.Cut at
ending_in (found.Refused why at) = ending.Refused why at

-- a log that ends so, with no record
abbrev pub ended : Ending → Log
ended ending.Clean = ends clean
ended (ending.Cut at) = ends (piece at)
ended (ending.Refused why at) = ends (refused why at)
