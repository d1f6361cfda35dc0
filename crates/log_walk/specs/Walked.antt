-- What a walk says of the whole log.
use Rattle.std.specs.Prelude.{◌≡◌, ℕ, ◌≤◌, List, [], ◌∷◌, length}
use Rattle.log_records.specs.Reading.{Log, read_from, log_of, end_in}
use Rattle.log_records.specs.Pieces.{piece_of}
use Rattle.log_read.specs.declared.Scan.{Scan}
use Rattle.log_read.specs.declared.Ending.TheVariants as ending
use Rattle.log_read.specs.Scan.{scan_of}
use Rattle.log_walk.specs.declared.Stand.{Stand}
use Rattle.log_walk.specs.declared.Stand.TheVariants as stand
use Rattle.log_walk.specs.declared.Walk.{Walk}
use Rattle.log_walk.specs.Walk.{step_of}

-- the log s from its byte a on
abbrev pub rest_of : List ℕ → ℕ → Log
rest_of s a = read_from (length s) s a

-- a walk up to byte a is at the log's end: x is what `scan_log` answers for the whole log, and a is the byte behind the log's last whole record
abbrev pub Ended : List ℕ → ℕ → Scan → Type 0
Ended s a x = (scan_of 0 (log_of s) ≡ x) × (end_in (length s) (log_of s) ≡ a)

abbrev pub Says : List ℕ → ℕ → ℕ → Stand → Type 0
Says s n a stand.Within = Unit {0}
Says s n a stand.Seam = Unit {0}
Says s n a stand.End = Ended s a (record { records = n; ending = ending.Clean })
Says s n a stand.Cut = Ended s a (record { records = n; ending = ending.Cut a })
Says s n a (stand.Bad why) = Ended s a (record { records = n; ending = ending.Refused why a })
Says s n a stand.Short = Unit {0}

-- and wherever it stands: the rest of the log, behind the records so far, gives the answer for the whole
abbrev pub Walked : List ℕ → Walk → Type 0
Walked s w =
    (w.size ≡ length s) × (w.from ≤ w.at) × (w.at ≤ length s) × (w.records ≤ w.at) × (scan_of w.records (rest_of s w.at) ≡ scan_of 0 (log_of s))
    × Says s w.records w.at w.stand

-- step after step over the log s, each over the bytes from where the piece begins on, and as many of them as the list tells
unfoldable pub over : List ℕ → List ℕ → Walk → Walk
over s [] w = w
over s (k ∷ ks) w = over s ks (step_of w (piece_of s w.from k)).walk
