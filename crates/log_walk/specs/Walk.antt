-- Inner step: a walk over a log that is read in pieces, as the code takes it. What it says of the whole log is Walked.antt's.
use Rattle.std.specs.Prelude.{ℕ, ◌+◌, ◌-◌, ◌%◌, ◌^◌, Bool, true, false, cond, List, length, ℤ, pos, negsuc, ◌==◌, nat_le}
use Rattle.log_records.specs.declared.Found.{Found}
use Rattle.log_records.specs.declared.Found.TheVariants as found
use Rattle.log_records.specs.Reading.{found_at}
use Rattle.log_walk.specs.declared.Stand.{Stand}
use Rattle.log_walk.specs.declared.Stand.TheVariants as stand
use Rattle.log_walk.specs.declared.Walk.{Walk}
use Rattle.log_walk.specs.declared.Seen.{Seen}
use Rattle.log_walk.specs.declared.Seen.TheVariants as seen
use Rattle.log_walk.specs.declared.Step.{Step}

-- ---- where a walk stands

abbrev pub is_within : Stand → Bool
is_within stand.Within = true
is_within stand.Seam = false
is_within stand.End = false
is_within stand.Cut = false
is_within (stand.Bad why) = false
is_within stand.Short = false

abbrev pub is_seam : Stand → Bool
is_seam stand.Within = false
is_seam stand.Seam = true
is_seam stand.End = false
is_seam stand.Cut = false
is_seam (stand.Bad why) = false
is_seam stand.Short = false

abbrev pub is_short : Stand → Bool
is_short stand.Within = false
is_short stand.Seam = false
is_short stand.End = false
is_short stand.Cut = false
is_short (stand.Bad why) = false
is_short stand.Short = true

-- a length as the system tells it; below 0 it is none
abbrev pub bytes_in : ℤ → ℕ
bytes_in (pos n) = n
bytes_in (negsuc n) = 0

-- ---- a walk and its steps

-- bytes and records are counted in 64 bits; a log has fewer
abbrev pub sum64 : ℕ → ℕ → ℕ
sum64 a b = (a + b) % 2 ^ 64

-- a log of so many bytes, whose first piece is still to be read
abbrev pub start_of : ℕ → Walk
start_of n = record { size = n; records = 0; at = 0; from = 0; stand = stand.Seam }

-- the byte of the piece
abbrev pub place_in : Walk → ℕ
place_in w = w.at - w.from

abbrev pub seen_of : Found → Seen
seen_of (found.Record e) = seen.Record e.next
seen_of found.End = seen.End
seen_of (found.Cut b) = seen.Cut
seen_of (found.Refused why b) = seen.Bad why

abbrev pub standing : Walk → Stand → Walk
standing w x = record { size = w.size; records = w.records; at = w.at; from = w.from; stand = x }

-- the next piece begins with the record that this one cuts
abbrev pub on_piece : Walk → Walk
on_piece w = record { size = w.size; records = w.records; at = w.at; from = w.at; stand = stand.Seam }

-- an end or a cut in a piece of n bytes is the log's where the piece reaches the log's end
-- elsewhere the record is in the next piece, unless it is this one's first
unfoldable pub open_by : Walk → ℕ → Stand → Walk
open_by w n x = cond (nat_le w.size (sum64 w.from n)) (standing w x) (cond (w.at == w.from) (standing w stand.Short) (on_piece w))

-- a record of the piece, behind which its byte `next` stands
abbrev pub behind_of : Walk → ℕ → Walk
behind_of w next = record { size = w.size; records = sum64 w.records 1; at = sum64 w.from next; from = w.from; stand = stand.Within }

abbrev pub passed_by : Walk → ℕ → Seen → Walk
passed_by w n (seen.Record next) = behind_of w next
passed_by w n seen.End = open_by w n stand.End
passed_by w n seen.Cut = open_by w n stand.Cut
passed_by w n (seen.Bad why) = standing w (stand.Bad why)

abbrev pub step_of : Walk → List ℕ → Step
step_of w v = record { walk = passed_by w (length v) (seen_of (found_at v (place_in w))); found = found_at v (place_in w) }
