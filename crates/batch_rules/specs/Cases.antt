-- When a batch is refused and when it is taken, said of its bytes s and the number of places for answers. 02, Req 07: "judged in this order".
use Rattle.std.specs.Prelude.{ℕ, ◌<◌, ◌≤◌, ◌≡◌, true, false, List, length}
use Rattle.log_records.specs.Reading.{log_of, records_in}
use Rattle.batch_rules.specs.Batch.{most_bytes, is_whole}

-- "A slice above 4,096 bytes"
abbrev pub TooLong : List ℕ → ℕ → Type 0
TooLong s places = most_bytes < length s

-- "a malformed or cut record"
abbrev pub Broken : List ℕ → ℕ → Type 0
Broken s places = (length s ≤ most_bytes) × (is_whole (log_of s) ≡ false)

-- "an answers slice shorter than the records"
abbrev pub NoRoom : List ℕ → ℕ → Type 0
NoRoom s places = (length s ≤ most_bytes) × (is_whole (log_of s) ≡ true) × (places < length (records_in (log_of s)))

abbrev pub Taken : List ℕ → ℕ → Type 0
Taken s places = (length s ≤ most_bytes) × (is_whole (log_of s) ≡ true) × (length (records_in (log_of s)) ≤ places)
