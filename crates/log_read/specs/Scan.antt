-- How many records a log has, and how it ends.
use Rattle.std.specs.Prelude.{ℕ, ◌+◌}
use Rattle.log_read.specs.declared.Ending.TheVariants as ending
use Rattle.log_read.specs.declared.Scan.{Scan}
use Rattle.log_records.specs.Reading.{Log, ends, then, clean, piece, refused}

-- n records came before
unfoldable pub scan_of : ℕ → Log → Scan
scan_of n (ends clean) = record { records = n; ending = ending.Clean }
scan_of n (ends (piece at)) = record { records = n; ending = ending.Cut at }
scan_of n (ends (refused w at)) = record { records = n; ending = ending.Refused w at }
scan_of n (then r l) = scan_of (n + 1) l
