-- The laws of a log on one that was written: a frame and a tick, cut in the tick, in pieces, and with a byte too many.
use mathlib.Core.Path.{◌≡◌, refl}
use mathlib.Core.Bool.{true}
use mathlib.Core.List.{List, [], ◌∷◌}
use mathlib.Core.Logic.{◌⊎◌, inl, inr}
use Prim.Native.Nat.{◌≤◌}
use native.Mathlib.Omega.{arith}
use lib.ListN.{length, take}
use Rattle.std.specs.Prelude.{Err}
use Rattle.refusals.specs.declared.Refusal.TheVariants.{LogChannel}
use Rattle.log_records.specs.declared.RecordError.TheVariants.{Bad}
use Rattle.log_records.specs.declared.Found.TheVariants as found
use Rattle.log_numbers.specs.Number.{groups, read_groups}
use Rattle.log_numbers.proofs.Worked.{each_byte}
use Rattle.log_records.specs.Record.{Rec, tick, frame, AllLoggable, record_bytes, log_bytes}
use Rattle.log_records.specs.Reading.{tick_entry, rec_of, length_part, identifier_part, channel_part, time_part, record_at, found_at, log_of, ends, then, clean, piece, whole, wholly}
use Rattle.log_records.specs.Pieces.{piece_of, is_firm}
use Rattle.log_records.specs.Malformed.{Malformed}
use Rattle.log_records.proofs.Logs.{log_cut, log_reads, logs_differ}
use Rattle.log_records.proofs.Bads.{malformed_refused, refused_malformed}
use Rattle.log_records.proofs.Pieces.{in_pieces, same_record}
use Rattle.log_records.proofs.Cuts.{enough}

abbrev night : List Rec
night = frame 300 2 true 438272 (1 ∷ []) ∷ tick 300 3 ∷ []

loggable : AllLoggable night
loggable = ((omega arith, omega arith, omega arith, omega arith), ((omega arith, omega arith), tt))

pub night_reads : log_of (log_bytes night) ≡ then (frame 300 2 true 438272 (1 ∷ [])) (then (tick 300 3) (ends clean))
unfolding whole
night_reads = log_reads night loggable

-- two bytes of the tick are left
pub night_cut : log_of (take 10 (log_bytes night)) ≡ then (frame 300 2 true 438272 (1 ∷ [])) (ends (piece 8))
unfolding wholly log_bytes record_bytes groups
night_cut = log_cut night 10 loggable (omega arith)

-- cut at the seam there is no piece
pub night_seam : log_of (take 8 (log_bytes night)) ≡ then (frame 300 2 true 438272 (1 ∷ [])) (ends clean)
unfolding wholly log_bytes record_bytes groups
night_seam = log_cut night 8 loggable (omega arith)

-- time 0, then channel 32, and nothing behind it
pub night_bad : record_at (0 ∷ 32 ∷ []) 0 ≡ Err (Bad LogChannel)
unfolding Malformed groups
night_bad = malformed_refused (0 ∷ 32 ∷ []) LogChannel 0 (inr (0, 32 ∷ [], omega arith, refl, inr (32, [], omega arith, refl, inl (omega arith, refl))))

-- of the tick's five bytes a piece from byte 8 on shows it whole, the log having it there
pub night_piece : found_at (log_bytes night) 8 ≡ found.Record (tick_entry 300 3 13)
unfolding log_bytes record_bytes groups record_at time_part channel_part identifier_part length_part read_groups
night_piece = in_pieces (log_bytes night) 8 5 0 (inl refl)

-- a piece of two shows a cut, which is its own
pub night_short : found_at (piece_of (log_bytes night) 8 2) 0 ≡ found.Cut 0
unfolding log_bytes record_bytes groups record_at time_part channel_part identifier_part length_part read_groups
night_short = refl

-- from what is refused, back to what is bad about it
pub bad_told : Malformed LogChannel (0 ∷ 32 ∷ [])
bad_told = refused_malformed (0 ∷ 32 ∷ []) (each_byte (0 ∷ 32 ∷ []) refl) LogChannel 0 night_bad

-- the tick in the piece is the tick in the log
pub same_tick : rec_of (log_bytes night) (tick_entry 300 3 13) ≡ tick 300 3
unfolding log_bytes record_bytes groups record_at time_part channel_part identifier_part length_part read_groups
same_tick = same_record (log_bytes night) 8 5 0 (tick_entry 300 3 5) refl

-- 20 bytes from the first record on are enough: here they reach the log's end
pub night_enough : (is_firm (found_at (piece_of (log_bytes night) 0 20) 0) ≡ true) ⊎ (length (log_bytes night) ≤ 20)
night_enough = enough (log_bytes night) 0 20 0 (omega arith)

-- no other records write this log
pub night_alone : (rs : List Rec) → AllLoggable rs → log_bytes rs ≡ log_bytes night → rs ≡ night
night_alone rs h e = logs_differ rs night h loggable e
