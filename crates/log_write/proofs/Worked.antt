-- The laws of the writer on 02's frame of 8 bytes, "AC 02 02 81 C0 35 01 01", in a buffer with one byte more and in one with one byte less.
use Rattle.std.specs.Prelude.{Ok, Err}
use mathlib.Core.Path.{◌≡◌}
use mathlib.Core.Bool.{true}
use mathlib.Core.List.{List, [], ◌∷◌}
use Prim.Native.Nat.{ℕ, ◌<◌}
use native.Mathlib.Omega.{arith}
use lib.ListN.{length, take, drop}
use Rattle.refusals.specs.declared.Refusal.TheVariants.{ShortBuffer}
use Rattle.log_numbers.specs.Number.{groups}
use Rattle.log_records.specs.Record.{Rec, frame, Loggable, record_bytes}
use Rattle.log_write.specs.Writing.{written_of, buffer_after}
use Rattle.log_write.proofs.Writings.{loggable_written, written_loggable, short_last, short_loggable, buffer_record, buffer_refused}

abbrev worked : Rec
worked = frame 300 2 true 438272 (1 ∷ [])

abbrev nine : List ℕ
nine = 7 ∷ 7 ∷ 7 ∷ 7 ∷ 7 ∷ 7 ∷ 7 ∷ 7 ∷ 7 ∷ []

abbrev seven : List ℕ
seven = 7 ∷ 7 ∷ 7 ∷ 7 ∷ 7 ∷ 7 ∷ 7 ∷ []

loggable : Loggable worked
loggable = (omega arith, omega arith, omega arith, omega arith)

pub eight_bytes : written_of worked nine ≡ Ok 8
unfolding record_bytes groups
eight_bytes = loggable_written worked nine loggable (omega arith)

pub the_record : take 8 (buffer_after worked nine) ≡ 0xac ∷ 0x02 ∷ 0x02 ∷ 0x81 ∷ 0xc0 ∷ 0x35 ∷ 0x01 ∷ 0x01 ∷ []
unfolding record_bytes groups
the_record = (buffer_record worked nine 8 eight_bytes).0

pub the_ninth : drop 8 (buffer_after worked nine) ≡ 7 ∷ []
the_ninth = (buffer_record worked nine 8 eight_bytes).1

pub can_hold : Loggable worked
can_hold = (written_loggable worked nine 8 eight_bytes).0 (omega arith)

-- ---- one byte less

pub too_short : written_of worked seven ≡ Err ShortBuffer
unfolding record_bytes groups
too_short = short_last worked seven loggable (omega arith)

pub only_short : length seven < length (record_bytes worked)
only_short = (short_loggable worked seven too_short).1

pub as_it_was : buffer_after worked seven ≡ seven
as_it_was = buffer_refused worked seven ShortBuffer too_short
