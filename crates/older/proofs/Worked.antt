-- The laws of the older interface on its frames: E1's bytes as Power_Modules_Status, a Sequence_Control, and a frame of the safety controller, which both
-- interfaces have.
use Rattle.std.specs.Prelude.{Ok, Err}
use mathlib.Core.Path.{◌≡◌, refl}
use mathlib.Core.Bool.{true, false}
use mathlib.Core.List.{List, [], ◌∷◌}
use Prim.Native.Nat.{ℕ, ◌<◌}
use lib.Dec.{lit≤}
use lib.IntN.{negsuc}
use lib.ListN.{length, get_or, take, drop}
use Rattle.refusals.specs.declared.Refusal.TheVariants.{UncoveredBit}
use Rattle.signal.specs.Signal.{get_bits, put_bits}
use Rattle.signal.specs.Twos.{to_signed, of_signed}
use Rattle.payload.specs.Payload.{le_number, le_bytes, be_number, stored_in, Bytes}
use Rattle.payload.proofs.Orders.{are_of}
use Rattle.page_table.specs.declared.Interface.TheVariants.{Newer, Older}
use Rattle.page_table.specs.Interfaces.{is_on}
use Rattle.page_table.specs.Messages.{message_count}
use Rattle.page_table.specs.Table.{rows, of_kind, first_at, rows_of, no_row, covered, identifier_of, extended_of, length_of, big_of}
use Rattle.page_read.specs.Judge.{unlabelled, offender, stray_below, judged_number, judge_on}
use Rattle.page_read.specs.Refusing.{Uncovered}
use Rattle.page_read.proofs.Interfaces.{on_own, on_table, on_other}
use Rattle.page_read.proofs.Refusing.{gives_6}
use Rattle.page_write.specs.Raws as pages
use Rattle.page_change.specs.Change.{change_on, bytes_after}
use Rattle.older_types.specs.declared.Message.{Message}
use Rattle.older_types.specs.declared.Message.TheVariants.{Status, Sequence}
use Rattle.older_take.specs.Take.{raws_of}
use Rattle.older.specs.Read.{read_of}
use Rattle.older.specs.Write.{write_of, buffer_after}
use Rattle.older.specs.Trips.{WrittenAs, BytesWith}
use Rattle.older.specs.Readings.{status, sequence, e1, allowed, readings}
use Rattle.older.proofs.Trips.{read_write, write_read, one_message_lem}
use Rattle.older.proofs.Changing.{change_message}

-- ---- the frames

e1_bytes : Bytes e1
unfolding le_bytes
e1_bytes = are_of false 8 0x64010041ff830fa0

-- bit 2 set
abbrev stray : List ℕ
stray = 0x05 ∷ 0x07 ∷ 0x00 ∷ []

stray_bytes : Bytes stray
unfolding le_bytes
stray_bytes = are_of false 3 0x000705

abbrev duty : List ℕ
duty = 0x82 ∷ 0x15 ∷ 0 ∷ 0 ∷ 0 ∷ 0 ∷ 0 ∷ 0 ∷ []

abbrev room : List ℕ
room = 7 ∷ 7 ∷ 7 ∷ 9 ∷ []

computed : (judge_on Older 0x60012 true allowed ≡ Ok (14, 0x0701)) × (judge_on Older 6 false duty ≡ Ok (9, 0x8215000000000000))
    × (judge_on Older 0x60012 true stray ≡ Err UncoveredBit) × (write_of (Sequence sequence) room ≡ Ok (0x60012, 3))
    × (change_on Older 0x60010 true e1 16 (negsuc 0) ≡ Ok (12, 0x64010041ffff0fa0)) × (1 < length (rows_of 12)) × ((get_or (rows_of 12) 1 no_row).start ≡ 16)
unfolding raws_of write_of rows of_kind first_at covered identifier_of length_of big_of unlabelled offender stray_below judged_number judge_on change_on get_bits put_bits le_number le_bytes be_number stored_in to_signed of_signed pages.raws_of pages.wholes_of pages.pad pages.all_take pages.packed_on pages.write_raws_of pages.buffer_after
computed = (refl, refl, refl, refl, refl, lit≤ tt, refl)

-- ---- interfaces

pub sequence_own : is_on Older 14 ≡ true
sequence_own = on_own Older 0x60012 true allowed 14 0x0701 computed.0

pub sequence_listed : 14 < message_count
sequence_listed = on_table Older 0x60012 true allowed 14 0x0701 computed.0

-- the newer interface reads the safety controller's frame too, and as the same
pub duty_either : judge_on Newer 6 false duty ≡ Ok (9, 0x8215000000000000)
duty_either = on_other Older Newer 6 false duty 9 0x8215000000000000 computed.1 refl

-- a Sequence_Control with bit 2 has a bit that no signal covers
pub strays : Uncovered Older 0x60012 true stray
strays = (gives_6 Older 0x60012 true stray stray_bytes).0 (UncoveredBit, computed.2, refl)

-- ---- there and back

pub e1_written : WrittenAs 0x60010 e1 (Status status)
e1_written = read_write 0x60010 true e1 (Status status) readings.0 e1_bytes

pub sequence_read : (read_of 0x60012 true (take 3 (buffer_after (Sequence sequence) room)) ≡ Ok (Sequence sequence)) × (drop 3 (buffer_after (Sequence sequence) room) ≡ 9 ∷ [])
unfolding rows of_kind extended_of
sequence_read = write_read (Sequence sequence) room 0x60012 3 computed.3

-- what is written as a message's bytes is that message
pub one_sequence : (x : Message) → write_of x room ≡ Ok (0x60012, 3) → take 3 (buffer_after x room) ≡ take 3 (buffer_after (Sequence sequence) room) → x ≡ Sequence sequence
one_sequence x e s = one_message_lem x (Sequence sequence) room room 0x60012 3 3 e computed.3 s

-- E7: the current becomes -1
pub e7 : BytesWith 0x60010 true (bytes_after e1 (change_on Older 0x60010 true e1 16 (negsuc 0))) 1 (negsuc 0) (Status status)
e7 = change_message 0x60010 true e1 (Status status) readings.0 e1_bytes 16 (negsuc 0) 12 0x64010041ffff0fa0 computed.4 1 computed.5 computed.6
