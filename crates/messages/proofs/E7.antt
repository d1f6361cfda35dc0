-- `change_message` on E7, "changing E1's current to -1": each premise holds there, and the bytes are those of E1's message with -1 as its second raw number.
use Rattle.std.specs.Prelude.{Ok}
use mathlib.Core.Path.{◌≡◌, refl, subst}
use mathlib.Core.Bool.{true, false}
use mathlib.Core.List.{List, [], ◌∷◌}
use Prim.Native.Nat.{ℕ}
use lib.Dec.{ltb}
use lib.IntN.{pos, negsuc}
use lib.ListN.{length, get_or}
use borrow.Author.Tests.{ltb-true}
use Rattle.signal.specs.Signal.{get_bits, put_bits}
use Rattle.signal.specs.Twos.{to_signed, of_signed}
use Rattle.payload.specs.Payload.{le_number, le_bytes, Bytes}
use Rattle.payload.proofs.Orders.{are_of}
use Rattle.page_table.specs.Table.{rows, no_row, of_kind, rows_of, first_at, covered, big_of}
use Rattle.page_read.specs.Judge.{unlabelled, stray_below, judged_number, judge_of}
use Rattle.page_write.specs.Raws as pages
use Rattle.page_change.specs.Change.{change_of, bytes_after}
use Rattle.message_types.specs.declared.Message.{Message}
use Rattle.message_types.specs.declared.Message.TheVariants.{Status}
use Rattle.message_build.specs.Built.{built_of, message_of}
use Rattle.message_take.specs.Take.{raws_of}
use Rattle.messages.specs.Read.{read_of}
use Rattle.messages.specs.Readings.{e1}
use Rattle.messages.specs.Trips.{BytesWith}
use Rattle.messages.proofs.Changing.{change_message}

abbrev frame : List ℕ
frame = 0xA0 ∷ 0x0F ∷ 0x83 ∷ 0xFF ∷ 0x41 ∷ 0x00 ∷ 0x01 ∷ 0x64 ∷ []

abbrev after : List ℕ
after = 0xA0 ∷ 0x0F ∷ 0xFF ∷ 0xFF ∷ 0x41 ∷ 0x00 ∷ 0x01 ∷ 0x64 ∷ []

abbrev message : Message
message = Status (e1 (pos 25) 200)

bytes : Bytes frame
unfolding le_bytes
bytes = are_of false 8 0x64010041ff830fa0

-- the premises, by computing
computed : (read_of 0x63000 true frame ≡ Ok message) × (change_of 0x63000 true frame 16 (negsuc 0) ≡ Ok (0, 0x64010041ffff0fa0))
    × (bytes_after frame (change_of 0x63000 true frame 16 (negsuc 0)) ≡ after) × (ltb 1 (length (rows_of 0)) ≡ true) × ((get_or (rows_of 0) 1 no_row).start ≡ 16)
    × (raws_of message ≡ pos 4000 ∷ negsuc 124 ∷ pos 65 ∷ pos 0 ∷ pos 1 ∷ pos 100 ∷ [])
unfolding read_of message_of built_of raws_of rows of_kind first_at covered big_of unlabelled stray_below judged_number judge_of change_of get_bits put_bits le_number le_bytes to_signed of_signed pages.raws_of pages.wholes_of pages.pad
computed = (refl, refl, refl, refl, refl, refl)

pub changed_current : BytesWith 0x63000 true after 1 (negsuc 0) message
changed_current =
    subst (λ (cs : List ℕ). BytesWith 0x63000 true cs 1 (negsuc 0) message) computed.2
    (change_message 0x63000 true frame message computed.0 bytes 16 (negsuc 0) 0 0x64010041ffff0fa0 computed.1 1 (ltb-true 1 (length (rows_of 0)) computed.3) computed.4)

-- its raw numbers: 400.0 V, -0.1 A, and the rest as it was
pub changed_raws : raws_of changed_current.message ≡ pos 4000 ∷ negsuc 0 ∷ pos 65 ∷ pos 0 ∷ pos 1 ∷ pos 100 ∷ []
unfolding raws_of
changed_raws = changed_current.changed.1
