-- The theorems of both ways on an ADM_CS_SECC_Outputs, 02, Req 14: "Reserved signals are carried, not dropped": what it reads as, with its 60 reserved bits, is
-- written as its bytes and reads back; and no message with other reserved bits is.
use Rattle.std.specs.Prelude.{Ok}
use mathlib.Core.Path.{◌≡◌, refl}
use mathlib.Core.Bool.{true, false}
use mathlib.Core.List.{List, [], ◌∷◌}
use Prim.Native.Nat.{ℕ}
use lib.ListN.{take}
use Rattle.signal.specs.Signal.{get_bits}
use Rattle.signal.specs.Twos.{to_signed}
use Rattle.payload.specs.Payload.{le_number, le_bytes, Bytes}
use Rattle.payload.proofs.Orders.{are_of}
use Rattle.page_table.specs.Table.{rows, of_kind, first_at, covered, big_of}
use Rattle.page_read.specs.Judge.{unlabelled, stray_below, judged_number, judge_of}
use Rattle.page_write.specs.Raws as pages
use Rattle.message_types.specs.declared.Message.{Message}
use Rattle.message_types.specs.declared.Message.TheVariants.{Outputs}
use Rattle.message_build.specs.Built.{built_of, message_of}
use Rattle.messages.specs.Read.{read_of}
use Rattle.messages.specs.Write.{write_of, buffer_after}
use Rattle.messages.specs.Writable.{form_of}
use Rattle.messages.specs.Readings.{outputs}
use Rattle.messages.specs.Trips.{WrittenAs}
use Rattle.messages.proofs.Trips.{read_write, write_read, one_message_lem}

abbrev frame : List ℕ
frame = 0x19 ∷ 0x32 ∷ 0x54 ∷ 0x76 ∷ 0x98 ∷ 0xBA ∷ 0xDC ∷ 0xFE ∷ []

abbrev message : Message
message = Outputs (outputs 0xFEDCBA987654321)

bytes : Bytes frame
unfolding le_bytes
bytes = are_of false 8 0xFEDCBA9876543219

reads : read_of 0x63201 true frame ≡ Ok message
unfolding read_of message_of built_of rows of_kind first_at covered big_of unlabelled stray_below judged_number judge_of get_bits le_number to_signed pages.raws_of pages.wholes_of pages.pad
reads = refl

pub as_written : WrittenAs 0x63201 frame message
as_written = read_write 0x63201 true frame message reads bytes

module _ (buf : List ℕ) (wrote : write_of message buf ≡ Ok (0x63201, 8)) where
  pub reads_back : read_of 0x63201 (form_of message) (take 8 (buffer_after message buf)) ≡ Ok message
  reads_back = (write_read message buf 0x63201 8 wrote).0

  -- whatever message writes these bytes has these reserved bits
  pub the_one : (y : Message) (other : List ℕ) → write_of y other ≡ Ok (0x63201, 8) → take 8 (buffer_after message buf) ≡ take 8 (buffer_after y other) → message ≡ y
  the_one y other e s = one_message_lem message y buf other 0x63201 8 8 wrote e s
