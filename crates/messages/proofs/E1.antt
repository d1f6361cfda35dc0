-- The theorems of both ways on E1: what it reads as is written as its bytes, into a longer buffer too, and no other message is; with 201 kOhm, for which
-- there is no raw number, nothing is written.
use Rattle.std.specs.Prelude.{Ok, Err}
use mathlib.Core.Path.{◌≡◌, refl}
use mathlib.Core.Bool.{true, false}
use mathlib.Core.List.{List, [], ◌∷◌}
use Prim.Native.Nat.{ℕ}
use native.Mathlib.Omega.{arith}
use lib.IntN.{pos}
use lib.ListN.{take}
use Rattle.refusals.specs.declared.Refusal.TheVariants.{NoRawNumber}
use Rattle.signal.specs.Signal.{get_bits}
use Rattle.signal.specs.Twos.{to_signed}
use Rattle.payload.specs.Payload.{le_number, le_bytes, Bytes}
use Rattle.payload.proofs.Orders.{are_of}
use Rattle.page_table.specs.Table.{rows, of_kind, first_at, covered, big_of}
use Rattle.page_read.specs.Judge.{unlabelled, stray_below, judged_number, judge_of}
use Rattle.page_write.specs.Raws as pages
use Rattle.message_types.specs.declared.Message.{Message}
use Rattle.message_types.specs.declared.Message.TheVariants.{Status}
use Rattle.message_build.specs.Built.{built_of, message_of}
use Rattle.messages.specs.Read.{read_of}
use Rattle.messages.specs.Write.{write_of, buffer_after}
use Rattle.messages.specs.Writable.{form_of}
use Rattle.messages.specs.Readings.{e1}
use Rattle.messages.specs.Trips.{WrittenAs}
use Rattle.messages.proofs.Trips.{read_form, read_write, write_read, write_refused, one_message_lem}

abbrev frame : List ℕ
frame = 0xA0 ∷ 0x0F ∷ 0x83 ∷ 0xFF ∷ 0x41 ∷ 0x00 ∷ 0x01 ∷ 0x64 ∷ []

abbrev nine : List ℕ
nine = 7 ∷ 7 ∷ 7 ∷ 7 ∷ 7 ∷ 7 ∷ 7 ∷ 7 ∷ 7 ∷ []

abbrev message : Message
message = Status (e1 (pos 25) 200)

bytes : Bytes frame
unfolding le_bytes
bytes = are_of false 8 0x64010041ff830fa0

reads : read_of 0x63000 true frame ≡ Ok message
unfolding read_of message_of built_of rows of_kind first_at covered big_of unlabelled stray_below judged_number judge_of get_bits le_number to_signed pages.raws_of pages.wholes_of pages.pad
reads = refl

pub its_form : form_of message ≡ true
its_form = read_form 0x63000 true frame message reads bytes

pub as_written : WrittenAs 0x63000 frame message
as_written = read_write 0x63000 true frame message reads bytes

wrote : write_of message nine ≡ Ok (0x63000, 8)
wrote = (as_written nine (omega arith)).0

pub reads_back : read_of 0x63000 (form_of message) (take 8 (buffer_after message nine)) ≡ Ok message
reads_back = (write_read message nine 0x63000 8 wrote).0

-- whatever message writes these bytes is this one
pub the_one : (y : Message) (buf : List ℕ) → write_of y buf ≡ Ok (0x63000, 8) → take 8 (buffer_after message nine) ≡ take 8 (buffer_after y buf) → message ≡ y
the_one y buf e s = one_message_lem message y nine buf 0x63000 8 8 wrote e s

-- E6: 201 kOhm
abbrev odd : Message
odd = Status (e1 (pos 25) 201)

odd_refused : write_of odd nine ≡ Err NoRawNumber
unfolding write_of
odd_refused = refl

pub odd_leaves : buffer_after odd nine ≡ nine
odd_leaves = write_refused odd nine NoRawNumber odd_refused
