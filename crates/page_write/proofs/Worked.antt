-- The theorems of WrittenBits on a frame of each byte order: New_Charge_Session with protocol 2 and plug 1, written into one byte more than it has, and
-- PT1000State with -10.0 °C in the first probe, FE 70. With plug 5, which has no label, the session is refused.
use Rattle.std.specs.Prelude.{Ok, Err}
use Rattle.std.proofs.Common.{◌≡◌, ℕ, ◌*◌, true, false, ltb, leb, List, [], ◌∷◌, length, get_or, ℤ, pos, negsuc, refl, inr, arith, ltb-true, leb-true}
use Rattle.refusals.specs.declared.Refusal.TheVariants.{NoRawNumber}
use Rattle.signal.specs.Signal.{get_bits}
use Rattle.signal.specs.Twos.{of_signed}
use Rattle.page_read.specs.payload.specs.Payload.{bit_at}
use Rattle.page_read.specs.payload.specs.Order.{walk, place}
use Rattle.page_read.specs.page_table.specs.Table.{rows, no_row, of_kind, rows_of, identifier_of, length_of, big_of, covered}
use Rattle.page_read.specs.page_table.proofs.PageBits.{no_signal_lem}
use Rattle.page_write.specs.Raws.{row_takes, all_take, write_raws_of, buffer_after}
use Rattle.page_write.specs.Refusing.{Gives}
use Rattle.page_write.proofs.Refusing.{raws_7}
use Rattle.page_write.proofs.WrittenBits.{raw_bit, raw_else, raw_behind, raws_refused}

abbrev session : List ℤ
session = pos 2 ∷ pos 1 ∷ []

abbrev longer : List ℕ
longer = 0 ∷ 0 ∷ 1 ∷ []

abbrev probes : List ℤ
probes = negsuc 99 ∷ pos 0 ∷ pos 0 ∷ pos 0 ∷ pos 0 ∷ pos 0 ∷ pos 0 ∷ pos 0 ∷ pos 0 ∷ pos 0 ∷ pos 0 ∷ pos 0 ∷ []

abbrev zeros : List ℕ
zeros = 0 ∷ 0 ∷ 0 ∷ 0 ∷ 0 ∷ 0 ∷ 0 ∷ 0 ∷ []

written : (write_raws_of 3 session longer ≡ Ok (0x6b001, 2)) × (write_raws_of 11 probes zeros ≡ Ok (8, 8)) × (ltb 1 (length (rows_of 3)) ≡ true) × (ltb 0 (length (rows_of 11)) ≡ true)
unfolding rows of_kind identifier_of length_of all_take of_signed write_raws_of
written = (refl, refl, refl, refl)

-- the plug's lowest bit, bit 8 of the frame
pub plug_bit : bit_at (buffer_after 3 session longer) 8 ≡ 1
unfolding rows of_kind get_bits
plug_bit = raw_bit 3 session longer 0x6b001 2 written.0 1 (ltb-true 1 (length (rows_of 3)) written.2) 0 (omega arith)

-- the byte behind the message
pub third_byte : bit_at (buffer_after 3 session longer) 16 ≡ bit_at longer 16
unfolding rows of_kind length_of
third_byte = raw_behind 3 session longer 0x6b001 2 written.0 16 (omega arith)

-- the highest bit of the first probe's temperature, bit 7 of the frame, is its sign
pub probe_sign : bit_at (buffer_after 11 probes zeros) 7 ≡ 1
unfolding rows of_kind get_bits of_signed walk
probe_sign = raw_bit 11 probes zeros 8 8 written.1 0 (ltb-true 0 (length (rows_of 11)) written.3) 13 (omega arith)

-- ChargeControl1 with 53.3 % and PWM active, 82 15: no signal has bit 63
abbrev duty : List ℤ
duty = pos 533 ∷ pos 1 ∷ pos 0 ∷ pos 0 ∷ []

free : (write_raws_of 9 duty zeros ≡ Ok (6, 8)) × (covered (rows_of 9) (place (big_of 9) (length_of 9) 63) ≡ false) × (ltb 63 (8 * length_of 9) ≡ true)
unfolding rows of_kind identifier_of length_of big_of covered all_take of_signed write_raws_of
free = (refl, refl, refl)

pub last_bit : bit_at (buffer_after 9 duty zeros) 63 ≡ 0
last_bit = raw_else 9 duty zeros 6 8 free.0 63 (ltb-true 63 (8 * length_of 9) free.2) (no_signal_lem 9 63 free.1)

-- ---- a number without a label

abbrev nameless : List ℤ
nameless = pos 2 ∷ pos 5 ∷ []

unwritable : (row_takes (get_or (rows_of 3) 1 no_row) (pos 5) ≡ false) × (leb (length (rows_of 3)) 2 ≡ true) × (write_raws_of 3 nameless longer ≡ Err NoRawNumber)
unfolding rows of_kind length_of all_take of_signed write_raws_of
unwritable = (refl, refl, refl)

pub seven : Gives 7 (write_raws_of 3 nameless longer)
seven = (raws_7 3 nameless longer (leb-true (length (rows_of 3)) 2 unwritable.1)).1 (inr (1, ltb-true 1 (length (rows_of 3)) written.2, unwritable.0))

pub untouched : buffer_after 3 nameless longer ≡ longer
untouched = raws_refused 3 nameless longer NoRawNumber unwritable.2
