-- The laws of a change on E7, "changing E1's current to -1", and on a change of New_Charge_Session's plug to 5, which has no label.
use Rattle.std.specs.Prelude.{Ok, Err}
use mathlib.Core.Path.{◌≡◌, refl}
use mathlib.Core.Bool.{true, false}
use mathlib.Core.Logic.{inl, inr}
use mathlib.Core.List.{List, [], ◌∷◌}
use Prim.Native.Nat.{ℕ}
use native.Mathlib.Omega.{arith}
use lib.IntN.{pos, negsuc}
use Rattle.refusals.specs.declared.Refusal.TheVariants.{NoLabel, TooShort}
use Rattle.signal.specs.Signal.{get_bits, put_bits}
use Rattle.signal.specs.Raw.{fits_in, bits_in}
use Rattle.signal.specs.Twos.{of_signed}
use Rattle.signal.proofs.Laws.{put_put}
use Rattle.payload.specs.Payload.{le_number, le_bytes, number_of, bytes_of, bit_at, Bytes}
use Rattle.payload.proofs.Orders.{are_of}
use Rattle.payload.proofs.WholeBytes.{whole_stored}
use Rattle.page_write.specs.page_table.specs.declared.Interface.TheVariants.{Newer}
use Rattle.page_write.specs.page_table.specs.declared.Row.{Row}
use Rattle.page_write.specs.page_table.specs.Table.{rows, of_kind, first_at, row_at, big_of, covered, takes}
use Rattle.page_write.specs.page_table.specs.Listed.{SignalAt}
use Rattle.page_write.specs.page_read.specs.Judge.{unlabelled, stray_below, judged_number, judge_on}
use Rattle.page_write.specs.page_read.specs.Refusing.{Gives}
use Rattle.page_write.specs.Raws.{whole_at}
use Rattle.page_change.specs.Change.{change_on, bytes_after}
use Rattle.page_change.proofs.Changes.{change_bit, change_kept, change_raws_lem, change_read, change_refused}
use Rattle.page_change.proofs.Refusing.{change_own, new_offence}

-- ---- E7: -125 at start 16 becomes -1

abbrev frame : List ℕ
frame = 0xA0 ∷ 0x0F ∷ 0x83 ∷ 0xFF ∷ 0x41 ∷ 0x00 ∷ 0x01 ∷ 0x64 ∷ []

abbrev after : List ℕ
after = bytes_after frame (change_on Newer 0x63000 true frame 16 (negsuc 0))

bytes : Bytes frame
unfolding le_bytes
bytes = are_of false 8 0x64010041ff830fa0

-- Present_Current is the second row
abbrev current : Row
current = row_at 1

computed : (change_on Newer 0x63000 true frame 16 (negsuc 0) ≡ Ok (0, 0x64010041ffff0fa0)) × SignalAt 0 16 current
unfolding rows of_kind first_at covered big_of unlabelled stray_below judged_number judge_on change_on get_bits put_bits le_number le_bytes of_signed
computed = (refl, record { is_signal = inr (inl refl); start = refl })

pub accepted : judge_on Newer 0x63000 true after ≡ Ok (0, 0x64010041ffff0fa0)
accepted = (change_read Newer 0x63000 true frame 16 (negsuc 0) 0 0x64010041ffff0fa0 computed.0 bytes).0

-- its number is -1
pub now_current : whole_at 0x64010041ffff0fa0 current ≡ negsuc 0
now_current = (change_raws_lem Newer 0x63000 true frame 16 (negsuc 0) 0 0x64010041ffff0fa0 computed.0 bytes current computed.1).0

-- the number's highest bit, bit 31 of the frame
pub sign_bit : bit_at after 31 ≡ 1
unfolding rows get_bits of_signed
sign_bit = change_bit Newer 0x63000 true frame 16 (negsuc 0) 0 0x64010041ffff0fa0 computed.0 bytes current computed.1 15 (omega arith)

-- bit 32 is the temperature's, and as it was
pub next_bit : bit_at after 32 ≡ bit_at frame 32
unfolding rows
next_bit = change_kept Newer 0x63000 true frame 16 (negsuc 0) 0 0x64010041ffff0fa0 computed.0 bytes current computed.1 32 (λ h. omega (arith, h.1, h.2))

-- the current's two bytes are stored as they are, and one number put over another leaves no trace of it
pub two_bytes : bytes_of false 8 (put_bits (number_of false frame) 16 16 0xffff) ≡ 0xA0 ∷ 0x0F ∷ 0xFF ∷ 0xFF ∷ 0x41 ∷ 0x00 ∷ 0x01 ∷ 0x64 ∷ []
unfolding le_bytes
two_bytes = whole_stored false frame 16 16 0xffff bytes (omega arith) refl refl (omega arith) (omega arith)

pub put_over : put_bits (put_bits 0x64010041ff830fa0 16 16 0xffff) 16 16 0xff83 ≡ put_bits 0x64010041ff830fa0 16 16 0xff83
put_over = put_put 0x64010041ff830fa0 16 16 0xffff 0xff83 (omega arith)

-- ---- a plug without a label, and a frame that is refused itself

abbrev session : List ℕ
session = 2 ∷ 1 ∷ []

abbrev plug : Row
plug = row_at 12

offence : (judge_on Newer 0x6b001 true session ≡ Ok (3, 0x0102)) × SignalAt 3 8 plug × (fits_in plug.signed plug.width (pos 5) ≡ true)
    × (takes plug.labels (bits_in plug.signed plug.width (pos 5)) ≡ false) × Gives 4 (judge_on Newer 0x6b001 true (2 ∷ []))
unfolding rows of_kind first_at covered big_of unlabelled stray_below judged_number judge_on get_bits le_number
offence = (refl, record { is_signal = inr (inl refl); start = refl }, refl, refl, (TooShort, refl, refl))

pub no_label : change_on Newer 0x6b001 true session 8 (pos 5) ≡ Err (NoLabel 8)
no_label = new_offence Newer 0x6b001 true session 8 (pos 5) (record {
  kind = 3;
  number = 0x0102;
  accepted = offence.0;
  row = plug;
  signal = offence.1;
  fits = offence.2;
  offending = offence.3;
})

pub unchanged : bytes_after session (change_on Newer 0x6b001 true session 8 (pos 5)) ≡ session
unchanged = change_refused Newer 0x6b001 true session 8 (pos 5) (NoLabel 8) no_label

pub its_own : Gives 4 (change_on Newer 0x6b001 true (2 ∷ []) 8 (pos 5))
its_own = (change_own Newer 0x6b001 true (2 ∷ []) 8 (pos 5) 4 (λ e. omega (arith, e)) (λ e. omega (arith, e)) (λ e. omega (arith, e))).1 offence.4
