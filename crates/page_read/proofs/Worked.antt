-- The laws of bits and of reading on frames: ChargeControl1 with 53.3 % and PWM active, 82 15, as it is and with a bit that no signal has, and
-- New_Charge_Session with protocol 8 and plug 5, which both have no label.
use Rattle.std.specs.Prelude.{Ok, Err}
use mathlib.Core.Path.{◌≡◌, refl}
use mathlib.Core.Bool.{true, false}
use mathlib.Core.Logic.{◌⊎◌, inl}
use mathlib.Core.List.{List, [], ◌∷◌}
use Prim.Native.Nat.{ℕ, ◌≤◌}
use native.Mathlib.Omega.{arith}
use lib.ListN.{length}
use Rattle.refusals.specs.declared.Refusal.TheVariants.{NoLabel, UncoveredBit}
use Rattle.signal.specs.Signal.{get_bits}
use Rattle.payload.specs.Payload.{le_number, be_number, le_bytes, number_of, bit_at, Bytes}
use Rattle.payload.specs.Order.{walk, place}
use Rattle.payload.proofs.Orders.{are_of}
use Rattle.page_search.specs.page_table.specs.declared.Interface.TheVariants.{Newer}
use Rattle.page_search.specs.page_table.specs.Table.{rows, of_kind, first_at, row_at, rows_of, length_of, big_of, bits_at, covered}
use Rattle.page_search.specs.page_table.specs.Listed.{Among}
use Rattle.page_search.specs.page_table.proofs.PageBits.{page_bit, no_signal_lem}
use Rattle.page_read.specs.Judge.{unlabelled, offender, stray_below, judged_number, judge_on}
use Rattle.page_read.specs.Refusing.{FirstOffence, Uncovered}
use Rattle.page_read.proofs.Strays.{covered_all}
use Rattle.page_read.proofs.Offenders.{first_offence, offence_given}
use Rattle.page_read.proofs.Refusing.{reading_gives, gives_6}

abbrev duty : List ℕ
duty = 0x82 ∷ 0x15 ∷ 0 ∷ 0 ∷ 0 ∷ 0 ∷ 0 ∷ 0 ∷ []

-- bit 63 set
abbrev stray : List ℕ
stray = 0x82 ∷ 0x15 ∷ 0 ∷ 0 ∷ 0 ∷ 0 ∷ 0 ∷ 0x80 ∷ []

abbrev session : List ℕ
session = 8 ∷ 5 ∷ []

bytes : Bytes duty × Bytes stray
unfolding le_bytes
bytes = (are_of false 8 0x1582, are_of false 8 0x8000000000001582)

computed : (judge_on Newer 6 false duty ≡ Ok (9, 0x8215000000000000)) × (judge_on Newer 6 false stray ≡ Err UncoveredBit) × (judge_on Newer 0x6b001 true session ≡ Err (NoLabel 0))
    × (covered (rows_of 9) (place (big_of 9) (length_of 9) 63) ≡ false)
unfolding rows of_kind first_at length_of big_of covered unlabelled offender stray_below judged_number judge_on get_bits le_number be_number
computed = (refl, refl, refl, refl)

-- the duty's lowest bit is bit 0 of byte 1
first_row : Among (row_at 30) (rows_of 9) × (length duty ≡ length_of 9)
unfolding rows of_kind length_of
first_row = (inl refl, refl)

pub duty_bit : get_bits (bits_at (number_of (big_of 9) duty) (row_at 30)) 0 1 ≡ bit_at duty 8
unfolding rows walk
duty_bit = page_bit 9 duty (row_at 30) 0 first_row.0 bytes.0 first_row.1 (omega arith)

-- the accepted frame has 0 there
pub bit_63 : bit_at duty 63 ≡ 0
bit_63 = covered_all Newer 6 false duty 9 0x8215000000000000 computed.0 bytes.0 63 (no_signal_lem 9 63 computed.3)

-- the other has 1 at a bit that no signal has
pub strays : Uncovered Newer 6 false stray
strays = (gives_6 Newer 6 false stray bytes.1).0 (UncoveredBit, computed.1, refl)

-- the protocol is the first that offends
pub protocol : FirstOffence Newer 0x6b001 true session 0
protocol = first_offence Newer 0x6b001 true session 0 computed.2

pub protocol_given : judge_on Newer 0x6b001 true session ≡ Err (NoLabel 0)
protocol_given = offence_given Newer 0x6b001 true session 0 protocol

pub five : ((3 ≤ 5) × (5 ≤ 6)) ⊎ (◌≡◌ {A = ℕ} 5 15)
five = reading_gives Newer 0x6b001 true session 5 (NoLabel 0, computed.2, refl)
