-- Readings of the pages of 001 from both sides of each edge, in 01's manner: one table under one statement, closed by computing.
use Rattle.std.specs.Prelude.{ℕ, ◌≡◌, refl, Bool, true, false, List, [], ◌∷◌, ℤ, pos, negsuc, Ok, Err}
use Rattle.refusals.specs.declared.Refusal.{Refusal}
use Rattle.refusals.specs.declared.Refusal.TheVariants.{UnknownIdentifier, TooShort, TooLong, NoLabel, UncoveredBit, NoRawNumber}
use Rattle.page_table.specs.declared.Interface.TheVariants.{Older}
use Rattle.page_write.specs.Written.{Written}
use Rattle.page_table.specs.Table.{rows, of_kind, first_at, covered, identifier_of, length_of, big_of}
use Rattle.page_read.specs.Judge.{unlabelled, offender, stray_below, judged_number, judge_on, judge_of}
use Rattle.page_write.specs.Raws as pages
use Rattle.page_change.specs.Change.{change_on, bytes_after}
use Rattle.signal.specs.Signal.{get_bits, put_bits}
use Rattle.payload.specs.Payload.{le_number, le_bytes, be_number, be_bytes, stored_in}
use Rattle.signal.specs.Twos.{to_signed, of_signed}
use Rattle.message_types.specs.declared.SystemEnable.TheVariants.{Allowed}
use Rattle.message_types.specs.declared.Protocol.TheVariants as protocol
use Rattle.message_types.specs.declared.Plug.TheVariants as plug
use Rattle.message_types.specs.declared.PowerModulesStatus.{PowerModulesStatus}
use Rattle.older_types.specs.declared.PowerModulesLimits.{PowerModulesLimits}
use Rattle.message_types.specs.declared.SequenceControl.{SequenceControl}
use Rattle.message_types.specs.declared.SeccOutputs.{SeccOutputs}
use Rattle.older_types.specs.declared.NewChargeSession.{NewChargeSession}
use Rattle.older_types.specs.declared.ChargingLoop.{ChargingLoop}
use Rattle.message_types.specs.declared.Permission.TheVariants as permission
use Rattle.message_types.specs.declared.Button.TheVariants as button
use Rattle.message_types.specs.declared.Step.TheVariants as step
use Rattle.message_types.specs.declared.Validity.TheVariants as validity
use Rattle.older_types.specs.declared.Message.{Message}
use Rattle.older_types.specs.declared.Message.TheVariants.{Status, Limits, Sequence, Outputs, Session, Charging, SafetyControl}
use Rattle.older.specs.Reading.{Reading}
use Rattle.older.specs.Read.{read_of}
use Rattle.older_build.specs.Built.{message_of, built_of}
use Rattle.older_take.specs.Take.{raws_of}
use Rattle.older.specs.Write.{write_of, buffer_after}

-- the form of an identifier
abbrev standard : Bool
standard = false

abbrev extended : Bool
extended = true

-- a frame and its reading; a frame that the pages of 000 and 004 read as nothing; a message, a lent buffer, the answer and the buffer afterwards; a frame, a
-- start bit, a raw number and the bytes afterwards, or the refusal
pub data Case : Type 0 where
  reads : Bool → ℕ → List ℕ → Reading → Case
  unknown : Bool → ℕ → List ℕ → Case
  writes : Message → List ℕ → Written → List ℕ → Case
  changes : Bool → ℕ → List ℕ → ℕ → ℤ → List ℕ → Case
  keeps : Bool → ℕ → List ℕ → ℕ → ℤ → Refusal → Case

abbrev pub Holds : Case → Type 0
Holds (reads x m bs answer) = read_of m x bs ≡ answer
Holds (unknown x m bs) = judge_of m x bs ≡ Err UnknownIdentifier
Holds (writes x buf answer after) = (write_of x buf ≡ answer) × (buffer_after x buf ≡ after)
Holds (changes x m bs s z after) = bytes_after bs (change_on Older m x bs s z) ≡ after
Holds (keeps x m bs s z w) = change_on Older m x bs s z ≡ Err w

abbrev pub All : List Case → Type 0
All [] = Unit {0}
All (c ∷ cs) = Holds c × All cs

-- 400.0 V, -12.5 A, 25 °C, -40 °C, Allowed, 200 kOhm
abbrev pub status : PowerModulesStatus
status = record { voltage = 4000; current = negsuc 124; modules = pos 25; enclosure = negsuc 39; enable = Allowed; insulation = 200 }

-- 500.0 V, 100.0 A, and what the page reserves
abbrev limits : ℕ → PowerModulesLimits
limits reserved = record { voltage = 5000; current = pos 1000; reserved = reserved }

-- allowed to charge, authorisation done and valid, parameters done, and no button pressed
abbrev pub sequence : SequenceControl
sequence =
    record {
      authorisation = permission.Allowed;
      chademo = button.NotPressed;
      done = step.Done;
      valid = validity.Valid;
      parameters = step.Done;
      stop = button.NotPressed;
    }

abbrev outputs : ℕ → SeccOutputs
outputs reserved = record { output1 = true; output2 = false; output3 = false; output4 = true; reserved = reserved }

-- 450.0 V and 125.0 A at most, a battery of that capacity at 37 %
abbrev session : ℕ → NewChargeSession
session capacity = record { protocol = protocol.CcsIso15118v2013; plug = plug.CcsDcExtended; voltage = 4500; current = 1250; capacity = capacity; charge = 37 }

-- 380.0 V at a current, 80 %
abbrev loop : ℤ → ChargingLoop
loop current = record { voltage = 3800; current = current; charge = 80 }

abbrev zeros : List ℕ
zeros = 0 ∷ 0 ∷ 0 ∷ 0 ∷ 0 ∷ 0 ∷ 0 ∷ 0 ∷ []

abbrev pub e1 : List ℕ
e1 = 0xA0 ∷ 0x0F ∷ 0x83 ∷ 0xFF ∷ 0x41 ∷ 0x00 ∷ 0x01 ∷ 0x64 ∷ []

abbrev pub allowed : List ℕ
allowed = 0x01 ∷ 0x07 ∷ 0x00 ∷ []

abbrev pub table : List Case
table =
    -- E1's bytes as 0x60010; 000's identifier on this interface, and 001's on the other: 3; and its standard form: 3 on both
    reads extended 0x60010 e1 (Ok (Status status))
    ∷ reads extended 0x63000 e1 (Err UnknownIdentifier)
    ∷ unknown extended 0x60010 e1
    ∷ reads standard 0x60010 e1 (Err UnknownIdentifier)
    ∷ unknown standard 0x60010 e1
    -- 3 goes first: of a wrong length, or with a number without a label, too
    ∷ unknown extended 0x60010 (0xA0 ∷ [])
    ∷ unknown extended 0x68006 (0x02 ∷ [])
    -- one byte less: 4; one more: 15
    ∷ reads extended 0x60012 (0x01 ∷ 0x07 ∷ []) (Err TooShort)
    ∷ reads extended 0x60012 (0x01 ∷ 0x07 ∷ 0x00 ∷ 0x00 ∷ []) (Err TooLong)
    -- Sequence_Control, and with a bit that no signal covers, the first and the last of each of its three bytes: 6
    ∷ reads extended 0x60012 allowed (Ok (Sequence sequence))
    ∷ reads extended 0x60012 (0x05 ∷ 0x07 ∷ 0x00 ∷ []) (Err UncoveredBit)
    ∷ reads extended 0x60012 (0x81 ∷ 0x07 ∷ 0x00 ∷ []) (Err UncoveredBit)
    ∷ reads extended 0x60012 (0x01 ∷ 0x0F ∷ 0x00 ∷ []) (Err UncoveredBit)
    ∷ reads extended 0x60012 (0x01 ∷ 0x87 ∷ 0x00 ∷ []) (Err UncoveredBit)
    ∷ reads extended 0x60012 (0x01 ∷ 0x07 ∷ 0x02 ∷ []) (Err UncoveredBit)
    ∷ reads extended 0x60012 (0x01 ∷ 0x07 ∷ 0x80 ∷ []) (Err UncoveredBit)
    -- bits 40 and 47 of ADM_CS_SPCC_Inputs: 6
    ∷ reads extended 0x6800d (0 ∷ 0 ∷ 0 ∷ 0 ∷ 0 ∷ 0x01 ∷ 0 ∷ 0 ∷ []) (Err UncoveredBit)
    ∷ reads extended 0x6800d (0 ∷ 0 ∷ 0 ∷ 0 ∷ 0 ∷ 0x80 ∷ 0 ∷ 0 ∷ []) (Err UncoveredBit)
    -- CP_State 1, between E or F and D, and an Emergency_Stop from 2: 5
    ∷ reads extended 0x6800e (0x01 ∷ 0 ∷ 0 ∷ 0 ∷ 0 ∷ 0 ∷ 0 ∷ 0 ∷ []) (Err (NoLabel 0))
    ∷ reads extended 0x68006 (0x02 ∷ []) (Err (NoLabel 0))
    -- "Reserved signals are carried, not dropped": 32 bits of Power_Modules_Limits and 60 of ADM_CS_SECC_Outputs; one bit more: 7
    ∷ reads extended 0x60011 (0x88 ∷ 0x13 ∷ 0xE8 ∷ 0x03 ∷ 0x78 ∷ 0x56 ∷ 0x34 ∷ 0x12 ∷ []) (Ok (Limits (limits 0x12345678)))
    ∷ writes (Limits (limits 0xFFFFFFFF)) zeros (Ok (0x60011, 8)) (0x88 ∷ 0x13 ∷ 0xE8 ∷ 0x03 ∷ 0xFF ∷ 0xFF ∷ 0xFF ∷ 0xFF ∷ [])
    ∷ writes (Limits (limits 0x100000000)) zeros (Err NoRawNumber) zeros
    ∷ writes (Outputs (outputs 0xFFFFFFFFFFFFFFF)) zeros (Ok (0x60013, 8)) (0xF9 ∷ 0xFF ∷ 0xFF ∷ 0xFF ∷ 0xFF ∷ 0xFF ∷ 0xFF ∷ 0xFF ∷ [])
    ∷ writes (Outputs (outputs 0x1000000000000000)) zeros (Err NoRawNumber) zeros
    ∷ writes (Outputs (outputs 0xFFFFFFFFFFFFFFFF)) zeros (Err NoRawNumber) zeros
    -- a New_Charge_Session has 8 bytes; its battery's capacity is even
    ∷ reads extended 0x68001 (0x02 ∷ 0x01 ∷ 0x94 ∷ 0x11 ∷ 0xE2 ∷ 0x04 ∷ 0x32 ∷ 0x25 ∷ []) (Ok (Session (session 100)))
    ∷ reads extended 0x68001 (0x02 ∷ 0x01 ∷ []) (Err TooShort)
    ∷ writes (Session (session 510)) zeros (Ok (0x68001, 8)) (0x02 ∷ 0x01 ∷ 0x94 ∷ 0x11 ∷ 0xE2 ∷ 0x04 ∷ 0xFF ∷ 0x25 ∷ [])
    ∷ writes (Session (session 101)) zeros (Err NoRawNumber) zeros
    -- changing a Charging_Loop's current to -1; a number that does not fit or has no label, and another interface's frame, are kept
    ∷ writes (Charging (loop (pos 1000))) zeros (Ok (0x68005, 5)) (0xD8 ∷ 0x0E ∷ 0xE8 ∷ 0x03 ∷ 0x50 ∷ 0 ∷ 0 ∷ 0 ∷ [])
    ∷ changes extended 0x68005 (0xD8 ∷ 0x0E ∷ 0xE8 ∷ 0x03 ∷ 0x50 ∷ []) 16 (negsuc 0) (0xD8 ∷ 0x0E ∷ 0xFF ∷ 0xFF ∷ 0x50 ∷ [])
    ∷ keeps extended 0x60012 allowed 8 (pos 2) NoRawNumber
    ∷ keeps extended 0x6800e zeros 0 (pos 1) (NoLabel 0)
    ∷ keeps extended 0x63000 e1 16 (negsuc 0) UnknownIdentifier
    -- 004's frames belong to either interface
    ∷ reads standard 6 (0x82 ∷ 0x15 ∷ 0 ∷ 0 ∷ 0 ∷ 0 ∷ 0 ∷ 0 ∷ []) (Ok (SafetyControl (record { duty = 533; pwm = true; contactor1 = false; contactor2 = false })))
    ∷ []

pub readings : All table
unfolding read_of message_of built_of raws_of write_of buffer_after rows of_kind first_at covered identifier_of length_of big_of unlabelled offender stray_below judged_number judge_on judge_of change_on get_bits put_bits le_number le_bytes be_number be_bytes stored_in to_signed of_signed pages.raws_of pages.wholes_of pages.pad pages.all_take pages.packed_on pages.write_raws_of pages.buffer_after
readings = (refl, (refl, (refl, (refl, (refl, (refl, (refl, (refl, (refl, (refl, (refl, (refl, (refl, (refl, (refl, (refl, (refl, (refl, (refl, (refl, (refl, ((refl, refl), ((refl, refl), ((refl, refl), ((refl, refl), ((refl, refl), (refl, (refl, ((refl, refl), ((refl, refl), ((refl, refl), (refl, (refl, (refl, (refl, (refl, tt))))))))))))))))))))))))))))))))))))
