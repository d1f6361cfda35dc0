-- 01, "Readings from both sides of each edge": E1* to E7*, and those of 02, Req 02, Req 04 and Req 14: one table under one statement, closed by computing.
use Rattle.std.specs.Prelude.{ℕ, ◌≡◌, refl, Bool, true, false, List, [], ◌∷◌, ℤ, pos, negsuc, Ok, Err}
use Rattle.refusals.specs.declared.Refusal.{Refusal}
use Rattle.refusals.specs.declared.Refusal.TheVariants.{UnknownIdentifier, TooShort, TooLong, NoLabel, UncoveredBit, NoRawNumber}
use Rattle.page_write.specs.Written.{Written}
use Rattle.page_table.specs.Table.{rows, of_kind, first_at, covered, identifier_of, length_of, big_of}
use Rattle.page_read.specs.Judge.{unlabelled, offender, stray_below, judged_number, judge_of}
use Rattle.page_write.specs.Raws as pages
use Rattle.page_change.specs.Change.{change_of, bytes_after}
use Rattle.signal.specs.Signal.{get_bits, put_bits}
use Rattle.payload.specs.Payload.{le_number, le_bytes, be_number, be_bytes, stored_in}
use Rattle.signal.specs.Twos.{to_signed, of_signed}
use Rattle.message_types.specs.declared.PowerModulesStatus.{PowerModulesStatus}
use Rattle.message_types.specs.declared.SystemEnable.TheVariants.{Allowed}
use Rattle.message_types.specs.declared.ChargeControl1.{ChargeControl1}
use Rattle.message_types.specs.declared.ChargeState1.{ChargeState1}
use Rattle.message_types.specs.declared.Pt1000State.{Pt1000State}
use Rattle.message_types.specs.declared.CpState.TheVariants as cp
use Rattle.message_types.specs.declared.PpState.TheVariants as pp
use Rattle.message_types.specs.declared.SequenceControl.{SequenceControl}
use Rattle.message_types.specs.declared.SeccOutputs.{SeccOutputs}
use Rattle.message_types.specs.declared.EvInformationBattery.{EvInformationBattery}
use Rattle.message_types.specs.declared.EvInformationEnergy.{EvInformationEnergy}
use Rattle.message_types.specs.declared.OcppControl.{OcppControl}
use Rattle.message_types.specs.declared.Permission.TheVariants as permission
use Rattle.message_types.specs.declared.Button.TheVariants as button
use Rattle.message_types.specs.declared.Step.TheVariants as step
use Rattle.message_types.specs.declared.Validity.TheVariants as validity
use Rattle.message_types.specs.declared.Message.{Message}
use Rattle.message_types.specs.declared.Message.TheVariants.{Status, SafetyControl, SafetyState, Probes, Sequence, Outputs, Battery, Energy, Ocpp}
use Rattle.messages.specs.Reading.{Reading}
use Rattle.messages.specs.Read.{read_of}
use Rattle.message_build.specs.Built.{message_of, built_of}
use Rattle.message_take.specs.Take.{raws_of}
use Rattle.messages.specs.Write.{write_of, buffer_after}

-- the form of an identifier
abbrev standard : Bool
standard = false

abbrev extended : Bool
extended = true

-- a frame and its reading; a message, a lent buffer, the answer and the buffer afterwards; a frame, a start bit, a raw number and the bytes afterwards, or the
-- refusal
pub data Case : Type 0 where
  reads : Bool → ℕ → List ℕ → Reading → Case
  writes : Message → List ℕ → Written → List ℕ → Case
  changes : Bool → ℕ → List ℕ → ℕ → ℤ → List ℕ → Case
  keeps : Bool → ℕ → List ℕ → ℕ → ℤ → Refusal → Case

abbrev pub Holds : Case → Type 0
Holds (reads x m bs answer) = read_of m x bs ≡ answer
Holds (writes x buf answer after) = (write_of x buf ≡ answer) × (buffer_after x buf ≡ after)
Holds (changes x m bs s z after) = bytes_after bs (change_of m x bs s z) ≡ after
Holds (keeps x m bs s z w) = change_of m x bs s z ≡ Err w

abbrev pub All : List Case → Type 0
All [] = Unit {0}
All (c ∷ cs) = Holds c × All cs

-- 400.0 V, -12.5 A, 25 °C, -40 °C, Allowed, 200 kOhm, with another temperature of the modules or another insulation
abbrev pub e1 : ℤ → ℕ → PowerModulesStatus
e1 modules insulation =
    record { voltage = 4000; current = negsuc 124; modules = modules; enclosure = negsuc 39; enable = Allowed; insulation = insulation }

-- a duty with PWM active, and both contactors open
abbrev active : ℕ → ChargeControl1
active duty = record { duty = duty; pwm = true; contactor1 = false; contactor2 = false }

-- that duty told back in state C with a cable for 32 A, the first contactor closed and nothing wrong
abbrev charging : ℕ → ChargeState1
charging duty =
    record {
      duty = duty;
      pwm = true;
      cp = cp.C;
      short = false;
      diode = false;
      pp = pp.Amps32;
      contactor1 = true;
      contactor2 = false;
      error1 = false;
      error2 = false;
      estop1 = false;
      estop2 = false;
      estop3 = false;
      imdabort = false;
      imdfailure = false;
    }

-- a temperature of the first probe, and the others at 0.0 °C
abbrev first : ℤ → Pt1000State
first t =
    record {
      temperature1 = t;
      stopped1 = false;
      failed1 = false;
      temperature2 = pos 0;
      stopped2 = false;
      failed2 = false;
      temperature3 = pos 0;
      stopped3 = false;
      failed3 = false;
      temperature4 = pos 0;
      stopped4 = false;
      failed4 = false;
    }

-- allowed to charge, authorisation done and valid, parameters done, and no button pressed
abbrev sequence : SequenceControl
sequence =
    record {
      authorisation = permission.Allowed;
      chademo = button.NotPressed;
      done = step.Done;
      valid = validity.Valid;
      parameters = step.Done;
      stop = button.NotPressed;
    }

abbrev pub outputs : ℕ → SeccOutputs
outputs reserved = record { output1 = true; output2 = false; output3 = false; output4 = true; reserved = reserved }

-- at 37 %, to 80 %, within 10 and 95 %
abbrev battery : ℕ → EvInformationBattery
battery capacity = record { capacity = capacity; present = 37; minimum = 10; target = 80; maximum = 95 }

-- a vehicle that gives energy back, and takes 5 kWh at most
abbrev energy : EvInformationEnergy
energy = record { minimum = negsuc 9; target = negsuc 1; maximum = pos 5 }

abbrev ocpp : ℤ → OcppControl
ocpp target = record { target = target }

abbrev zeros : List ℕ
zeros = 0 ∷ 0 ∷ 0 ∷ 0 ∷ 0 ∷ 0 ∷ 0 ∷ 0 ∷ []

abbrev pub table : List Case
table =
    -- E1: A0 0F 83 FF 41 00 01 64 as 0x63000
    reads extended 0x63000 (0xA0 ∷ 0x0F ∷ 0x83 ∷ 0xFF ∷ 0x41 ∷ 0x00 ∷ 0x01 ∷ 0x64 ∷ []) (Ok (Status (e1 (pos 25) 200)))
    -- E2: its first 7 bytes: 4
    ∷ reads extended 0x63000 (0xA0 ∷ 0x0F ∷ 0x83 ∷ 0xFF ∷ 0x41 ∷ 0x00 ∷ 0x01 ∷ []) (Err TooShort)
    -- E1 with one byte more, also where a label is missing: "15 when too long", before 5
    ∷ reads extended 0x63000 (0xA0 ∷ 0x0F ∷ 0x83 ∷ 0xFF ∷ 0x41 ∷ 0x00 ∷ 0x01 ∷ 0x64 ∷ 0x00 ∷ []) (Err TooLong)
    ∷ reads extended 0x63000 (0xA0 ∷ 0x0F ∷ 0x83 ∷ 0xFF ∷ 0x41 ∷ 0x00 ∷ 0x02 ∷ 0x64 ∷ 0x00 ∷ []) (Err TooLong)
    -- E3: byte 6 as 02: 5, with the start of System_Enable
    ∷ reads extended 0x63000 (0xA0 ∷ 0x0F ∷ 0x83 ∷ 0xFF ∷ 0x41 ∷ 0x00 ∷ 0x02 ∷ 0x64 ∷ []) (Err (NoLabel 48))
    -- protocol 8 and plug 5 have no label: "lowest start first"; plug 5 alone
    ∷ reads extended 0x6b001 (0x08 ∷ 0x05 ∷ []) (Err (NoLabel 0))
    ∷ reads extended 0x6b001 (0x07 ∷ 0x05 ∷ []) (Err (NoLabel 8))
    -- E4: identifier 0x63003: 3
    ∷ reads extended 0x63003 (0xA0 ∷ 0x0F ∷ 0x83 ∷ 0xFF ∷ 0x41 ∷ 0x00 ∷ 0x01 ∷ 0x64 ∷ []) (Err UnknownIdentifier)
    -- E5: writing 215 °C gives FF; 216: 7
    ∷ writes (Status (e1 (pos 215) 200)) zeros (Ok (0x63000, 8)) (0xA0 ∷ 0x0F ∷ 0x83 ∷ 0xFF ∷ 0xFF ∷ 0x00 ∷ 0x01 ∷ 0x64 ∷ [])
    ∷ writes (Status (e1 (pos 216) 200)) zeros (Err NoRawNumber) zeros
    -- E6: insulation 510 gives FF; 201: 7
    ∷ writes (Status (e1 (pos 25) 510)) zeros (Ok (0x63000, 8)) (0xA0 ∷ 0x0F ∷ 0x83 ∷ 0xFF ∷ 0x41 ∷ 0x00 ∷ 0x01 ∷ 0xFF ∷ [])
    ∷ writes (Status (e1 (pos 25) 201)) zeros (Err NoRawNumber) zeros
    -- E7: changing E1's current to -1
    ∷ changes extended 0x63000 (0xA0 ∷ 0x0F ∷ 0x83 ∷ 0xFF ∷ 0x41 ∷ 0x00 ∷ 0x01 ∷ 0x64 ∷ []) 16 (negsuc 0) (0xA0 ∷ 0x0F ∷ 0xFF ∷ 0xFF ∷ 0x41 ∷ 0x00 ∷ 0x01 ∷ 0x64 ∷ [])
    -- changing the plug to 5: the start of the changed signal; to 4
    ∷ keeps extended 0x6b001 (0x02 ∷ 0x01 ∷ []) 8 (pos 5) (NoLabel 8)
    ∷ changes extended 0x6b001 (0x02 ∷ 0x01 ∷ []) 8 (pos 4) (0x02 ∷ 0x04 ∷ [])
    -- "Duty 53.3 % with PWM active begins 82 15"
    ∷ writes (SafetyControl (active 533)) zeros (Ok (6, 8)) (0x82 ∷ 0x15 ∷ 0 ∷ 0 ∷ 0 ∷ 0 ∷ 0 ∷ 0 ∷ [])
    ∷ reads standard 6 (0x82 ∷ 0x15 ∷ 0 ∷ 0 ∷ 0 ∷ 0 ∷ 0 ∷ 0 ∷ []) (Ok (SafetyControl (active 533)))
    ∷ reads standard 7 (0x82 ∷ 0x15 ∷ 0x03 ∷ 0x03 ∷ 0x01 ∷ 0 ∷ 0 ∷ 0 ∷ []) (Ok (SafetyState (charging 533)))
    -- "A duty above 100.0 % keeps its raw number, so that writing returns the bytes"; 1,024 has more than 10 bits: 7
    ∷ reads standard 6 (0x83 ∷ 0xFF ∷ 0 ∷ 0 ∷ 0 ∷ 0 ∷ 0 ∷ 0 ∷ []) (Ok (SafetyControl (active 1023)))
    ∷ writes (SafetyControl (active 1023)) zeros (Ok (6, 8)) (0x83 ∷ 0xFF ∷ 0 ∷ 0 ∷ 0 ∷ 0 ∷ 0 ∷ 0 ∷ [])
    ∷ writes (SafetyControl (active 1024)) zeros (Err NoRawNumber) zeros
    -- "-10.0 °C in the first probe is FE 70"; the least and the largest raw number, and one more: 7
    ∷ writes (Probes (first (negsuc 99))) zeros (Ok (8, 8)) (0xFE ∷ 0x70 ∷ 0 ∷ 0 ∷ 0 ∷ 0 ∷ 0 ∷ 0 ∷ [])
    ∷ reads standard 8 (0xFE ∷ 0x70 ∷ 0 ∷ 0 ∷ 0 ∷ 0 ∷ 0 ∷ 0 ∷ []) (Ok (Probes (first (negsuc 99))))
    ∷ reads standard 8 (0x80 ∷ 0x00 ∷ 0 ∷ 0 ∷ 0 ∷ 0 ∷ 0 ∷ 0 ∷ []) (Ok (Probes (first (negsuc 8191))))
    ∷ reads standard 8 (0x7F ∷ 0xFC ∷ 0 ∷ 0 ∷ 0 ∷ 0 ∷ 0 ∷ 0 ∷ []) (Ok (Probes (first (pos 8191))))
    ∷ writes (Probes (first (pos 8192))) zeros (Err NoRawNumber) zeros
    -- changing the first probe's temperature, by the start that the page names, to -0.1 °C
    ∷ changes standard 8 (0xFE ∷ 0x70 ∷ 0 ∷ 0 ∷ 0 ∷ 0 ∷ 0 ∷ 0 ∷ []) 7 (negsuc 0) (0xFF ∷ 0xFC ∷ 0 ∷ 0 ∷ 0 ∷ 0 ∷ 0 ∷ 0 ∷ [])
    -- bit 2, between the duty and PWM, is no signal's: 6
    ∷ reads standard 6 (0x86 ∷ 0x15 ∷ 0 ∷ 0 ∷ 0 ∷ 0 ∷ 0 ∷ 0 ∷ []) (Err UncoveredBit)
    -- "Refusal 3 and E4 now read over the wider table": 6, 7 and 8 are standard alone, 9 is none, and 0x63000 is extended alone
    ∷ reads extended 6 (0x82 ∷ 0x15 ∷ 0 ∷ 0 ∷ 0 ∷ 0 ∷ 0 ∷ 0 ∷ []) (Err UnknownIdentifier)
    ∷ reads extended 7 (0x82 ∷ 0x15 ∷ 0x03 ∷ 0x03 ∷ 0x01 ∷ 0 ∷ 0 ∷ 0 ∷ []) (Err UnknownIdentifier)
    ∷ reads extended 8 (0xFE ∷ 0x70 ∷ 0 ∷ 0 ∷ 0 ∷ 0 ∷ 0 ∷ 0 ∷ []) (Err UnknownIdentifier)
    ∷ reads standard 9 (0x82 ∷ 0x15 ∷ 0 ∷ 0 ∷ 0 ∷ 0 ∷ 0 ∷ 0 ∷ []) (Err UnknownIdentifier)
    ∷ reads standard 0x63000 (0xA0 ∷ 0x0F ∷ 0x83 ∷ 0xFF ∷ 0x41 ∷ 0x00 ∷ 0x01 ∷ 0x64 ∷ []) (Err UnknownIdentifier)
    -- Sequence_Control of 000, and with a bit that no signal covers: 6; 001's identifier of it: 3
    ∷ reads extended 0x63002 (0x01 ∷ 0x07 ∷ 0x00 ∷ []) (Ok (Sequence sequence))
    ∷ reads extended 0x63002 (0x05 ∷ 0x07 ∷ 0x00 ∷ []) (Err UncoveredBit)
    ∷ reads extended 0x63002 (0x01 ∷ 0x0F ∷ 0x00 ∷ []) (Err UncoveredBit)
    ∷ reads extended 0x63002 (0x01 ∷ 0x07 ∷ 0x80 ∷ []) (Err UncoveredBit)
    ∷ reads extended 0x60012 (0x01 ∷ 0x07 ∷ 0x00 ∷ []) (Err UnknownIdentifier)
    -- bit 40 of ADM_CS_SPCC_Inputs: 6; CP_State 1, between E or F and D: 5
    ∷ reads extended 0x6b202 (0 ∷ 0 ∷ 0 ∷ 0 ∷ 0 ∷ 0x01 ∷ 0 ∷ 0 ∷ []) (Err UncoveredBit)
    ∷ reads extended 0x6b203 (0x01 ∷ 0 ∷ 0 ∷ 0 ∷ 0 ∷ 0 ∷ 0 ∷ 0 ∷ []) (Err (NoLabel 0))
    -- "Reserved signals are carried, not dropped": 60 bits of ADM_CS_SECC_Outputs; one bit more: 7
    ∷ reads extended 0x63201 (0x19 ∷ 0x32 ∷ 0x54 ∷ 0x76 ∷ 0x98 ∷ 0xBA ∷ 0xDC ∷ 0xFE ∷ []) (Ok (Outputs (outputs 0xFEDCBA987654321)))
    ∷ writes (Outputs (outputs 0xFFFFFFFFFFFFFFF)) zeros (Ok (0x63201, 8)) (0xF9 ∷ 0xFF ∷ 0xFF ∷ 0xFF ∷ 0xFF ∷ 0xFF ∷ 0xFF ∷ 0xFF ∷ [])
    ∷ writes (Outputs (outputs 0x1000000000000000)) zeros (Err NoRawNumber) zeros
    -- a battery of 101 kWh: its capacity is not doubled as in 001
    ∷ reads extended 0x6b100 (0x65 ∷ 0x00 ∷ 0x25 ∷ 0x0A ∷ 0x50 ∷ 0x5F ∷ []) (Ok (Battery (battery 101)))
    ∷ writes (Battery (battery 0xFFFF)) zeros (Ok (0x6b100, 6)) (0xFF ∷ 0xFF ∷ 0x25 ∷ 0x0A ∷ 0x50 ∷ 0x5F ∷ 0 ∷ 0 ∷ [])
    -- -10, -2 and 5 kWh; one byte less: 4
    ∷ reads extended 0x6b104 (0xF6 ∷ 0xFF ∷ 0xFE ∷ 0xFF ∷ 0x05 ∷ 0x00 ∷ []) (Ok (Energy energy))
    ∷ reads extended 0x6b104 (0xF6 ∷ 0xFF ∷ 0xFE ∷ 0xFF ∷ 0x05 ∷ []) (Err TooShort)
    -- -12.5 A as the target; the least, and one less: 7
    ∷ reads extended 0x6b300 (0x83 ∷ 0xFF ∷ []) (Ok (Ocpp (ocpp (negsuc 124))))
    ∷ writes (Ocpp (ocpp (negsuc 124))) zeros (Ok (0x6b300, 2)) (0x83 ∷ 0xFF ∷ 0 ∷ 0 ∷ 0 ∷ 0 ∷ 0 ∷ 0 ∷ [])
    ∷ changes extended 0x6b300 (0x83 ∷ 0xFF ∷ []) 0 (negsuc 32767) (0x00 ∷ 0x80 ∷ [])
    ∷ keeps extended 0x6b300 (0x83 ∷ 0xFF ∷ []) 0 (negsuc 32768) NoRawNumber
    ∷ []

pub readings : All table
unfolding read_of message_of built_of raws_of write_of buffer_after rows of_kind first_at covered identifier_of length_of big_of unlabelled offender stray_below judged_number judge_of change_of get_bits put_bits le_number le_bytes be_number be_bytes stored_in to_signed of_signed pages.raws_of pages.wholes_of pages.pad pages.all_take pages.packed_on pages.write_raws_of pages.buffer_after
readings = (refl, (refl, (refl, (refl, (refl, (refl, (refl, (refl, ((refl, refl), ((refl, refl), ((refl, refl), ((refl, refl), (refl, (refl, (refl, ((refl, refl), (refl, (refl, (refl, ((refl, refl), ((refl, refl), ((refl, refl), (refl, (refl, (refl, ((refl, refl), (refl, (refl, (refl, (refl, (refl, (refl, (refl, (refl, (refl, (refl, (refl, (refl, (refl, (refl, (refl, ((refl, refl), ((refl, refl), (refl, ((refl, refl), (refl, (refl, (refl, ((refl, refl), (refl, (refl, tt)))))))))))))))))))))))))))))))))))))))))))))))))))
