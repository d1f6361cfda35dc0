-- The messages, by their kinds: 0 is the first. Identifier, its form (extended or not), bytes, byte order (byte 0 is highest or not), and the place of the
-- message's first row in the table.
use Rattle.std.specs.Prelude.{ℕ, ◌+◌, ◌*◌, Bool, true, false, cond, not, List, [], ◌∷◌, ◌++◌, get_or}
use Rattle.page_table.specs.declared.Message.{Message}

-- the kinds of document 000's base messages and of 004; those of document 001 stand behind them, and behind these the rest of 000's
abbrev pub kind_count : ℕ
kind_count = 12

abbrev pub message_count : ℕ
message_count = 43

-- the first kind of the rest of 000's
abbrev pub rest_kind : ℕ
rest_kind = 30

-- document 000, the base messages; 01: "All base messages use extended identifiers"
abbrev pub charger_messages : List Message
charger_messages =
    (0x63000, true, 8, false, 0)  -- Power_Modules_Status
    ∷ (0x63001, true, 8, false, 6)  -- DC_Power_Parameters
    ∷ (0x6b000, true, 1, false, 10)  -- Advantics_Controller_Status
    ∷ (0x6b001, true, 2, false, 11)  -- New_Charge_Session
    ∷ (0x6b002, true, 1, false, 13)  -- Charge_Status_Change
    ∷ (0x6b003, true, 7, false, 14)  -- DC_Power_Control
    ∷ (0x6b004, true, 1, false, 22)  -- Charge_Session_Finished
    ∷ (0x6b005, true, 1, false, 23)  -- Emergency_Stop
    ∷ (0x6b105, true, 6, false, 24)  -- EV_ID_CCS_Part2_DIN
    ∷ []

-- document 004; 02, Req 04: "standard frames is our choice"
abbrev pub safety_messages : List Message
safety_messages =
    (6, false, 8, true, 30)  -- ChargeControl1
    ∷ (7, false, 8, true, 34)  -- ChargeState1
    ∷ (8, false, 8, true, 49)  -- PT1000State
    ∷ []

-- document 001; 02, Req 11: "The older controllers"
abbrev pub older_messages : List Message
older_messages =
    (0x60010, true, 8, false, 61)  -- Power_Modules_Status
    ∷ (0x60011, true, 8, false, 67)  -- Power_Modules_Limits
    ∷ (0x60012, true, 3, false, 70)  -- Sequence_Control
    ∷ (0x60013, true, 8, false, 76)  -- ADM_CS_SECC_Outputs
    ∷ (0x68001, true, 8, false, 81)  -- New_Charge_Session
    ∷ (0x68002, true, 2, false, 87)  -- Insulation_Test
    ∷ (0x68003, true, 4, false, 88)  -- Precharge
    ∷ (0x68004, true, 1, false, 90)  -- Charge_Status_Change
    ∷ (0x68005, true, 5, false, 91)  -- Charging_Loop
    ∷ (0x68006, true, 1, false, 94)  -- Emergency_Stop
    ∷ (0x68007, true, 1, false, 95)  -- Charge_Session_Finished
    ∷ (0x68009, true, 1, false, 96)  -- Advantics_Controller_Status
    ∷ (0x6800a, true, 8, false, 97)  -- ADM_CO_CUI1_Inputs
    ∷ (0x6800b, true, 8, false, 108)  -- ADM_CS_SECC_Inputs
    ∷ (0x6800c, true, 6, false, 116)  -- EV_ID_CCS_Part2_DIN
    ∷ (0x6800d, true, 8, false, 122)  -- ADM_CS_SPCC_Inputs
    ∷ (0x6800e, true, 8, false, 133)  -- CCS_Extra_Information
    ∷ (0x6800f, true, 8, false, 136)  -- MCS_Extra_Information
    ∷ []

-- document 000; 02, Req 14: "The rest of the charger pages"
abbrev pub rest_messages : List Message
rest_messages =
    (0x63002, true, 3, false, 139)  -- Sequence_Control
    ∷ (0x63201, true, 8, false, 145)  -- ADM_CS_SECC_Outputs
    ∷ (0x6b100, true, 6, false, 150)  -- EV_Information_Battery
    ∷ (0x6b101, true, 6, false, 155)  -- EV_Information_Voltages
    ∷ (0x6b102, true, 8, false, 158)  -- EV_Information_Charge_Limits
    ∷ (0x6b103, true, 8, false, 162)  -- EV_Information_Discharge_Limits
    ∷ (0x6b104, true, 6, false, 166)  -- EV_Information_Energy
    ∷ (0x6b200, true, 8, false, 169)  -- ADM_CO_CUI1_Inputs
    ∷ (0x6b201, true, 8, false, 180)  -- ADM_CS_SECC_Inputs
    ∷ (0x6b202, true, 8, false, 188)  -- ADM_CS_SPCC_Inputs
    ∷ (0x6b203, true, 8, false, 199)  -- CCS_Extra_Information
    ∷ (0x6b204, true, 8, false, 202)  -- MCS_Extra_Information
    ∷ (0x6b300, true, 2, false, 205)  -- OCPP_Control
    ∷ []

abbrev pub messages : List Message
messages = charger_messages ++ (safety_messages ++ (older_messages ++ rest_messages))

-- what a number that is no kind says
abbrev pub no_message : Message
no_message = (0, false, 0, false, 0)

abbrev pub message_of : ℕ → Message
message_of k = get_or messages k no_message

-- both yes, or both no
abbrev pub same : Bool → Bool → Bool
same x y = cond x y (not y)

-- an identifier and its form as one number
abbrev pub key_of : ℕ → Bool → ℕ
key_of i x = 2 * i + cond x 1 0
