-- The layouts of document 001, the pages of the older controllers; a start names the lowest bit. Kind, start, width, signed, labels.
use Rattle.std.specs.Prelude.{ℕ, true, false, List, [], ◌∷◌}
use Rattle.page_table.specs.declared.Row.{Row}
use Rattle.page_table.specs.Layout.{line}

abbrev pub older_count : ℕ
older_count = 78

abbrev pub older_rows : List Row
older_rows =
    -- Power_Modules_Status
    line 12 0 16 false 0  -- Present_Voltage
    ∷ line 12 16 16 true 0  -- Present_Current
    ∷ line 12 32 8 false 0  -- Power_Modules_Temperature
    ∷ line 12 40 8 false 0  -- Enclosure_Temperature
    ∷ line 12 48 8 false 0b11  -- System_Enable
    ∷ line 12 56 8 false 0  -- Insulation_Resistance
    -- Power_Modules_Limits
    ∷ line 13 0 16 false 0  -- Maximum_Voltage
    ∷ line 13 16 16 true 0  -- Maximum_Current
    ∷ line 13 32 32 false 0  -- Reserved
    -- Sequence_Control
    ∷ line 14 0 1 false 0b11  -- Start_Charge_Authorisation
    ∷ line 14 1 1 false 0b11  -- CHAdeMO_Start_Button
    ∷ line 14 8 1 false 0b11  -- CCS_Authorisation_Done
    ∷ line 14 9 1 false 0b11  -- CCS_Authorisation_Valid
    ∷ line 14 10 1 false 0b11  -- Charge_Parameters_Done
    ∷ line 14 16 1 false 0b11  -- User_Stop_Button
    -- ADM_CS_SECC_Outputs
    ∷ line 15 0 1 false 0  -- Digital_Output1
    ∷ line 15 1 1 false 0  -- Digital_Output2
    ∷ line 15 2 1 false 0  -- Digital_Output3
    ∷ line 15 3 1 false 0  -- Digital_Output4
    ∷ line 15 4 60 false 0  -- Reserved
    -- New_Charge_Session
    ∷ line 16 0 8 false 0b11111111  -- Communication_Protocol
    ∷ line 16 8 8 false 0b11111  -- Plug_and_pins
    ∷ line 16 16 16 false 0  -- EV_Maximum_Voltage
    ∷ line 16 32 16 false 0  -- EV_Maximum_Current
    ∷ line 16 48 8 false 0  -- Battery_Capacity
    ∷ line 16 56 8 false 0  -- State_of_Charge
    -- Insulation_Test
    ∷ line 17 0 16 false 0  -- Test_Voltage
    -- Precharge
    ∷ line 18 0 16 false 0  -- Target_Voltage
    ∷ line 18 16 16 false 0  -- Maximum_Current
    -- Charge_Status_Change
    ∷ line 19 0 8 false 0b11  -- Vehicle_Ready_for_Charging
    -- Charging_Loop
    ∷ line 20 0 16 false 0  -- Target_Voltage
    ∷ line 20 16 16 true 0  -- Target_Current
    ∷ line 20 32 8 false 0  -- State_of_Charge
    -- Emergency_Stop
    ∷ line 21 0 8 false 0b1010  -- Origin
    -- Charge_Session_Finished
    ∷ line 22 0 8 false 0b11  -- State
    -- Advantics_Controller_Status
    ∷ line 23 0 8 false 0b11111111111111  -- State
    -- ADM_CO_CUI1_Inputs
    ∷ line 24 0 1 false 0  -- SWITCH0
    ∷ line 24 1 1 false 0  -- SWITCH1
    ∷ line 24 2 1 false 0  -- SWITCH2
    ∷ line 24 3 1 false 0  -- SWITCH3
    ∷ line 24 4 1 false 0  -- SWITCH4
    ∷ line 24 5 1 false 0  -- SWITCH5
    ∷ line 24 6 26 false 0  -- Reserved
    ∷ line 24 32 8 false 0  -- Colibri_Temperature
    ∷ line 24 40 8 false 0  -- CPU_Temperature
    ∷ line 24 48 8 false 0  -- Pistol_PTC1
    ∷ line 24 56 8 false 0  -- Pistol_PTC2
    -- ADM_CS_SECC_Inputs
    ∷ line 25 0 1 false 0  -- Digital_Input1
    ∷ line 25 1 1 false 0  -- Digital_Input2
    ∷ line 25 2 1 false 0  -- Digital_Input3
    ∷ line 25 3 1 false 0  -- Digital_Input4
    ∷ line 25 4 36 false 0  -- Reserved
    ∷ line 25 40 8 false 0  -- CPU_Temperature
    ∷ line 25 48 8 false 0  -- Pistol_PTC1
    ∷ line 25 56 8 false 0  -- Pistol_PTC2
    -- EV_ID_CCS_Part2_DIN
    ∷ line 26 0 8 false 0  -- Byte0
    ∷ line 26 8 8 false 0  -- Byte1
    ∷ line 26 16 8 false 0  -- Byte2
    ∷ line 26 24 8 false 0  -- Byte3
    ∷ line 26 32 8 false 0  -- Byte4
    ∷ line 26 40 8 false 0  -- Byte5
    -- ADM_CS_SPCC_Inputs
    ∷ line 27 0 1 false 0  -- Digital_Input1
    ∷ line 27 1 1 false 0  -- Digital_Input2
    ∷ line 27 2 1 false 0  -- Digital_Input3
    ∷ line 27 3 1 false 0  -- Digital_Input4
    ∷ line 27 4 4 false 0  -- Reserved
    ∷ line 27 8 8 false 0  -- CPU_Temperature0
    ∷ line 27 16 8 false 0  -- CPU_Temperature1
    ∷ line 27 24 8 false 0  -- PT1K_A
    ∷ line 27 32 8 false 0  -- PT1K_B
    ∷ line 27 48 8 false 0  -- PT1KS_C
    ∷ line 27 56 8 false 0  -- PT1KS_D
    -- CCS_Extra_Information
    ∷ line 28 0 8 false 0b1001001001001  -- CP_State
    ∷ line 28 8 16 false 0  -- CP_Duty_Cycle
    ∷ line 28 24 40 false 0  -- Reserved
    -- MCS_Extra_Information
    ∷ line 29 0 8 false 0b1111111111  -- CE_State
    ∷ line 29 8 8 false 0b1111  -- ID_State
    ∷ line 29 16 48 false 0  -- Reserved
    ∷ []
