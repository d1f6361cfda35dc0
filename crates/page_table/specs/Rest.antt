-- The layouts of document 000 that 02's Req 14 adds, from Sequence_Control to OCPP_Control; a start names the lowest bit. Kind, start, width, signed, labels.
use Rattle.std.specs.Prelude.{ℕ, true, false, List, [], ◌∷◌}
use Rattle.page_table.specs.declared.Row.{Row}
use Rattle.page_table.specs.Layout.{line}

abbrev pub rest_count : ℕ
rest_count = 67

abbrev pub rest_rows : List Row
rest_rows =
    -- Sequence_Control
    line 30 0 1 false 0b11  -- Start_Charge_Authorisation
    ∷ line 30 1 1 false 0b11  -- CHAdeMO_Start_Button
    ∷ line 30 8 1 false 0b11  -- CCS_Authorisation_Done
    ∷ line 30 9 1 false 0b11  -- CCS_Authorisation_Valid
    ∷ line 30 10 1 false 0b11  -- Charge_Parameters_Done
    ∷ line 30 16 1 false 0b11  -- User_Stop_Button
    -- ADM_CS_SECC_Outputs
    ∷ line 31 0 1 false 0  -- Digital_Output1
    ∷ line 31 1 1 false 0  -- Digital_Output2
    ∷ line 31 2 1 false 0  -- Digital_Output3
    ∷ line 31 3 1 false 0  -- Digital_Output4
    ∷ line 31 4 60 false 0  -- Reserved
    -- EV_Information_Battery
    ∷ line 32 0 16 false 0  -- Battery_Capacity
    ∷ line 32 16 8 false 0  -- Present_State_of_Charge
    ∷ line 32 24 8 false 0  -- Minimum_State_of_Charge
    ∷ line 32 32 8 false 0  -- Target_State_of_Charge
    ∷ line 32 40 8 false 0  -- Maximum_State_of_Charge
    -- EV_Information_Voltages
    ∷ line 33 0 16 false 0  -- EV_Minimum_Voltage
    ∷ line 33 16 16 false 0  -- EV_Maximum_Voltage
    ∷ line 33 32 16 false 0  -- EV_Present_Voltage
    -- EV_Information_Charge_Limits
    ∷ line 34 0 16 false 0  -- EV_Minimum_Charge_Current
    ∷ line 34 16 16 false 0  -- EV_Maximum_Charge_Current
    ∷ line 34 32 16 false 0  -- EV_Minimum_Charge_Power
    ∷ line 34 48 16 false 0  -- EV_Maximum_Charge_Power
    -- EV_Information_Discharge_Limits
    ∷ line 35 0 16 false 0  -- EV_Minimum_Discharge_Current
    ∷ line 35 16 16 false 0  -- EV_Maximum_Discharge_Current
    ∷ line 35 32 16 false 0  -- EV_Minimum_Discharge_Power
    ∷ line 35 48 16 false 0  -- EV_Maximum_Discharge_Power
    -- EV_Information_Energy
    ∷ line 36 0 16 true 0  -- EV_Minimum_Energy_Request
    ∷ line 36 16 16 true 0  -- EV_Target_Energy_Request
    ∷ line 36 32 16 true 0  -- EV_Maximum_Energy_Request
    -- ADM_CO_CUI1_Inputs
    ∷ line 37 0 1 false 0  -- SWITCH0
    ∷ line 37 1 1 false 0  -- SWITCH1
    ∷ line 37 2 1 false 0  -- SWITCH2
    ∷ line 37 3 1 false 0  -- SWITCH3
    ∷ line 37 4 1 false 0  -- SWITCH4
    ∷ line 37 5 1 false 0  -- SWITCH5
    ∷ line 37 6 26 false 0  -- Reserved
    ∷ line 37 32 8 false 0  -- Colibri_Temperature
    ∷ line 37 40 8 false 0  -- CPU_Temperature
    ∷ line 37 48 8 false 0  -- Pistol_PTC1
    ∷ line 37 56 8 false 0  -- Pistol_PTC2
    -- ADM_CS_SECC_Inputs
    ∷ line 38 0 1 false 0  -- Digital_Input1
    ∷ line 38 1 1 false 0  -- Digital_Input2
    ∷ line 38 2 1 false 0  -- Digital_Input3
    ∷ line 38 3 1 false 0  -- Digital_Input4
    ∷ line 38 4 36 false 0  -- Reserved
    ∷ line 38 40 8 false 0  -- CPU_Temperature
    ∷ line 38 48 8 false 0  -- Pistol_PTC1
    ∷ line 38 56 8 false 0  -- Pistol_PTC2
    -- ADM_CS_SPCC_Inputs
    ∷ line 39 0 1 false 0  -- Digital_Input1
    ∷ line 39 1 1 false 0  -- Digital_Input2
    ∷ line 39 2 1 false 0  -- Digital_Input3
    ∷ line 39 3 1 false 0  -- Digital_Input4
    ∷ line 39 4 4 false 0  -- Reserved
    ∷ line 39 8 8 false 0  -- CPU_Temperature0
    ∷ line 39 16 8 false 0  -- CPU_Temperature1
    ∷ line 39 24 8 false 0  -- PT1K_A
    ∷ line 39 32 8 false 0  -- PT1K_B
    ∷ line 39 48 8 false 0  -- PT1KS_C
    ∷ line 39 56 8 false 0  -- PT1KS_D
    -- CCS_Extra_Information
    ∷ line 40 0 8 false 0b1001001001001  -- CP_State
    ∷ line 40 8 16 false 0  -- CP_Duty_Cycle
    ∷ line 40 24 40 false 0  -- Reserved
    -- MCS_Extra_Information
    ∷ line 41 0 8 false 0b1111111111  -- CE_State
    ∷ line 41 8 8 false 0b1111  -- ID_State
    ∷ line 41 16 48 false 0  -- Reserved
    -- OCPP_Control
    ∷ line 42 0 16 true 0  -- Dynamic_Target_Current
    ∷ []
