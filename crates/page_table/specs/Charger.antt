-- The layouts of document 000, the charger-side pages; a start names the lowest bit. Kind, start, width, signed, labels.
use Rattle.std.specs.Prelude.{ℕ, true, false, List, [], ◌∷◌}
use Rattle.page_table.specs.declared.Row.{Row}
use Rattle.page_table.specs.Layout.{line}

abbrev pub charger_count : ℕ
charger_count = 30

abbrev pub charger_rows : List Row
charger_rows =
    -- Power_Modules_Status
    line 0 0 16 false 0  -- Present_Voltage
    ∷ line 0 16 16 true 0  -- Present_Current
    ∷ line 0 32 8 false 0  -- Power_Modules_Temperature
    ∷ line 0 40 8 false 0  -- Enclosure_Temperature
    ∷ line 0 48 8 false 0b11  -- System_Enable
    ∷ line 0 56 8 false 0  -- Insulation_Resistance
    -- DC_Power_Parameters
    ∷ line 1 0 16 false 0  -- Maximum_Voltage
    ∷ line 1 16 16 false 0  -- Maximum_Charge_Current
    ∷ line 1 32 16 false 0  -- Maximum_Discharge_Current
    ∷ line 1 48 16 true 0  -- Range_Target_Current
    -- Advantics_Controller_Status
    ∷ line 2 0 8 false 0b11111111111111  -- State
    -- New_Charge_Session
    ∷ line 3 0 8 false 0b11111111  -- Communication_Protocol
    ∷ line 3 8 8 false 0b11111  -- Plug_and_pins
    -- Charge_Status_Change
    ∷ line 4 0 8 false 0b11  -- Vehicle_Ready_for_Charging
    -- DC_Power_Control
    ∷ line 5 0 16 false 0  -- Target_Voltage
    ∷ line 5 16 16 true 0  -- Current_Range_Max
    ∷ line 5 32 16 true 0  -- Current_Range_Min
    ∷ line 5 48 4 false 0b100010111  -- Power_Function
    ∷ line 5 52 1 false 0  -- Reserved
    ∷ line 5 53 1 false 0b11  -- Setpoints_Mode
    ∷ line 5 54 1 false 0b11  -- Output_Contactors
    ∷ line 5 55 1 false 0b11  -- Lower_Output_Voltage
    -- Charge_Session_Finished
    ∷ line 6 0 8 false 0b11  -- State
    -- Emergency_Stop
    ∷ line 7 0 8 false 0b1010  -- Origin
    -- EV_ID_CCS_Part2_DIN
    ∷ line 8 0 8 false 0  -- Byte0
    ∷ line 8 8 8 false 0  -- Byte1
    ∷ line 8 16 8 false 0  -- Byte2
    ∷ line 8 24 8 false 0  -- Byte3
    ∷ line 8 32 8 false 0  -- Byte4
    ∷ line 8 40 8 false 0  -- Byte5
    ∷ []
