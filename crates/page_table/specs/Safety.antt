-- The layouts of document 004, host and safety controller. 02, Req 04: "eight bytes, big-endian signals", "the start names the highest bit". Kind, start,
-- width, signed, labels.
use Rattle.std.specs.Prelude.{ℕ, true, false, List, [], ◌∷◌}
use Rattle.page_table.specs.declared.Row.{Row}
use Rattle.page_table.specs.Layout.{line}

abbrev pub safety_count : ℕ
safety_count = 31

abbrev pub safety_rows : List Row
safety_rows =
    -- ChargeControl1
    line 9 1 10 false 0  -- CC_TargetDutyCycle
    ∷ line 9 7 1 false 0  -- CC_PWM_Active
    ∷ line 9 16 1 false 0  -- CC_Contactor1State
    ∷ line 9 17 1 false 0  -- CC_Contactor2State
    -- ChargeState1
    ∷ line 10 1 10 false 0  -- CS_CurrentDutyCycle
    ∷ line 10 7 1 false 0  -- CS_PWM_Active
    ∷ line 10 18 3 false 0b11111111  -- CS_CurrentCpState
    ∷ line 10 19 1 false 0  -- CS_CpShortCircuit
    ∷ line 10 20 1 false 0  -- CS_DiodeFault
    ∷ line 10 26 3 false 0b11111111  -- CS_CurrentPpState
    ∷ line 10 32 1 false 0  -- CS_Contactor1State
    ∷ line 10 33 1 false 0  -- CS_Contactor2State
    ∷ line 10 34 1 false 0  -- CS_Contactor1Error
    ∷ line 10 35 1 false 0  -- CS_Contactor2Error
    ∷ line 10 40 1 false 0  -- CS_Estop1ChargingAbort
    ∷ line 10 41 1 false 0  -- CS_Estop2ChargingAbort
    ∷ line 10 42 1 false 0  -- CS_Estop3ChargingAbort
    ∷ line 10 43 1 false 0  -- CS_ImdRcmChargingAbort
    ∷ line 10 44 1 false 0  -- CS_ImdRcmTestFailure
    -- PT1000State
    ∷ line 11 7 14 true 0  -- PT1_Temperature
    ∷ line 11 8 1 false 0  -- PT1_ChargingStopped
    ∷ line 11 9 1 false 0  -- PT1_SelftestFailed
    ∷ line 11 23 14 true 0  -- PT2_Temperature
    ∷ line 11 24 1 false 0  -- PT2_ChargingStopped
    ∷ line 11 25 1 false 0  -- PT2_SelftestFailed
    ∷ line 11 39 14 true 0  -- PT3_Temperature
    ∷ line 11 40 1 false 0  -- PT3_ChargingStopped
    ∷ line 11 41 1 false 0  -- PT3_SelftestFailed
    ∷ line 11 55 14 true 0  -- PT4_Temperature
    ∷ line 11 56 1 false 0  -- PT4_ChargingStopped
    ∷ line 11 57 1 false 0  -- PT4_SelftestFailed
    ∷ []
