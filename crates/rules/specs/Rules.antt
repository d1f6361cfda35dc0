-- 01, "What the session watch finds", and 02, Req 14: each rule over the history before the event and the event itself.
use Rattle.std.specs.Prelude.{ℕ, ◌+◌, max, List, [], ◌∷◌, map, Bool, true, false, not, ◌&&◌, ltb}
use Rattle.std.proofs.Math.Option.{Option, none, some}
use Rattle.older_types.specs.message_types.specs.declared.DcPowerParameters.{DcPowerParameters}
use Rattle.rule_pages.specs.Said.{status_by, limits_by, opening_by, command_by}
use Rattle.rule_limits.specs.declared.PlainLimits.{PlainLimits}
use Rattle.rules.specs.History.{Event, History, Said, time_of, newest, status_of, command_of, limits_told, controller_of, opening_of, finished_of, stop_of, opening, in_session}
use Rattle.rules.specs.Times.{elapsed}
use Rattle.rule_limits.specs.Sensor.{sensor_of}
use Rattle.rule_asks.specs.Judgements.{is_allowed, is_close, is_powered, is_carrying, is_off, lowers_badly, outside, bad_insulation, differs, bit}
use Rattle.rule_limits.specs.Limits.{capped}

-- a test of what was found, failing where nothing was
abbrev pub ask : {A : Type 0} → Option A → (A → Bool) → Bool
ask none f = false
ask (some a) f = f a

abbrev pub is_open : Option Said → Bool
is_open none = false
is_open (some o) = true

-- "the latest Power_Modules_Status in this session", and DC_Power_Control
unfoldable pub session_status : History → Option Said
session_status h = newest status_of (in_session h)

unfoldable pub session_control : History → Option Said
session_control h = newest command_of (in_session h)

-- 02, Req 14: "an Emergency_Stop accepted in it", the latest
unfoldable pub session_stop : History → Option Said
session_stop h = newest stop_of (in_session h)

-- "the later of the opening and the latest Power_Modules_Status in this session"
abbrev pub later_time : ℕ → Option Said → ℕ
later_time since none = since
later_time since (some s) = max since s.time

-- "A limit is the smaller of the default and the latest DC_Power_Parameters number since set-up; 0 or none received means the default"
abbrev pub limit_by : ℕ → (DcPowerParameters → ℕ) → Option Said → ℕ
limit_by most number none = most
limit_by most number (some p) = capped most (number (limits_by p.kind p.raw))

unfoldable pub limit_of : ℕ → (DcPowerParameters → ℕ) → History → ℕ
limit_of most number h = limit_by most number (newest limits_told h)

-- whether it finds something of an event, over a post's limits and its history before the event
abbrev pub Rule : Type 0
Rule = PlainLimits → History → Event → Bool

-- "any event, session open: time minus the later of the opening and the latest Power_Modules_Status in this session is above W"
unfoldable pub f1 : Rule
f1 lim h e = ask (opening h) (λ o. ltb lim.silence (elapsed (time_of e) (later_time o.time (session_status h))))

-- "any event, once a controller status was accepted: time minus its latest is above 200 ms"
unfoldable pub f2 : Rule
f2 lim h e = ask (newest controller_of h) (λ c. ltb 200 (elapsed (time_of e) c.time))

-- "DC_Power_Control: contactors Close, no session open"
unfoldable pub f3 : Rule
f3 lim h e = ask (command_of e) (λ d. is_close (command_by d.kind d.raw).contactors && not (is_open (opening h)))

-- "DC_Power_Control: insulation test, precharge or power transfer, no session open"
unfoldable pub f4 : Rule
f4 lim h e = ask (command_of e) (λ d. is_powered (command_by d.kind d.raw).function && not (is_open (opening h)))

-- "its latest Power_Modules_Status is none or Not_Allowed"
abbrev pub unready : Option Said → Bool
unready none = true
unready (some s) = not (is_allowed (status_by s.kind s.raw).enable)

-- "the same functions, session open, and its latest Power_Modules_Status is none or Not_Allowed"
unfoldable pub f5 : Rule
f5 lim h e = ask (command_of e) (λ d. is_powered (command_by d.kind d.raw).function && (is_open (opening h) && unready (session_status h)))

-- "Lowering with a function other than standby, or with any DC_Power_Control signal in Volts or Amps not 0"
unfoldable pub f6 : Rule
f6 lim h e = ask (command_of e) (λ d. lowers_badly (command_by d.kind d.raw))

-- "DC_Power_Control, function not off: Target_Voltage above the voltage limit"
unfoldable pub f7 : Rule
f7 lim h e =
    ask (command_of e)
    (λ d. not (is_off (command_by d.kind d.raw).function) && ltb (limit_of lim.voltage (λ p. p.voltage) h) (command_by d.kind d.raw).target)

-- "Power_Modules_Status, session open: current above the charge limit, or below minus the discharge limit"
unfoldable pub f8 : Rule
f8 lim h e =
    ask (status_of e)
    (λ s. is_open (opening h)
    && outside (status_by s.kind s.raw).current (limit_of lim.charge (λ p. p.charge) h) (limit_of lim.discharge (λ p. p.discharge) h))

-- "Power_Modules_Status, session open whose latest DC_Power_Control is precharge or power transfer: under 100 Ohm per volt of the same message's voltage";
-- 02, Req 03: or, for a yes/no sensor, raw 0
unfoldable pub f9 : Rule
f9 lim h e =
    ask (status_of e)
    (λ s. (is_open (opening h) && ask (session_control h) (λ d. is_carrying (command_by d.kind d.raw).function)) && bad_insulation (sensor_of lim.sensor) (status_by s.kind s.raw))

-- "New_Charge_Session while open with another protocol or plug than the session's first"
unfoldable pub f10 : Rule
f10 lim h e = ask (opening_of e) (λ n. ask (opening h) (λ o. differs (opening_by o.kind o.raw) (opening_by n.kind n.raw)))

-- "Charge_Session_Finished with none open"
unfoldable pub f11 : Rule
f11 lim h e = ask (finished_of e) (λ f. not (is_open (opening h)))

abbrev pub is_stopped : Option Said → Bool
is_stopped none = false
is_stopped (some s) = true

-- 02, Req 14: "F12 is a DC_Power_Control with insulation test, precharge or power transfer in a session after an Emergency_Stop accepted in it"
unfoldable pub f12 : Rule
f12 lim h e = ask (command_of e) (λ d. is_powered (command_by d.kind d.raw).function && (is_open (opening h) && is_stopped (session_stop h)))

-- ---- the findings of an event

-- finding 1 first
abbrev pub rules01 : List Rule
rules01 = f1 ∷ f2 ∷ f3 ∷ f4 ∷ f5 ∷ f6 ∷ f7 ∷ f8 ∷ f9 ∷ f10 ∷ f11 ∷ f12 ∷ []

abbrev pub found : List Rule → PlainLimits → History → Event → List Bool
found rs lim h e = map (λ (f : Rule). f lim h e) rs

-- flags as a number, of which the first is worth w and each one twice the one before it
abbrev pub bits_from : ℕ → List Bool → ℕ
bits_from w [] = 0
bits_from w (b ∷ bs) = bit b w + bits_from (w + w) bs

-- "Finding k is bit k - 1 of the answer"
unfoldable pub findings01 : PlainLimits → History → Event → ℕ
findings01 lim h e = bits_from 1 (found rules01 lim h e)
