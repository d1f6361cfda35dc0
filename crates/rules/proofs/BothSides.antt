-- 01, "Slips a fitter would make", and both sides of the edges that they miss: what each event in turn finds, by looking back and by the inner step.
-- One table under one statement, closed by computing.
use Prim.Native.Nat.{ℕ, ◌+◌, ◌*◌}
use mathlib.Core.Path.{◌≡◌, refl}
use mathlib.Core.List.{List, [], ◌∷◌}
use Rattle.signal.specs.Signal.{get_bits}
use Rattle.signal.specs.Twos.{to_signed}
use Rattle.page_table.specs.Table.{rows, of_kind, first_at}
use Rattle.page_write.specs.Raws.{wholes_of, pad, raws_of}
use Rattle.older_types.specs.message_types.specs.KindNumbers.{stop_kind, safety_control_kind, safety_state_kind, probes_kind, sequence_kind, energy_kind, cui_kind, ocpp_kind}
use Rattle.message_build.specs.message_parts.specs.Parts.{status_kind, parameters_kind, controller_kind, session_kind, control_kind, finished_kind, status_in, parameters_in, session_in, control_in}
use Rattle.older_types.specs.KindNumbers as older
use Rattle.rule_limits.specs.declared.PlainLimits.{PlainLimits}
use Rattle.rule_pages.specs.Roles.{role_of}
use Rattle.rule_pages.specs.Said.{status_by, opening_by, limits_in, limits_by, command_by}
use Rattle.rule_asks.specs.Judgements.{lowers_badly, outside, leaking, bad_insulation, differs}
use Rattle.rules.specs.declared.Head.{Head}
use Rattle.rules.specs.declared.AfterEvent.{AfterEvent}
use Rattle.rules.specs.History.{Event, frame, tick, History, since_finished, opening, in_session}
use Rattle.rules.specs.Rules.{session_status, session_control, session_stop, limit_of, f1, f2, f3, f4, f5, f6, f7, f8, f9, f10, f11, f12, findings01}
use Rattle.rules.specs.Counts.{tallies_of, counts_of}
use Rattle.rules.specs.After.{session_after, stamp_in, aged_to, with_frame, silent_in, late_after, any_findings, unready_in, carrying_in, stopped_in, control_findings, status_findings, opening_findings, finished_findings, message_findings, counted, with_counts, after_tick, after_frame, new_head}

-- ---- the findings of events in order of arrival

-- each over the history before it
abbrev pub looked_back : PlainLimits → History → List Event → List ℕ
looked_back lim h [] = []
looked_back lim h (e ∷ later) = findings01 lim h e ∷ looked_back lim (e ∷ h) later

abbrev pub after_by : Head → Event → AfterEvent
after_by p (frame t k raw) = after_frame p t k raw
after_by p (tick t) = after_tick p t

-- each of the head that the events before it left
abbrev pub in_turn : Head → List Event → List ℕ
in_turn p [] = []
in_turn p (e ∷ later) = (after_by p e).findings ∷ in_turn (after_by p e).head later

-- ---- a post with default voltage 500.0 V, charge 100.0 A, discharge 50.0 A, W 500 ms and a measuring sensor

abbrev limits : PlainLimits
limits = record { voltage = 5000; charge = 1000; discharge = 500; silence = 500; sensor = 0; interface = 0 }

-- Power_Modules_Status Allowed with no current at 0 V and 510 kOhm; New_Charge_Session 02 01; Charge_Session_Finished; Advantics_Controller_Status Charging
abbrev status : ℕ → Event
status t = frame t status_kind 0xFF01414100000000

abbrev session : ℕ → Event
session t = frame t session_kind 0x0102

abbrev finished : ℕ → Event
finished t = frame t finished_kind 0

abbrev controller : ℕ → Event
controller t = frame t controller_kind 7

-- DC_Power_Control: standby with a target; closed contactors and power transfer at 500.0 V. DC_Power_Parameters by Maximum_Voltage
abbrev standby : ℕ → ℕ → Event
standby t target = frame t control_kind (0x01000000000000 + target)

abbrev transfer : ℕ → Event
transfer t = frame t control_kind 0x48000000001388

-- with open contactors and any function at 0 V: 2 is insulation test, 4 precharge, 8 power transfer. Emergency_Stop
abbrev acting : ℕ → ℕ → Event
acting t function = frame t control_kind (function * 0x1000000000000)

abbrev stop : ℕ → Event
stop t = frame t stop_kind 1

abbrev parameters : ℕ → ℕ → Event
parameters t most = frame t parameters_kind most

-- 02, Req 11, by the pages of 001: Power_Modules_Status Allowed by voltage, current and insulation; Power_Modules_Limits by voltage and current, of which
-- 0xFFFF is -1; New_Charge_Session 02 01 by what stands behind protocol and plug; Charging_Loop at 0 V and 0 A
abbrev older_status : ℕ → ℕ → ℕ → ℕ → Event
older_status t volt amp raw = frame t older.status_kind (volt + amp * 0x10000 + 0x01414100000000 + raw * 0x100000000000000)

abbrev older_limits : ℕ → ℕ → ℕ → Event
older_limits t volt amp = frame t older.limits_kind (volt + amp * 0x10000)

abbrev older_session : ℕ → ℕ → Event
older_session t rest = frame t older.session_kind (0x0102 + rest * 0x10000)

abbrev charging : ℕ → Event
charging t = frame t older.charging_kind 0

abbrev pub table : List (List Event × List ℕ)
table =
    -- "Starting the F1 count again at each repeated New_Charge_Session"
    (session 0 ∷ session 400 ∷ tick 500 ∷ tick 501 ∷ [], 0 ∷ 0 ∷ 0 ∷ 1 ∷ [])
    -- "Keeping Allowed from the previous session"
    ∷ (session 0 ∷ status 1 ∷ transfer 2 ∷ finished 3 ∷ session 4 ∷ transfer 5 ∷ [], 0 ∷ 0 ∷ 0 ∷ 0 ∷ 0 ∷ 16 ∷ [])
    -- "a received 0 as a limit of zero"
    ∷ (parameters 0 0 ∷ standby 1 5000 ∷ standby 2 5001 ∷ [], 0 ∷ 0 ∷ 64 ∷ [])
    -- "DC_Power_Parameters' number without the default as a cap"
    ∷ (parameters 0 6000 ∷ standby 1 5000 ∷ standby 2 5001 ∷ [], 0 ∷ 0 ∷ 64 ∷ [])
    ∷ (parameters 0 4000 ∷ standby 1 4000 ∷ standby 2 4001 ∷ [], 0 ∷ 0 ∷ 64 ∷ [])
    -- F2 with no session open, from 201 ms on, and then no longer
    ∷ (controller 1000 ∷ tick 1200 ∷ tick 1201 ∷ controller 1201 ∷ tick 1202 ∷ [], 0 ∷ 0 ∷ 2 ∷ 2 ∷ 0 ∷ [])
    -- with no session open F3 and F4 of a DC_Power_Control, and nothing of the same bits in a frame of the safety controller
    ∷ (transfer 0 ∷ frame 1 safety_control_kind 0x48000000001388 ∷ frame 2 safety_state_kind 0x48000000001388 ∷ frame 3 probes_kind 0x48000000001388 ∷ [], 12 ∷ 0 ∷ 0 ∷ 0 ∷ [])
    -- 02, Req 14: nor in a frame of the rest of 000's; F2, and in a session F1, of such a frame as of a tick
    ∷ (transfer 0 ∷ frame 1 sequence_kind 0x480000 ∷ frame 2 energy_kind 0x480000001388 ∷ frame 3 cui_kind 0x48000000001388 ∷ frame 4 ocpp_kind 0x4800 ∷ [], 12 ∷ 0 ∷ 0 ∷ 0 ∷ 0 ∷ [])
    ∷ (controller 0 ∷ session 0 ∷ frame 200 sequence_kind 0 ∷ frame 201 cui_kind 0 ∷ frame 500 energy_kind 0 ∷ frame 501 ocpp_kind 0 ∷ [], 0 ∷ 0 ∷ 0 ∷ 2 ∷ 2 ∷ 3 ∷ [])
    -- 02, Req 09: F1 and F2 across the round of the clock: at 4,294,967,290 as received, then at 494 and 495, 500 and 501 ms later
    ∷ (session 4294967290 ∷ tick 4294967790 ∷ tick 4294967791 ∷ [], 0 ∷ 0 ∷ 1 ∷ [])
    ∷ (controller 4294967290 ∷ tick 4294967490 ∷ tick 4294967491 ∷ [], 0 ∷ 0 ∷ 2 ∷ [])
    -- 02, Req 11: with no session open F4 of each of the three functions, whatever their numbers, and neither F3 nor F7; of no other message, and F11
    ∷ (
      frame 0 older.insulation_kind 0xFFFF ∷ frame 1 older.precharge_kind 0xFFFFFFFF ∷ charging 2 ∷ frame 3 older.stop_kind 1 ∷ frame 4 older.finished_kind 0 ∷ [],
      8 ∷ 8 ∷ 8 ∷ 0 ∷ 1024 ∷ [],
    )
    -- in the session F5 before a status and none after it; F9 under precharge and Charging_Loop at 0 A, not under an insulation test
    ∷ (
      older_session 0 0 ∷ charging 1 ∷ older_status 2 5000 0 25 ∷ charging 3 ∷ older_status 4 5000 0 25 ∷ older_status 5 5000 0 24
          ∷ frame 6 older.insulation_kind 5000 ∷ older_status 7 5000 0 24 ∷ frame 8 older.precharge_kind 5000 ∷ older_status 9 5000 0 24 ∷ [],
      0 ∷ 16 ∷ 0 ∷ 0 ∷ 0 ∷ 256 ∷ 0 ∷ 0 ∷ 0 ∷ 256 ∷ [],
    )
    -- a charge limit that is told, and none by 0, by -1 or above the default; the discharge limit is the default
    ∷ (
      older_session 0 0 ∷ older_limits 1 0 400 ∷ older_status 2 0 400 255 ∷ older_status 3 0 401 255 ∷ older_limits 4 0 0xFFFF ∷ older_status 5 0 1000 255
          ∷ older_status 6 0 1001 255 ∷ older_limits 7 0 0 ∷ older_status 8 0 1000 255 ∷ older_limits 9 0 1001 ∷ older_status 10 0 1001 255
          ∷ older_limits 11 0 1 ∷ older_status 12 0 0xFE0C 255 ∷ older_status 13 0 0xFE0B 255 ∷ [],
      0 ∷ 0 ∷ 0 ∷ 128 ∷ 0 ∷ 0 ∷ 128 ∷ 0 ∷ 0 ∷ 0 ∷ 128 ∷ 0 ∷ 0 ∷ 128 ∷ [],
    )
    -- F10 of another plug, and not of what stands behind it; F1 from 501 ms on; F2 from 201 ms on
    ∷ (older_session 0 0 ∷ older_session 1 77 ∷ frame 2 older.session_kind 0x0202 ∷ tick 500 ∷ tick 501 ∷ [], 0 ∷ 0 ∷ 512 ∷ 0 ∷ 1 ∷ [])
    ∷ (frame 1000 older.controller_kind 7 ∷ tick 1200 ∷ tick 1201 ∷ [], 0 ∷ 0 ∷ 2 ∷ [])
    -- 02, Req 14: no F12 of the three functions without a stop, nor of a stop before the opening; F12 of each after a stop in the session, not off, and not
    -- standby
    ∷ (session 0 ∷ status 1 ∷ acting 2 2 ∷ acting 3 4 ∷ acting 4 8 ∷ [], 0 ∷ 0 ∷ 0 ∷ 0 ∷ 0 ∷ [])
    ∷ (stop 0 ∷ acting 1 8 ∷ session 2 ∷ status 3 ∷ acting 4 8 ∷ [], 0 ∷ 8 ∷ 0 ∷ 0 ∷ 0 ∷ [])
    ∷ (
      session 0 ∷ status 1 ∷ acting 2 8 ∷ stop 3 ∷ acting 4 0 ∷ acting 5 1 ∷ acting 6 2 ∷ acting 7 4 ∷ acting 8 8 ∷ stop 9 ∷ acting 10 8 ∷ [],
      0 ∷ 0 ∷ 0 ∷ 0 ∷ 0 ∷ 0 ∷ 2048 ∷ 2048 ∷ 2048 ∷ 0 ∷ 2048 ∷ [],
    )
    -- with F5 before Allowed; a repeat of New_Charge_Session keeps the stop; F4 and no F12 once the session closed, and no F12 in the one that opens anew
    ∷ (
      session 0 ∷ stop 1 ∷ acting 2 8 ∷ status 3 ∷ session 4 ∷ acting 5 8 ∷ finished 6 ∷ acting 7 8 ∷ session 8 ∷ status 9 ∷ acting 10 8 ∷ [],
      0 ∷ 0 ∷ 2064 ∷ 0 ∷ 0 ∷ 2048 ∷ 0 ∷ 8 ∷ 0 ∷ 0 ∷ 0 ∷ [],
    )
    -- by the pages of 001: the three functions after its Emergency_Stop
    ∷ (
      older_session 0 0 ∷ older_status 1 0 0 255 ∷ charging 2 ∷ frame 3 older.stop_kind 1 ∷ frame 4 older.insulation_kind 0 ∷ frame 5 older.precharge_kind 0 ∷ charging 6
          ∷ frame 7 older.finished_kind 0 ∷ older_session 8 0 ∷ older_status 9 0 0 255 ∷ charging 10 ∷ [],
      0 ∷ 0 ∷ 0 ∷ 0 ∷ 2048 ∷ 2048 ∷ 2048 ∷ 0 ∷ 0 ∷ 0 ∷ 0 ∷ [],
    )
    ∷ []

abbrev pub All : List (List Event × List ℕ) → Type 0
All [] = Unit {0}
All (x ∷ xs) = ((looked_back limits [] x.0 ≡ x.1) × (in_turn (new_head 1 4 limits) x.0 ≡ x.1)) × All xs

pub both_sides : All table
unfolding role_of status_by opening_by limits_in limits_by command_by since_finished opening in_session lowers_badly outside leaking bad_insulation differs session_status session_control session_stop limit_of f1 f2 f3 f4 f5 f6 f7 f8 f9 f10 f11 f12 findings01 session_after stamp_in aged_to with_frame silent_in late_after any_findings unready_in carrying_in stopped_in control_findings status_findings opening_findings finished_findings message_findings with_counts after_tick after_frame status_in parameters_in session_in control_in rows of_kind first_at wholes_of pad raws_of get_bits to_signed
both_sides = ((refl, refl), ((refl, refl), ((refl, refl), ((refl, refl), ((refl, refl), ((refl, refl), ((refl, refl), ((refl, refl), ((refl, refl), ((refl, refl), ((refl, refl), ((refl, refl), ((refl, refl), ((refl, refl), ((refl, refl), ((refl, refl), ((refl, refl), ((refl, refl), ((refl, refl), ((refl, refl), ((refl, refl), tt)))))))))))))))))))))

-- ---- 02, Req 08: the counts of such events, the newest first, and of the head that they leave

abbrev leaves : List Event → Head
leaves [] = new_head 1 4 limits
leaves (e ∷ h) = (after_by (leaves h) e).head

-- F2 of a late tick and of the late controller status itself, which is judged before it counts; then F3 and F4 of one frame
abbrev late : List Event
late = tick 1202 ∷ controller 1201 ∷ tick 1201 ∷ tick 1200 ∷ controller 1000 ∷ []

abbrev late_counts : List ℕ
late_counts = 5 ∷ 0 ∷ 2 ∷ 0 ∷ 0 ∷ 0 ∷ 0 ∷ 0 ∷ 0 ∷ 0 ∷ 0 ∷ 0 ∷ 0 ∷ []

abbrev powered : List Event
powered = tick 1 ∷ transfer 0 ∷ []

abbrev powered_counts : List ℕ
powered_counts = 2 ∷ 0 ∷ 0 ∷ 1 ∷ 1 ∷ 0 ∷ 0 ∷ 0 ∷ 0 ∷ 0 ∷ 0 ∷ 0 ∷ 0 ∷ []

-- F12 twice in its own place, F11 once
abbrev stopped : List Event
stopped = finished 6 ∷ finished 5 ∷ acting 4 8 ∷ acting 3 4 ∷ stop 2 ∷ status 1 ∷ session 0 ∷ []

abbrev stopped_counts : List ℕ
stopped_counts = 7 ∷ 0 ∷ 0 ∷ 0 ∷ 0 ∷ 0 ∷ 0 ∷ 0 ∷ 0 ∷ 0 ∷ 0 ∷ 1 ∷ 2 ∷ []

pub counts_both_sides : ((counts_of limits late ≡ late_counts) × ((leaves late).counts ≡ late_counts)) × ((counts_of limits powered ≡ powered_counts) × ((leaves powered).counts ≡ powered_counts))
    × ((counts_of limits stopped ≡ stopped_counts) × ((leaves stopped).counts ≡ stopped_counts))
unfolding role_of status_by opening_by limits_in limits_by command_by since_finished opening in_session lowers_badly outside leaking bad_insulation differs session_status session_control session_stop limit_of f1 f2 f3 f4 f5 f6 f7 f8 f9 f10 f11 f12 findings01 tallies_of session_after stamp_in aged_to with_frame silent_in late_after any_findings unready_in carrying_in stopped_in control_findings status_findings opening_findings finished_findings message_findings counted with_counts after_tick after_frame status_in parameters_in session_in control_in rows of_kind first_at wholes_of pad raws_of get_bits to_signed
counts_both_sides = ((refl, refl), (refl, refl), (refl, refl))
