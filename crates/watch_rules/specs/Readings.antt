-- 01, "Readings from both sides of each edge": E1* to E13*, and 02, Req 02 to 04, 08, 09, 11, 13 and 14: one table under one statement, closed by computing the
-- definitions. What the watch answers is read by looking back.
use Rattle.std.specs.Prelude as std
use Rattle.std.specs.Prelude.{ℕ, ◌≡◌, refl, true, false, List, [], ◌∷◌, ◌++◌, map, reverse, pos, negsuc, get_or, replicate, Some, None, Ok, Err}
use Rattle.refusals.specs.declared.Refusal.TheVariants.{ChannelFree, Earlier, UnknownIdentifier, OtherInterface, TooShort, TooLong, NoLabel, UncoveredBit, ChannelTaken, LimitOutside, NoSuchPost, NotSetUp}
use Rattle.page_table.specs.Table.{rows, of_kind, first_at, covered}
use Rattle.page_table.specs.declared.Interface.{Interface}
use Rattle.page_table.specs.declared.Interface.TheVariants.{Newer, Older}
use Rattle.page_read.specs.Judge.{unlabelled, offender, stray_below, judged_number, judge_on}
use Rattle.page_interfaces.specs.Foreign.{is_foreign, judge_for}
use Rattle.page_write.specs.Raws.{wholes_of, pad, raws_of}
use Rattle.signal.specs.Signal.{get_bits}
use Rattle.payload.specs.Payload.{le_number, be_number}
use Rattle.signal.specs.Twos.{to_signed}
use Rattle.message_types.specs.declared.CpState.TheVariants as cp
use Rattle.message_types.specs.declared.PpState.TheVariants as pp
use Rattle.message_types.specs.declared.Message.TheVariants.{Stop, SafetyState, Probes, Sequence, Energy, Ocpp}
use Rattle.message_types.specs.declared.StopOrigin.TheVariants.{Evse, Pev}
use Rattle.message_types.specs.declared.Protocol.TheVariants.{CcsIso15118v2013}
use Rattle.message_types.specs.declared.Plug.TheVariants.{CcsDcExtended}
use Rattle.message_types.specs.declared.SystemEnable.TheVariants.{Allowed}
use Rattle.message_types.specs.declared.Permission.TheVariants as permission
use Rattle.message_types.specs.declared.Button.TheVariants as button
use Rattle.message_types.specs.declared.Step.TheVariants as step
use Rattle.message_types.specs.declared.Validity.TheVariants as validity
use Rattle.message_types.specs.KindNumbers.{safety_state_kind, probes_kind, sequence_kind, energy_kind, ocpp_kind}
use Rattle.message_parts.specs.Parts.{status_in, parameters_in, session_in, control_in}
use Rattle.messages.specs.message_build.specs.Built.{message_of, built_of}
use Rattle.messages.specs.Readings as messages
use Rattle.older_types.specs.declared.Message.TheVariants as older
use Rattle.rules.specs.older_build.specs.Built as olderBuilt
use Rattle.rule_pages.specs.Roles.{role_of}
use Rattle.rule_pages.specs.Said.{status_by, opening_by, limits_in, limits_by, command_by}
use Rattle.rule_pages.specs.Places.{place_by}
use Rattle.rule_limits.specs.declared.PlainLimits.{PlainLimits}
use Rattle.rule_limits.specs.declared.Sensor.{Sensor}
use Rattle.rule_limits.specs.declared.Sensor.TheVariants.{Measuring, YesNo}
use Rattle.rules.specs.declared.Dated.{Dated}
use Rattle.rules.specs.declared.Dated.TheVariants as dated
use Rattle.rules.specs.SessionPart.{SessionPart}
use Rattle.rules.specs.declared.Record.{Record}
use Rattle.rules.specs.History.{since_finished, opening, in_session}
use Rattle.rules.specs.Times.{earlier_in}
use Rattle.rule_asks.specs.Judgements.{lowers_badly, outside, leaking, bad_insulation, differs}
use Rattle.rules.specs.Rules.{session_status, session_control, session_stop, limit_of, f1, f2, f3, f4, f5, f6, f7, f8, f9, f10, f11, f12, findings01}
use Rattle.rules.specs.Counts.{tallies_of}
use Rattle.rules.specs.Record.{place_count, dated_at, record_as_of}
use Rattle.rules.specs.After.{kept_count}
use Rattle.watch_rules.specs.declared.LookedUp.{LookedUp}
use Rattle.rule_limits.specs.Limits.{limits_fit}
use Rattle.watch_rules.specs.Table.{entry_of, not_found}
use Rattle.watch_rules.specs.Steps.{standing, find_from, holder, other_holds, feed01, set_up01, release01, look_up01, feed_steps, set_up_steps, release_steps}
use Rattle.watch_rules.specs.Run.{Request, setUp, release, frame, tick, Reply, set, fed, accepted, refused_ever, accepted_from, replies01_from}

-- a reading of frames and messages (E1 to E7); requests to the empty table in order of arrival, with their replies;
-- such requests, and a post's record after them, or the sensor kind or the interface in it, or its latest message in a place, or that one's time and age,
-- or its session's part with what it keeps, or its counts;
-- how many of them were refused; and the index's entry for a channel after them
pub data Case : Type 0 where
  codec : messages.Case → Case
  answers : List Request → List Reply → Case
  shows : List Request → ℕ → LookedUp → Case
  senses : List Request → ℕ → Sensor → Case
  reads-by : List Request → ℕ → Interface → Case
  in-session : List Request → ℕ → SessionPart → List (std.Option Dated) → Case
  keeps : List Request → ℕ → ℕ → std.Option Dated → Case
  dates : List Request → ℕ → ℕ → ℕ × ℕ → Case
  counts : List Request → ℕ → ℕ → List ℕ → Case
  turns-away : List Request → ℕ → Case
  names : List Request → ℕ → ℕ → Case

abbrev latest_shown : List Request → ℕ → ℕ → std.Option Dated
latest_shown asked post kind = get_or (look_up01 (accepted_from [] asked) post).shown.latest kind std.None

abbrev pub is_dated : std.Option Dated → ℕ × ℕ → Type 0
is_dated std.None d = ⊥
is_dated (std.Some (dated.At time age m)) d = (time ≡ d.0) × (age ≡ d.1)
is_dated (std.Some (dated.OlderAt time age m)) d = (time ≡ d.0) × (age ≡ d.1)

abbrev pub Holds : Case → Type 0
Holds (codec c) = messages.Holds c
Holds (answers asked replies) = replies01_from [] asked ≡ replies
Holds (shows asked post shown) = look_up01 (accepted_from [] asked) post ≡ shown
Holds (senses asked post sensor) = (look_up01 (accepted_from [] asked) post).shown.limits.sensor ≡ sensor
Holds (reads-by asked post iface) = (look_up01 (accepted_from [] asked) post).shown.limits.interface ≡ iface
Holds (in-session asked post session ks) =
    ((look_up01 (accepted_from [] asked) post).shown.session ≡ session) × ((look_up01 (accepted_from [] asked) post).shown.kept ≡ ks)
Holds (keeps asked post kind latest) = latest_shown asked post kind ≡ latest
Holds (dates asked post kind d) = is_dated (latest_shown asked post kind) d
Holds (counts asked post accepted tallies) =
    ((look_up01 (accepted_from [] asked) post).shown.accepted ≡ accepted) × ((look_up01 (accepted_from [] asked) post).shown.tallies ≡ tallies)
Holds (turns-away asked n) = refused_ever (reverse asked) ≡ n
Holds (names asked c entry) = entry_of (holder (accepted_from [] asked) c) ≡ entry

abbrev pub All : List Case → Type 0
All [] = Unit {0}
All (c ∷ cs) = Holds c × All cs

-- default voltage 500.0 V, charge 100.0 A, discharge 50.0 A, W 500 ms, and a sensor kind by its number
abbrev limits_with : ℕ → PlainLimits
limits_with n = record { voltage = 5000; charge = 1000; discharge = 500; silence = 500; sensor = n; interface = 0 }

abbrev limits : PlainLimits
limits = limits_with 0

-- the same with a measuring sensor, and an interface by its number
abbrev limits_on : ℕ → PlainLimits
limits_on n = record { voltage = 5000; charge = 1000; discharge = 500; silence = 500; sensor = 0; interface = n }

-- the record of a post that was just set up: never heard, no message in any of the twenty-five places, no session
abbrev none : std.Option Dated
none = std.None

abbrev empty_record : Record
empty_record =
    record {
      channel = 4;
      limits = record { voltage = 5000; charge = 1000; discharge = 500; silence = 500; sensor = Measuring; interface = Newer };
      last = None;
      latest = replicate place_count none;
      session = None;
      kept = replicate kept_count none;
      accepted = 0;
      tallies = 0 ∷ 0 ∷ 0 ∷ 0 ∷ 0 ∷ 0 ∷ 0 ∷ 0 ∷ 0 ∷ 0 ∷ 0 ∷ 0 ∷ [];
    }

abbrev done : Reply
done = set (Ok tt)

abbrev found : ℕ → Reply
found n = fed (Ok n)

-- frames on channel 4: Power_Modules_Status (Allowed, 0 A) by the voltage's two bytes and the insulation, DC_Power_Parameters by Maximum_Voltage,
-- Advantics_Controller_Status Charging, New_Charge_Session 02 01, DC_Power_Control by Target_Voltage and byte 6
abbrev status : ℕ → ℕ → ℕ → ℕ → Request
status t low high raw = frame 4 t 0x63000 true (low ∷ high ∷ 0 ∷ 0 ∷ 65 ∷ 65 ∷ 1 ∷ raw ∷ [])

abbrev parameters : ℕ → ℕ → ℕ → Request
parameters t low high = frame 4 t 0x63001 true (low ∷ high ∷ 0 ∷ 0 ∷ 0 ∷ 0 ∷ 0 ∷ 0 ∷ [])

abbrev controller : ℕ → Request
controller t = frame 4 t 0x6b000 true (7 ∷ [])

abbrev session : ℕ → Request
session t = frame 4 t 0x6b001 true (2 ∷ 1 ∷ [])

abbrev control : ℕ → ℕ → ℕ → ℕ → Request
control t low high last = frame 4 t 0x6b003 true (low ∷ high ∷ 0 ∷ 0 ∷ 0 ∷ 0 ∷ last ∷ [])

-- Charge_Session_Finished, and Emergency_Stop by its origin
abbrev finished : ℕ → Request
finished t = frame 4 t 0x6b004 true (0 ∷ [])

abbrev stop : ℕ → ℕ → Request
stop t origin = frame 4 t 0x6b005 true (origin ∷ [])

-- frames of the safety controller on channel 4, each with 53.3 % and PWM active or -10.0 °C:
-- ChargeControl1 and ChargeState1 with both contactors closed, PT1000State
abbrev safety_control : ℕ → Request
safety_control t = frame 4 t 6 false (0x82 ∷ 0x15 ∷ 3 ∷ 0 ∷ 0 ∷ 0 ∷ 0 ∷ 0 ∷ [])

abbrev safety_state : ℕ → Request
safety_state t = frame 4 t 7 false (0x82 ∷ 0x15 ∷ 3 ∷ 3 ∷ 3 ∷ 0 ∷ 0 ∷ 0 ∷ [])

abbrev probes : ℕ → Request
probes t = frame 4 t 8 false (0xFE ∷ 0x70 ∷ 0x7F ∷ 0xFC ∷ 0 ∷ 0 ∷ 0 ∷ 0 ∷ [])

abbrev set_up : Request
set_up = setUp 0 4 limits

-- post 0 with a sensor kind by its number
abbrev sensing : ℕ → Request
sensing n = setUp 0 4 (limits_with n)

-- post 0 with an interface by its number
abbrev reading : ℕ → Request
reading n = setUp 0 4 (limits_on n)

-- frames of 001 on channel 4: Power_Modules_Status (Allowed) by the two bytes of voltage and current and the insulation, Power_Modules_Limits by those of
-- Maximum_Current, New_Charge_Session by its first three bytes, Charging_Loop at 0 V and 0 A, Emergency_Stop
abbrev older_status : ℕ → ℕ → ℕ → ℕ → ℕ → ℕ → Request
older_status t low high cl ch raw = frame 4 t 0x60010 true (low ∷ high ∷ cl ∷ ch ∷ 65 ∷ 65 ∷ 1 ∷ raw ∷ [])

abbrev older_limits : ℕ → ℕ → ℕ → Request
older_limits t low high = frame 4 t 0x60011 true (0 ∷ 0 ∷ low ∷ high ∷ 0 ∷ 0 ∷ 0 ∷ 0 ∷ [])

abbrev older_session : ℕ → ℕ → ℕ → ℕ → Request
older_session t protocol plug next = frame 4 t 0x68001 true (protocol ∷ plug ∷ next ∷ 0 ∷ 0 ∷ 0 ∷ 0 ∷ 0 ∷ [])

abbrev charging : ℕ → Request
charging t = frame 4 t 0x68005 true (0 ∷ 0 ∷ 0 ∷ 0 ∷ 0 ∷ [])

abbrev older_stop : ℕ → Request
older_stop t = frame 4 t 0x68006 true (1 ∷ [])

-- a frame of each of the rest of 000's on channel 4, all of their bytes 0
abbrev zero_frame : ℕ → ℕ → ℕ → Request
zero_frame t m n = frame 4 t m true (replicate n 0)

abbrev rest : ℕ → List Request
rest t =
    zero_frame t 0x63002 3 ∷ zero_frame t 0x63201 8 ∷ zero_frame t 0x6b100 6 ∷ zero_frame t 0x6b101 6 ∷ zero_frame t 0x6b102 8 ∷ zero_frame t 0x6b103 8 ∷ zero_frame t 0x6b104 6
    ∷ zero_frame t 0x6b200 8 ∷ zero_frame t 0x6b201 8 ∷ zero_frame t 0x6b202 8 ∷ zero_frame t 0x6b203 8 ∷ zero_frame t 0x6b204 8 ∷ zero_frame t 0x6b300 2 ∷ []

abbrev rest_count : ℕ
rest_count = 13

abbrev e1to7 : List messages.Case → List Case → List Case
e1to7 [] rest = rest
e1to7 (c ∷ cs) rest = codec c ∷ e1to7 cs rest

abbrev pub e8to13 : List Case
e8to13 =
    -- E8: under precharge, voltage raw 5000: insulation raw 25 no F9, raw 24 F9
    answers (set_up ∷ session 0 ∷ status 10 0 0 255 ∷ control 20 0x88 0x13 0x04 ∷ status 30 0x88 0x13 25 ∷ status 40 0x88 0x13 24 ∷ [])
    (done ∷ found 0 ∷ found 0 ∷ found 0 ∷ found 0 ∷ found 256 ∷ [])
    -- E9: controller status at 1000: tick at 1200 answers 0, at 1201 answers 2
    ∷ answers (set_up ∷ controller 1000 ∷ tick 4 1200 ∷ tick 4 1201 ∷ []) (done ∷ found 0 ∷ found 0 ∷ found 2 ∷ [])
    -- E10: W 500, session opened at 0, no controller status: tick at 500 answers 0; Power_Modules_Status at 501, all else in order, 1; tick at 1001 0;
    -- tick at 1002 1
    ∷ answers (set_up ∷ session 0 ∷ tick 4 500 ∷ status 501 0 0 255 ∷ tick 4 1001 ∷ tick 4 1002 ∷ []) (done ∷ found 0 ∷ found 0 ∷ found 1 ∷ found 0 ∷ found 1 ∷ [])
    -- E11: closed contactors and power transfer before any session, target within limit, no lowering: 12
    ∷ answers (set_up ∷ control 0 0x88 0x13 0x48 ∷ []) (done ∷ found 12 ∷ [])
    -- E12: post 0 on channel 4: post 1 on 4 gets 11; post 0 on 4 again is accepted with an empty record
    ∷ answers (set_up ∷ tick 4 100 ∷ setUp 1 4 limits ∷ set_up ∷ []) (done ∷ found 0 ∷ set (Err ChannelTaken) ∷ done ∷ [])
    ∷ shows (set_up ∷ tick 4 100 ∷ setUp 1 4 limits ∷ set_up ∷ []) 0 (record { answer = Ok tt; shown = empty_record })
    -- E13: default 5000: Maximum_Voltage 0 or 6000 gives 5000, 4000 gives 4000; target 4001 then has F7 (standby, so that nothing else is found)
    ∷ answers (set_up ∷ parameters 0 0 0 ∷ control 1 0x88 0x13 1 ∷ control 2 0x89 0x13 1 ∷ []) (done ∷ found 0 ∷ found 0 ∷ found 64 ∷ [])
    ∷ answers (set_up ∷ parameters 0 0x70 0x17 ∷ control 1 0x88 0x13 1 ∷ control 2 0x89 0x13 1 ∷ []) (done ∷ found 0 ∷ found 0 ∷ found 64 ∷ [])
    ∷ answers (set_up ∷ parameters 0 0xA0 0x0F ∷ control 1 0xA0 0x0F 1 ∷ control 2 0xA1 0x0F 1 ∷ []) (done ∷ found 0 ∷ found 0 ∷ found 64 ∷ [])
    -- E14: after time 100: 99 gets 2, 100 is accepted; an unknown identifier at 99 gets 2 too, the lowest number that applies, and at 100 it gets 3
    ∷ answers (set_up ∷ tick 4 100 ∷ tick 4 99 ∷ tick 4 100 ∷ frame 4 99 0x63003 true (0 ∷ []) ∷ frame 4 100 0x63003 true (0 ∷ []) ∷ [])
    (done ∷ found 0 ∷ fed (Err Earlier) ∷ found 0 ∷ fed (Err Earlier) ∷ fed (Err UnknownIdentifier) ∷ [])
    -- 02, Req 09: "after 4,294,967,290 a time of 5 is accepted, 11 ms later", and 4,294,967,290 again is earlier; the first time after a set-up may be any
    ∷ answers (set_up ∷ tick 4 4294967290 ∷ tick 4 5 ∷ tick 4 4294967290 ∷ set_up ∷ tick 4 4294967290 ∷ []) (done ∷ found 0 ∷ found 0 ∷ fed (Err Earlier) ∷ done ∷ found 0 ∷ [])
    ∷ dates (set_up ∷ probes 4294967290 ∷ tick 4 5 ∷ []) 0 probes_kind (4294967290, 11)
    -- a wrapped difference of 2^31 - 1 is later, one of 2^31 earlier
    ∷ answers (set_up ∷ tick 4 7 ∷ tick 4 2147483655 ∷ tick 4 2147483654 ∷ tick 4 6 ∷ []) (done ∷ found 0 ∷ fed (Err Earlier) ∷ found 0 ∷ fed (Err Earlier) ∷ [])
    -- F1 at 500 and 501 ms across the round, F2 at 200 and 201
    ∷ answers (set_up ∷ session 4294967290 ∷ tick 4 494 ∷ tick 4 495 ∷ []) (done ∷ found 0 ∷ found 0 ∷ found 1 ∷ [])
    ∷ answers (set_up ∷ controller 4294967290 ∷ tick 4 194 ∷ tick 4 195 ∷ []) (done ∷ found 0 ∷ found 0 ∷ found 2 ∷ [])
    -- "F1 and F2 read unrolled times .. and never come round": a round and 100 ms after the controller's status, and the age has stopped growing
    ∷ answers (set_up ∷ controller 0 ∷ tick 4 2147483647 ∷ tick 4 4294967294 ∷ tick 4 100 ∷ []) (done ∷ found 0 ∷ found 2 ∷ found 2 ∷ found 2 ∷ [])
    ∷ dates (set_up ∷ probes 0 ∷ tick 4 2147483647 ∷ tick 4 4294967294 ∷ []) 0 probes_kind (0, 4294967294)
    ∷ dates (set_up ∷ probes 0 ∷ tick 4 2147483647 ∷ tick 4 4294967294 ∷ tick 4 100 ∷ []) 0 probes_kind (0, 4294967295)
    -- each post has a clock of its own, and a frame goes to the post that holds its channel: the session of post 0 opens at 501, whatever post 1 hears
    ∷ answers (set_up ∷ setUp 1 9 limits ∷ tick 9 700 ∷ session 501 ∷ tick 9 1300 ∷ tick 4 1001 ∷ tick 4 1002 ∷ []) (done ∷ done ∷ found 0 ∷ found 0 ∷ found 0 ∷ found 0 ∷ found 1 ∷ [])
    -- 11 before 12
    ∷ answers (set_up ∷ setUp 1 4 (limits_with 2) ∷ setUp 1 5 (limits_with 2) ∷ []) (done ∷ set (Err ChannelTaken) ∷ set (Err LimitOutside) ∷ [])
    -- 01: "Release frees the channel and drops the record"; 14 for a post that is not set up
    ∷ answers (set_up ∷ release 0 ∷ tick 4 6 ∷ release 0 ∷ setUp 1 4 limits ∷ []) (done ∷ done ∷ fed (Err ChannelFree) ∷ set (Err NotSetUp) ∷ done ∷ [])
    ∷ shows (set_up ∷ release 0 ∷ []) 0 (not_found NotSetUp)
    -- 02, Req 13: 9 begins at 16 in set-up, release and look-up; 8 and 15 are posts
    ∷ answers (setUp 16 4 limits ∷ setUp 15 4 limits ∷ setUp 8 5 limits ∷ tick 4 1 ∷ tick 5 1 ∷ release 16 ∷ release 15 ∷ release 15 ∷ [])
    (set (Err NoSuchPost) ∷ done ∷ done ∷ found 0 ∷ found 0 ∷ set (Err NoSuchPost) ∷ done ∷ set (Err NotSetUp) ∷ [])
    ∷ shows (set_up ∷ []) 16 (not_found NoSuchPost)
    ∷ shows (set_up ∷ []) 15 (not_found NotSetUp)
    ∷ shows (setUp 15 4 limits ∷ []) 15 (record { answer = Ok tt; shown = empty_record })
    -- the index names the post that holds a channel; a second set-up on another channel and a release take the name away, a refused set-up does not,
    -- and the channel can be held by another post
    ∷ names (set_up ∷ setUp 15 9 limits ∷ []) 4 1
    ∷ names (set_up ∷ setUp 15 9 limits ∷ []) 9 16
    ∷ names (set_up ∷ setUp 15 9 limits ∷ []) 5 0
    ∷ names (set_up ∷ setUp 0 31 limits ∷ []) 4 0
    ∷ names (set_up ∷ setUp 0 31 limits ∷ []) 31 1
    ∷ names (set_up ∷ set_up ∷ setUp 1 4 limits ∷ setUp 0 5 (limits_with 2) ∷ []) 4 1
    ∷ names (set_up ∷ setUp 0 5 limits ∷ setUp 1 4 limits ∷ []) 4 2
    ∷ names (set_up ∷ release 0 ∷ []) 4 0
    ∷ names (set_up ∷ release 0 ∷ setUp 3 4 limits ∷ tick 4 7 ∷ tick 5 7 ∷ []) 4 4
    ∷ answers (set_up ∷ setUp 0 5 limits ∷ tick 4 1 ∷ tick 5 1 ∷ setUp 1 4 limits ∷ tick 4 0 ∷ []) (done ∷ done ∷ fed (Err ChannelFree) ∷ found 0 ∷ done ∷ found 0 ∷ [])
    -- 02, Req 02: the watch hands the start bit on, "lowest start first"; a byte too few is 4, one too many 15
    ∷ answers (set_up ∷ frame 4 0 0x6b001 true (8 ∷ 5 ∷ []) ∷ frame 4 0 0x6b001 true (2 ∷ 5 ∷ []) ∷ frame 4 0 0x6b001 true (8 ∷ []) ∷ frame 4 0 0x6b001 true (8 ∷ 5 ∷ 0 ∷ []) ∷ [])
    (done ∷ fed (Err (NoLabel 0)) ∷ fed (Err (NoLabel 8)) ∷ fed (Err TooShort) ∷ fed (Err TooLong) ∷ [])
    -- 02, Req 03: under precharge at 0 V raw 0 and raw 1 have no F9 on a measuring post, which has it at raw 24 of voltage raw 5000
    ∷ answers (sensing 0 ∷ session 0 ∷ control 10 0x88 0x13 0x01 ∷ status 20 0 0 0 ∷ control 30 0x88 0x13 0x04 ∷ status 40 0 0 0 ∷ status 50 0 0 1 ∷ status 60 0x88 0x13 24 ∷ [])
    (done ∷ found 0 ∷ found 0 ∷ found 0 ∷ found 0 ∷ found 0 ∷ found 0 ∷ found 256 ∷ [])
    -- on a yes/no post raw 0 has F9 at 0 V and at raw 5000, raw 1 at neither; under standby raw 0 has none
    ∷ answers (sensing 1 ∷ session 0 ∷ control 10 0x88 0x13 0x01 ∷ status 20 0 0 0 ∷ control 30 0x88 0x13 0x04 ∷ status 40 0 0 0 ∷ status 50 0 0 1 ∷ status 60 0x88 0x13 0 ∷ status 70 0x88 0x13 1 ∷ [])
    (done ∷ found 0 ∷ found 0 ∷ found 0 ∷ found 0 ∷ found 256 ∷ found 0 ∷ found 256 ∷ found 0 ∷ [])
    -- a number that is no sensor kind gets 12, and the post stays as it was
    ∷ answers (sensing 1 ∷ session 0 ∷ status 10 0 0 255 ∷ control 20 0x88 0x13 0x04 ∷ sensing 2 ∷ status 30 0 0 0 ∷ [])
    (done ∷ found 0 ∷ found 0 ∷ found 0 ∷ set (Err LimitOutside) ∷ found 256 ∷ [])
    ∷ senses (sensing 1 ∷ sensing 2 ∷ []) 0 YesNo
    -- the record shows the kind of the latest set-up
    ∷ senses (sensing 0 ∷ sensing 1 ∷ []) 0 YesNo
    ∷ senses (sensing 1 ∷ sensing 0 ∷ []) 0 Measuring
    -- 02, Req 04: the safety controller's frames "raise only F1 and F2": nothing with no session open, though contactors are closed;
    -- F2 with a late controller; F1 in a silent session
    ∷ answers (set_up ∷ safety_control 0 ∷ safety_state 10 ∷ probes 20 ∷ []) (done ∷ found 0 ∷ found 0 ∷ found 0 ∷ [])
    ∷ answers (set_up ∷ controller 1000 ∷ safety_state 1200 ∷ safety_control 1201 ∷ safety_state 1201 ∷ probes 1201 ∷ []) (done ∷ found 0 ∷ found 0 ∷ found 2 ∷ found 2 ∷ found 2 ∷ [])
    ∷ answers (set_up ∷ session 0 ∷ safety_state 500 ∷ safety_control 501 ∷ safety_state 501 ∷ probes 501 ∷ []) (done ∷ found 0 ∷ found 0 ∷ found 1 ∷ found 1 ∷ found 1 ∷ [])
    -- a standard 9 and an extended 7 get 3, a bit that no signal covers 6
    ∷ answers (set_up ∷ frame 4 0 9 false (0x82 ∷ 0x15 ∷ 0 ∷ 0 ∷ 0 ∷ 0 ∷ 0 ∷ 0 ∷ []) ∷ frame 4 0 7 true (0x82 ∷ 0x15 ∷ 3 ∷ 3 ∷ 3 ∷ 0 ∷ 0 ∷ 0 ∷ []) ∷ frame 4 0 7 false (0x82 ∷ 0x15 ∷ 3 ∷ 3 ∷ 3 ∷ 0 ∷ 0 ∷ 1 ∷ []) ∷ [])
    (done ∷ fed (Err UnknownIdentifier) ∷ fed (Err UnknownIdentifier) ∷ fed (Err UncoveredBit) ∷ [])
    -- the record shows each under its kind
    ∷ keeps (set_up ∷ safety_state 10 ∷ probes 20 ∷ []) 0 safety_state_kind
    (std.Some (dated.At 10 10
    (SafetyState
    (record {
      duty = 533;
      pwm = true;
      cp = cp.C;
      short = false;
      diode = false;
      pp = pp.Amps32;
      contactor1 = true;
      contactor2 = true;
      error1 = false;
      error2 = false;
      estop1 = false;
      estop2 = false;
      estop3 = false;
      imdabort = false;
      imdfailure = false;
    }))))
    ∷ keeps (set_up ∷ safety_state 10 ∷ probes 20 ∷ []) 0 probes_kind
    (std.Some (dated.At 20 0
    (Probes
    (record {
      temperature1 = negsuc 99;
      stopped1 = false;
      failed1 = false;
      temperature2 = pos 0x1FFF;
      stopped2 = false;
      failed2 = false;
      temperature3 = pos 0;
      stopped3 = false;
      failed3 = false;
      temperature4 = pos 0;
      stopped4 = false;
      failed4 = false;
    }))))
    -- 02, Req 08: what was refused counts for no post; F2 once, and F3 and F4 of one frame
    ∷ counts (set_up ∷ controller 1000 ∷ tick 4 1200 ∷ tick 4 1201 ∷ tick 4 1199 ∷ frame 4 1201 0x63003 true (0 ∷ []) ∷ []) 0 3 (0 ∷ 1 ∷ 0 ∷ 0 ∷ 0 ∷ 0 ∷ 0 ∷ 0 ∷ 0 ∷ 0 ∷ 0 ∷ 0 ∷ [])
    ∷ counts (set_up ∷ control 0 0x88 0x13 0x48 ∷ tick 4 1 ∷ []) 0 2 (0 ∷ 0 ∷ 1 ∷ 1 ∷ 0 ∷ 0 ∷ 0 ∷ 0 ∷ 0 ∷ 0 ∷ 0 ∷ 0 ∷ [])
    -- each post has counts of its own, and a second set-up makes them 0
    ∷ counts (set_up ∷ setUp 1 9 limits ∷ control 0 0x88 0x13 0x48 ∷ tick 9 1 ∷ []) 1 1 (0 ∷ 0 ∷ 0 ∷ 0 ∷ 0 ∷ 0 ∷ 0 ∷ 0 ∷ 0 ∷ 0 ∷ 0 ∷ 0 ∷ [])
    ∷ counts (set_up ∷ control 0 0x88 0x13 0x48 ∷ set_up ∷ []) 0 0 (0 ∷ 0 ∷ 0 ∷ 0 ∷ 0 ∷ 0 ∷ 0 ∷ 0 ∷ 0 ∷ 0 ∷ 0 ∷ 0 ∷ [])
    -- "of frames and ticks refused since it was made": 1, 2 and 3 count, a refused set-up and release do not
    ∷ turns-away (tick 4 0 ∷ set_up ∷ setUp 1 4 limits ∷ release 1 ∷ tick 4 100 ∷ tick 4 99 ∷ frame 4 100 0x63003 true (0 ∷ []) ∷ release 0 ∷ tick 4 101 ∷ []) 4
    -- 02, Req 11: an identifier that only the other interface has gets 29, before 4, 5, 6 and 15 and after 1 and 2; the exact identifier and its form count
    ∷ answers (reading 0 ∷ tick 4 10 ∷ older_status 10 0 0 0 0 255 ∷ frame 4 10 0x60010 true (0 ∷ []) ∷ frame 4 10 0x60012 true (0xFF ∷ 0xFF ∷ 0xFF ∷ []) ∷ frame 4 9 0x60010 true [] ∷ frame 4 10 0x60010 false [] ∷ frame 5 10 0x60010 true [] ∷ [])
    (done ∷ found 0 ∷ fed (Err OtherInterface) ∷ fed (Err OtherInterface) ∷ fed (Err OtherInterface) ∷ fed (Err Earlier) ∷ fed (Err UnknownIdentifier) ∷ fed (Err ChannelFree) ∷ [])
    ∷ answers (reading 1 ∷ tick 4 10 ∷ status 10 0 0 255 ∷ frame 4 10 0x63000 true [] ∷ frame 4 10 0x63003 true [] ∷ frame 4 10 0x60010 true (0 ∷ []) ∷ frame 4 10 0x60012 true (4 ∷ 0 ∷ 0 ∷ []) ∷ frame 4 10 0x68006 true (2 ∷ []) ∷ [])
    (done ∷ found 0 ∷ fed (Err OtherInterface) ∷ fed (Err OtherInterface) ∷ fed (Err UnknownIdentifier) ∷ fed (Err TooShort) ∷ fed (Err UncoveredBit) ∷ fed (Err (NoLabel 0)) ∷ [])
    -- 004's frames are accepted on posts of either
    ∷ answers (reading 1 ∷ safety_control 0 ∷ safety_state 10 ∷ probes 20 ∷ []) (done ∷ found 0 ∷ found 0 ∷ found 0 ∷ [])
    -- a number that is no interface gets 12, and the post stays as it was; the record shows the interface of the latest set-up
    ∷ answers (reading 1 ∷ reading 2 ∷ charging 0 ∷ reading 0 ∷ charging 1 ∷ []) (done ∷ set (Err LimitOutside) ∷ found 8 ∷ done ∷ fed (Err OtherInterface) ∷ [])
    ∷ reads-by (reading 0 ∷ reading 1 ∷ reading 2 ∷ []) 0 Older
    ∷ reads-by (reading 1 ∷ reading 0 ∷ []) 0 Newer
    -- with no session open F4 of each of the three functions, and neither F3 nor F7, whatever their numbers; F11; no finding of an Emergency_Stop
    ∷ answers (reading 1 ∷ frame 4 0 0x68002 true (0xFF ∷ 0xFF ∷ []) ∷ frame 4 1 0x68003 true (0xFF ∷ 0xFF ∷ 0xFF ∷ 0xFF ∷ []) ∷ charging 2 ∷ frame 4 3 0x68007 true (0 ∷ []) ∷ frame 4 4 0x68006 true (1 ∷ []) ∷ [])
    (done ∷ found 8 ∷ found 8 ∷ found 8 ∷ found 1024 ∷ found 0 ∷ [])
    -- New_Charge_Session has 8 bytes; F10 compares protocol and plug only; F5 until a status; F9 under Charging_Loop and precharge, and not under an
    -- insulation test
    ∷ answers (reading 1 ∷ frame 4 0 0x68001 true (2 ∷ 1 ∷ []) ∷ older_session 0 2 1 0 ∷ older_session 1 2 1 7 ∷ older_session 2 2 2 0 ∷ charging 3 ∷ older_status 4 0x88 0x13 0 0 25 ∷ charging 5 ∷ older_status 6 0x88 0x13 0 0 25
    ∷ older_status 7 0x88 0x13 0 0 24 ∷ frame 4 8 0x68002 true (0 ∷ 0 ∷ []) ∷ older_status 9 0x88 0x13 0 0 24 ∷ frame 4 10 0x68003 true (0 ∷ 0 ∷ 0 ∷ 0 ∷ []) ∷ older_status 11 0x88 0x13 0 0 24 ∷ [])
    (done ∷ fed (Err TooShort) ∷ found 0 ∷ found 0 ∷ found 512 ∷ found 16 ∷ found 0 ∷ found 0 ∷ found 0
    ∷ found 256 ∷ found 0 ∷ found 0 ∷ found 0 ∷ found 256 ∷ [])
    -- Power_Modules_Limits: 40.0 A is a charge limit, -0.1 A and 0 A are none, and 100.1 A is not above the default; the discharge limit is the default
    ∷ answers (reading 1 ∷ older_session 0 2 1 0 ∷ older_limits 1 0x90 1 ∷ older_status 2 0 0 0x90 1 255 ∷ older_status 3 0 0 0x91 1 255 ∷ older_limits 4 0xFF 0xFF ∷ older_status 5 0 0 0xE8 3 255 ∷ older_status 6 0 0 0xE9 3 255
    ∷ older_limits 7 0 0 ∷ older_status 8 0 0 0xE8 3 255 ∷ older_limits 9 0xE9 3 ∷ older_status 10 0 0 0xE9 3 255 ∷ older_limits 11 1 0 ∷ older_status 12 0 0 0x0C 0xFE 255 ∷ older_status 13 0 0 0x0B 0xFE 255 ∷ [])
    (done ∷ found 0 ∷ found 0 ∷ found 0 ∷ found 128 ∷ found 0 ∷ found 0 ∷ found 128
    ∷ found 0 ∷ found 0 ∷ found 0 ∷ found 128 ∷ found 0 ∷ found 0 ∷ found 128 ∷ [])
    -- F1 at 500 and 501 ms, F2 at 200 and 201 ms after 001's messages; a session closes at 001's Charge_Session_Finished
    ∷ answers (reading 1 ∷ older_session 0 2 1 0 ∷ tick 4 500 ∷ older_status 501 0 0 0 0 255 ∷ tick 4 1001 ∷ tick 4 1002 ∷ frame 4 1002 0x68007 true (0 ∷ []) ∷ tick 4 1003 ∷ [])
    (done ∷ found 0 ∷ found 0 ∷ found 1 ∷ found 0 ∷ found 1 ∷ found 1 ∷ found 0 ∷ [])
    ∷ answers (reading 1 ∷ frame 4 1000 0x68009 true (7 ∷ []) ∷ tick 4 1200 ∷ tick 4 1201 ∷ []) (done ∷ found 0 ∷ found 0 ∷ found 2 ∷ [])
    -- the record shows 001's messages, the latest of the three functions among them, at the places that 000's have on another post
    ∷ keeps (reading 1 ∷ charging 10 ∷ tick 4 12 ∷ []) 0 8 (std.Some (dated.OlderAt 10 2 (older.Charging (record { voltage = 0; current = pos 0; charge = 0 }))))
    ∷ keeps (reading 1 ∷ charging 10 ∷ reading 0 ∷ tick 4 12 ∷ []) 0 8 std.None
    ∷ in-session (reading 1 ∷ older_session 0 2 1 0 ∷ charging 1 ∷ frame 4 2 0x68003 true (1 ∷ 0 ∷ 2 ∷ 0 ∷ []) ∷ older_status 3 0 0 0 0 255 ∷ []) 0
    (Some (record { since = 0; age = 3; protocol = CcsIso15118v2013; plug = CcsDcExtended }))
    (std.Some (dated.OlderAt 3 0 (older.Status (record { voltage = 0; current = pos 0; modules = pos 25; enclosure = pos 25; enable = Allowed; insulation = 510 })))
    ∷ std.Some (dated.OlderAt 2 1 (older.Precharge (record { voltage = 1; current = 2 }))) ∷ std.None ∷ [])
    -- an old and a new post side by side: each by its own pages
    ∷ answers (reading 1 ∷ setUp 1 9 limits ∷ older_session 0 2 1 0 ∷ frame 9 0 0x6b001 true (2 ∷ 1 ∷ []) ∷ frame 9 1 0x68001 true (2 ∷ 1 ∷ 0 ∷ 0 ∷ 0 ∷ 0 ∷ 0 ∷ 0 ∷ []) ∷ session 1 ∷ charging 2 ∷ frame 9 2 0x6b003 true (0 ∷ 0 ∷ 0 ∷ 0 ∷ 0 ∷ 0 ∷ 0x48 ∷ []) ∷ [])
    (done ∷ done ∷ found 0 ∷ found 0 ∷ fed (Err OtherInterface) ∷ fed (Err OtherInterface) ∷ found 16 ∷ found 16 ∷ [])
    -- 02, Req 14: no F12 without a stop, nor of one before the opening, which has none of its own; with no session open F4 alone
    ∷ answers (set_up ∷ session 0 ∷ status 1 0 0 255 ∷ control 2 0x88 0x13 0x02 ∷ control 3 0x88 0x13 0x04 ∷ control 4 0x88 0x13 0x08 ∷ []) (done ∷ found 0 ∷ found 0 ∷ found 0 ∷ found 0 ∷ found 0 ∷ [])
    ∷ answers (set_up ∷ stop 0 1 ∷ control 1 0x88 0x13 0x08 ∷ session 2 ∷ status 3 0 0 255 ∷ control 4 0x88 0x13 0x08 ∷ []) (done ∷ found 0 ∷ found 8 ∷ found 0 ∷ found 0 ∷ found 0 ∷ [])
    -- after a stop in the session off and standby have none, and insulation test, precharge and power transfer have F12, also after a repeat of
    -- New_Charge_Session, and F5 beside it before Allowed
    ∷ answers (set_up ∷ session 0 ∷ stop 1 3 ∷ control 2 0x88 0x13 0x08 ∷ status 3 0 0 255 ∷ session 4 ∷ control 5 0x88 0x13 0x00 ∷ control 6 0x88 0x13 0x01 ∷ control 7 0x88 0x13 0x02 ∷ control 8 0x88 0x13 0x04 ∷ control 9 0x88 0x13 0x08 ∷ [])
    (done ∷ found 0 ∷ found 0 ∷ found 2064 ∷ found 0 ∷ found 0 ∷ found 0 ∷ found 0 ∷ found 2048 ∷ found 2048 ∷ found 2048 ∷ [])
    -- none once the session closed, and none in the next one; none of a stop that was refused
    ∷ answers (set_up ∷ session 0 ∷ status 1 0 0 255 ∷ stop 2 1 ∷ control 3 0x88 0x13 0x08 ∷ finished 4 ∷ control 5 0x88 0x13 0x08 ∷ session 6 ∷ status 7 0 0 255 ∷ control 8 0x88 0x13 0x08 ∷ [])
    (done ∷ found 0 ∷ found 0 ∷ found 0 ∷ found 2048 ∷ found 0 ∷ found 8 ∷ found 0 ∷ found 0 ∷ found 0 ∷ [])
    ∷ answers (set_up ∷ session 0 ∷ status 1 0 0 255 ∷ stop 2 2 ∷ control 3 0x88 0x13 0x08 ∷ []) (done ∷ found 0 ∷ found 0 ∷ fed (Err (NoLabel 0)) ∷ found 0 ∷ [])
    -- F11 once and F12 twice, each in its own tally
    ∷ counts (set_up ∷ session 0 ∷ status 1 0 0 255 ∷ stop 2 1 ∷ control 3 0x88 0x13 0x04 ∷ control 4 0x88 0x13 0x08 ∷ finished 5 ∷ finished 6 ∷ []) 0 7 (0 ∷ 0 ∷ 0 ∷ 0 ∷ 0 ∷ 0 ∷ 0 ∷ 0 ∷ 0 ∷ 0 ∷ 1 ∷ 2 ∷ [])
    -- the session's part keeps the latest stop; one before the opening, or of the session before, is none of it
    ∷ in-session (set_up ∷ session 0 ∷ stop 1 1 ∷ stop 3 3 ∷ tick 4 5 ∷ []) 0
    (Some (record { since = 0; age = 5; protocol = CcsIso15118v2013; plug = CcsDcExtended })) (std.None ∷ std.None ∷ std.Some (dated.At 3 2 (Stop (record { origin = Pev }))) ∷ [])
    ∷ in-session (set_up ∷ session 0 ∷ stop 1 1 ∷ finished 2 ∷ stop 3 3 ∷ session 4 ∷ []) 0
    (Some (record { since = 4; age = 0; protocol = CcsIso15118v2013; plug = CcsDcExtended })) (replicate kept_count std.None)
    ∷ in-session (set_up ∷ session 0 ∷ stop 1 1 ∷ finished 2 ∷ []) 0 None (replicate kept_count std.None)
    -- on an older post the three functions after its Emergency_Stop
    ∷ answers (reading 1 ∷ older_session 0 2 1 0 ∷ older_status 1 0 0 0 0 255 ∷ charging 2 ∷ older_stop 3 ∷ frame 4 4 0x68002 true (0 ∷ 0 ∷ []) ∷ frame 4 5 0x68003 true (0 ∷ 0 ∷ 0 ∷ 0 ∷ []) ∷ charging 6
    ∷ frame 4 7 0x68007 true (0 ∷ []) ∷ older_stop 8 ∷ older_session 9 2 1 0 ∷ older_status 10 0 0 0 0 255 ∷ charging 11 ∷ [])
    (done ∷ found 0 ∷ found 0 ∷ found 0 ∷ found 0 ∷ found 2048 ∷ found 2048 ∷ found 2048
    ∷ found 0 ∷ found 0 ∷ found 0 ∷ found 0 ∷ found 0 ∷ [])
    ∷ in-session (reading 1 ∷ older_session 0 2 1 0 ∷ older_stop 1 ∷ []) 0
    (Some (record { since = 0; age = 1; protocol = CcsIso15118v2013; plug = CcsDcExtended })) (std.None ∷ std.None ∷ std.Some (dated.OlderAt 1 0 (older.Stop (record { origin = Evse }))) ∷ [])
    -- 02, Req 14: the rest of 000's are accepted on a newer post with no finding, and get 29 on an older one; they raise F2 of a late controller, and F1 in a
    -- silent session, and nothing else
    ∷ answers (reading 0 ∷ rest 0) (done ∷ replicate rest_count (found 0))
    ∷ answers (reading 1 ∷ rest 0) (done ∷ replicate rest_count (fed (Err OtherInterface)))
    ∷ answers (set_up ∷ controller 1000 ∷ session 1000 ∷ rest 1201 ++ rest 1501) (done ∷ found 0 ∷ found 0 ∷ replicate rest_count (found 2) ++ replicate rest_count (found 3))
    -- a bit that no signal covers is 6, a byte too few 4, one too many 15, a number without a label 5; the identifiers beside them are unknown
    ∷ answers (set_up ∷ frame 4 0 0x63002 true (4 ∷ 0 ∷ 0 ∷ []) ∷ frame 4 0 0x6b202 true (0 ∷ 0 ∷ 0 ∷ 0 ∷ 0 ∷ 1 ∷ 0 ∷ 0 ∷ []) ∷ zero_frame 0 0x63002 2 ∷ zero_frame 0 0x6b300 3
    ∷ frame 4 0 0x6b203 true (1 ∷ replicate 7 0) ∷ frame 4 0 0x6b204 true (0 ∷ 4 ∷ replicate 6 0) ∷ zero_frame 0 0x6b106 6 ∷ zero_frame 0 0x63200 8 ∷ frame 4 0 0x6b300 false (0 ∷ 0 ∷ []) ∷ [])
    (done ∷ fed (Err UncoveredBit) ∷ fed (Err UncoveredBit) ∷ fed (Err TooShort) ∷ fed (Err TooLong)
    ∷ fed (Err (NoLabel 0)) ∷ fed (Err (NoLabel 8)) ∷ fed (Err UnknownIdentifier) ∷ fed (Err UnknownIdentifier) ∷ fed (Err UnknownIdentifier) ∷ [])
    -- the record shows each under its kind: a Sequence_Control, an EV_Information_Energy of -1, 2 and -32,768 kWh, and an OCPP_Control of -12.5 A
    ∷ keeps (set_up ∷ frame 4 10 0x63002 true (3 ∷ 5 ∷ 1 ∷ []) ∷ tick 4 12 ∷ []) 0 (place_by sequence_kind)
    (std.Some (dated.At 10 2 (Sequence (record { authorisation = permission.Allowed; chademo = button.Pressed; done = step.Done; valid = validity.Invalid; parameters = step.Done; stop = button.Pressed }))))
    ∷ keeps (set_up ∷ rest 5 ++ (frame 4 10 0x6b104 true (0xFF ∷ 0xFF ∷ 2 ∷ 0 ∷ 0 ∷ 0x80 ∷ []) ∷ tick 4 12 ∷ [])) 0 (place_by energy_kind) (std.Some (dated.At 10 2 (Energy (record { minimum = negsuc 0; target = pos 2; maximum = negsuc 32767 }))))
    ∷ keeps (set_up ∷ frame 4 10 0x6b300 true (0x83 ∷ 0xFF ∷ []) ∷ []) 0 (place_by ocpp_kind) (std.Some (dated.At 10 0 (Ocpp (record { target = negsuc 124 }))))
    ∷ []

abbrev pub table : List Case
table = e1to7 messages.table e8to13

-- the table with E1 to E7 in front
joined : (cs : List messages.Case) (rest : List Case) → messages.All cs → All rest → All (e1to7 cs rest)
joined [] rest a b = b
joined (c ∷ cs) rest a b = (a.0, joined cs rest a.1 b)

pub readings : All table
unfolding standing find_from holder other_holds feed01 set_up01 release01 look_up01 feed_steps set_up_steps release_steps limits_fit since_finished opening in_session earlier_in lowers_badly outside leaking bad_insulation differs session_status session_control session_stop limit_of f1 f2 f3 f4 f5 f6 f7 f8 f9 f10 f11 f12 findings01 record_as_of message_of built_of status_in parameters_in session_in control_in rows of_kind first_at covered unlabelled offender stray_below judged_number judge_on is_foreign judge_for role_of status_by opening_by limits_in limits_by command_by place_by dated_at olderBuilt.message_of olderBuilt.built_of wholes_of pad raws_of get_bits le_number be_number to_signed accepted tallies_of
readings = joined messages.table e8to13 messages.readings (refl, (refl, (refl, (refl, (refl, (refl, (refl, (refl, (refl, (refl, (refl, ((refl, refl), (refl, (refl, (refl, (refl, ((refl, refl), ((refl, refl), (refl, (refl, (refl, (refl, (refl, (refl, (refl, (refl, (refl, (refl, (refl, (refl, (refl, (refl, (refl, (refl, (refl, (refl, (refl, (refl, (refl, (refl, (refl, (refl, (refl, (refl, (refl, (refl, (refl, (refl, (refl, ((refl, refl), ((refl, refl), ((refl, refl), ((refl, refl), (refl, (refl, (refl, (refl, (refl, (refl, (refl, (refl, (refl, (refl, (refl, (refl, (refl, (refl, ((refl, refl), (refl, (refl, (refl, (refl, (refl, (refl, ((refl, refl), ((refl, refl), ((refl, refl), ((refl, refl), (refl, ((refl, refl), (refl, (refl, (refl, (refl, (refl, (refl, (refl, tt)))))))))))))))))))))))))))))))))))))))))))))))))))))))))))))))))))))))))))))))))))))))
