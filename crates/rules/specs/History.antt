-- A post's history: its accepted frames and ticks since its latest accepted set-up, the newest first, and what is read by looking back over it.
use Rattle.std.specs.Prelude.{ℕ, zero, suc, List, [], ◌∷◌, cond, eqb}
use Rattle.std.proofs.Math.Option.{Option, none, some}
use Rattle.rule_pages.specs.declared.Role.{Role}
use Rattle.rule_pages.specs.declared.Role.TheVariants.{Other, Status, Limits, Controller, Opening, Command, Finished, Stop}
use Rattle.rule_pages.specs.Roles.{role_of}

-- a frame by its time, its kind and its payload number (its message is that of the two), or a tick
pub data Event : Type 0 where
  frame : ℕ → ℕ → ℕ → Event
  tick : ℕ → Event

abbrev pub History : Type 0
History = List Event

abbrev pub time_of : Event → ℕ
time_of (frame t k raw) = t
time_of (tick t) = t

-- ---- looking back

-- the first answer of two
abbrev pub first : {A : Type 0} → Option A → Option A → Option A
first none b = b
first (some a) b = some a

-- what p says of the newest event that it says something of, and of the oldest
abbrev pub newest : {E A : Type 0} → (E → Option A) → List E → Option A
newest p [] = none
newest p (e ∷ h) = first (p e) (newest p h)

abbrev pub oldest : {E A : Type 0} → (E → Option A) → List E → Option A
oldest p [] = none
oldest p (e ∷ h) = first (oldest p h) (p e)

abbrev pub unless : {E A : Type 0} → Option A → List E → List E
unless none h = h
unless (some a) h = []

abbrev pub only_if : {E A : Type 0} → Option A → List E → List E
only_if none h = []
only_if (some a) h = h

-- what came after the newest such event: everything, where there is none
abbrev pub since_newest : {E A : Type 0} → (E → Option A) → List E → List E
since_newest p [] = []
since_newest p (e ∷ h) = unless (p e) (e ∷ since_newest p h)

-- what came after the oldest such event: nothing, where there is none
abbrev pub after_oldest : {E A : Type 0} → (E → Option A) → List E → List E
after_oldest p [] = []
after_oldest p (e ∷ h) = only_if (oldest p h) (e ∷ after_oldest p h)

-- what a frame said, and when
pub record Said : Type 0 where
  pub time : ℕ
  pub kind : ℕ
  pub raw : ℕ

abbrev pub said_at : ℕ → ℕ → ℕ → Said
said_at t k raw = record { time = t; kind = k; raw = raw }

-- a frame of the kind k
abbrev pub of_kind : ℕ → Event → Option Said
of_kind k (frame t j raw) = cond (eqb j k) (some (said_at t j raw)) none
of_kind k (tick t) = none

-- ---- what the rules ask of an event, whichever interface's pages its frame was read by

abbrev pub role_number : Role → ℕ
role_number Other = 0
role_number Status = 1
role_number Limits = 2
role_number Controller = 3
role_number Opening = 4
role_number Command = 5
role_number Finished = 6
role_number Stop = 7

-- a frame that answers the question r
abbrev pub asked : Role → Event → Option Said
asked r (frame t k raw) = cond (eqb (role_number r) (role_number (role_of k))) (some (said_at t k raw)) none
asked r (tick t) = none

-- "Power_Modules_Status"
abbrev pub status_of : Event → Option Said
status_of = asked Status

-- "DC_Power_Control"; 02, Req 11: Insulation_Test, Precharge and Charging_Loop
abbrev pub command_of : Event → Option Said
command_of = asked Command

-- "DC_Power_Parameters"; 02, Req 11: Power_Modules_Limits
abbrev pub limits_told : Event → Option Said
limits_told = asked Limits

-- "a controller status"
abbrev pub controller_of : Event → Option Said
controller_of = asked Controller

-- "New_Charge_Session"
abbrev pub opening_of : Event → Option Said
opening_of = asked Opening

-- "Charge_Session_Finished"
abbrev pub finished_of : Event → Option Said
finished_of = asked Finished

-- 02, Req 14: "an Emergency_Stop"
abbrev pub stop_of : Event → Option Said
stop_of = asked Stop

-- ---- the session

-- 01: "A session opens at a New_Charge_Session accepted while none is open, and closes at Charge_Session_Finished.
-- Repeats of New_Charge_Session .. do not open it anew."
-- So it opened at the first New_Charge_Session since the latest Charge_Session_Finished, and the session's events are those after it.
unfoldable pub since_finished : History → History
since_finished h = since_newest finished_of h

unfoldable pub opening : History → Option Said
opening h = oldest opening_of (since_finished h)

unfoldable pub in_session : History → History
in_session h = after_oldest opening_of (since_finished h)

-- ---- numbers in a row

-- k, k + 1 and on, n numbers
abbrev pub count_from : ℕ → ℕ → List ℕ
count_from k zero = []
count_from k (suc n) = k ∷ count_from (suc k) n
