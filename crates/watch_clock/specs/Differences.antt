-- A list of times as received, by its first time and its wrapped differences; and a history but for its times.
use Rattle.std.specs.Prelude.{ℕ, ◌+◌, ◌≡◌, List, [], ◌∷◌, map}
use Rattle.std.proofs.Math.Option.{Option, none, some}
use Rattle.rules.specs.History.{Event, frame, tick, History, time_of}
use Rattle.rules.specs.Times.{received_of, wrapped}

-- ---- over times as received, newest first, and nothing else

-- each time's wrapped difference from the one before it
abbrev pub differences_to : ℕ → List ℕ → List ℕ
differences_to t [] = []
differences_to t (s ∷ ts) = wrapped t s ∷ differences_to s ts

abbrev pub differences : List ℕ → List ℕ
differences [] = []
differences (t ∷ ts) = differences_to t ts

abbrev pub total : List ℕ → ℕ
total [] = 0
total (n ∷ ns) = n + total ns

-- the first that was received
abbrev pub first_before : ℕ → List ℕ → ℕ
first_before t [] = t
first_before t (s ∷ ts) = first_before s ts

abbrev pub first_of : List ℕ → ℕ
first_of [] = 0
first_of (t ∷ ts) = first_before t ts

-- ---- of a history

abbrev pub received : History → List ℕ
received h = map (λ e. received_of (time_of e)) h

-- a frame's kind and payload number
abbrev pub said_by : Event → Option (ℕ × ℕ)
said_by (frame t k raw) = some (k, raw)
said_by (tick t) = none

abbrev pub said : History → List (Option (ℕ × ℕ))
said h = map said_by h

-- the same events, each received after the same difference
abbrev pub InStep : History → History → Type 0
InStep h g = (said h ≡ said g) × (differences (received h) ≡ differences (received g))
