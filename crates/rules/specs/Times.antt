-- 02, Req 09: "The clock comes round." Times are received in 32 bits and start over after 49.7 days; "Demand 3's history uses the unrolled times",
-- which do not. Only `wrapped`, and with it "earlier" and the time of the next event, knows of it.
use Rattle.std.specs.Prelude.{ℕ, ◌+◌, ◌-◌, ◌%◌, min, ◌≡◌, [], ◌∷◌, Bool, false, leb}
use Rattle.rules.specs.History.{History, time_of}

-- a time of the history as it was received, in 32 bits
abbrev pub received_of : ℕ → ℕ
received_of t = t % 4294967296

-- "the wrapped difference": the ms from one time to another, by a clock that comes round
abbrev pub wrapped : ℕ → ℕ → ℕ
wrapped t from = (t + (4294967296 - received_of from)) % 4294967296

-- 2: "time earlier than that post's latest accepted frame or tick"; 02: "when the wrapped difference is 2^31 or more"
abbrev pub earlier : ℕ → ℕ → Bool
earlier t latest = leb 2147483648 (wrapped t latest)

-- the first event may have any time
unfoldable pub earlier_in : History → ℕ → Bool
earlier_in [] t = false
earlier_in (e ∷ h) t = earlier t (time_of e)

-- "otherwise it is that many ms later": where an event that is received at t stands in the history, the first one at its own time
abbrev pub stamp_of : History → ℕ → ℕ
stamp_of [] t = received_of t
stamp_of (e ∷ h) t = time_of e + wrapped t (time_of e)

-- what is 0 for no history
abbrev pub latest_time : History → ℕ
latest_time [] = 0
latest_time (e ∷ h) = time_of e

-- the ms from one time of the history to a later one: "F1 and F2 read unrolled times"
abbrev pub elapsed : ℕ → ℕ → ℕ
elapsed now from = now - from

-- "an age stops growing at 4,294,967,295"
abbrev pub age_of : ℕ → ℕ → ℕ
age_of now from = min (elapsed now from) 4294967295

-- ---- what accepting one event after the other leaves

-- each event stands where its time as received puts it, and was not earlier
abbrev pub Unrolled : History → Type 0
Unrolled [] = Unit {0}
Unrolled (e ∷ h) = (time_of e ≡ stamp_of h (received_of (time_of e))) × (earlier_in h (received_of (time_of e)) ≡ false) × Unrolled h
