-- 02, Req 12: a silence of the power modules while ticks come often enough.
use Rattle.std.specs.Prelude.{ℕ, ◌+◌, ◌≤◌, ◌<◌, ◌≡◌, [], ◌∷◌, true}
use Rattle.std.proofs.Math.Option.{some}
use Rattle.rule_limits.specs.declared.PlainLimits.{PlainLimits}
use Rattle.rules.specs.History.{Event, frame, tick, History, Said, time_of, opening, in_session}
use Rattle.rules.specs.Rules.{later_time, session_status, f1}

-- "ticks come at most 100 ms apart"
abbrev pub apart : ℕ
apart = 100

-- from the time `from` to the time `to` ticks come at most `most` ms apart, the first within `most` ms of the one and the last within `most` ms of the other
abbrev pub TickedWithin : ℕ → ℕ → ℕ → History → Type 0
TickedWithin most from to [] = to ≤ from + most
TickedWithin most from to (frame t k raw ∷ h) = TickedWithin most from to h
TickedWithin most from to (tick t ∷ h) = (to ≤ t + most) × TickedWithin most from t h

abbrev pub Ticked : ℕ → ℕ → History → Type 0
Ticked from to h = TickedWithin apart from to h

-- since when the power modules of a session that opened at o are silent, "counted as F1 counts it": the later of the opening and their latest status in it
abbrev pub quiet_from : ℕ → History → ℕ
quiet_from o h = later_time o (session_status h)

-- An event after h ends a silence since b: the next Power_Modules_Status of the session that opened at o, or the session's last event, or any in between;
-- and ticks came often enough since the opening.
-- 02 speaks of a silence "longer than W + 100": it need but be longer than W, since the event that ends it is judged too.
pub record Silent (lim : PlainLimits) (o : Said) (b : ℕ) (h : History) (e : Event) : Type 0 where
  pub opened : opening h ≡ some o
  pub since : quiet_from o.time h ≡ b
  pub ticked : Ticked o.time (time_of e) (in_session h)
  pub long : b + lim.silence < time_of e

-- an event after h has F1 for that silence, "after the silence passed W" and "no more than 100 ms after" that
pub record Told (lim : PlainLimits) (o : Said) (b : ℕ) (h : History) (e : Event) : Type 0 where
  pub opened : opening h ≡ some o
  pub since : quiet_from o.time h ≡ b
  pub finds : f1 lim h e ≡ true
  pub passed : b + lim.silence < time_of e
  pub soon : time_of e ≤ b + lim.silence + apart

-- of some event of a history, over what came before it
pub data Some (P : History → Event → Type 0) : History → Type 0 where
  here : {e : Event} {h : History} → P h e → Some P (e ∷ h)
  there : {e : Event} {h : History} → Some P h → Some P (e ∷ h)
