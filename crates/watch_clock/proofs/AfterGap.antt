-- An event after a gap: less than half a round, it is accepted and stands so many ms later; longer than W and 200 ms, a tick has F1 and F2.
use Prim.Native.Nat.{ℕ, ◌+◌, ◌<◌, ◌≤◌}
use native.Mathlib.Omega.{arith}
use mathlib.Core.Path.{◌≡◌, refl, ap, ap₂, ◌∙◌}
use mathlib.Core.List.{◌∷◌}
use mathlib.Core.Bool.{Bool, false}
use mathlib.Core.Option.{Option, none, some}
use lib.Dec.{ltb, leb}
use borrow.Author.Tests.{lt-ltb, lt-leb}
use Rattle.rule_limits.specs.declared.PlainLimits.{PlainLimits}
use Rattle.rule_asks.specs.Judgements.{bit}
use Rattle.rule_pages.specs.declared.Role.TheVariants.{Controller}
use Rattle.rules.specs.History.{Event, tick, History, Said, time_of, newest, controller_of, opening}
use Rattle.rules.specs.Times.{received_of, wrapped, earlier_in, stamp_of, latest_time, elapsed}
use Rattle.rules.specs.Rules.{ask, is_open, session_status, later_time, f1, f2, findings01}
use Rattle.rules.proofs.Unasked.{only_f1_f2}
use Rattle.watch_clock.specs.Later.{Rising, NoneAfter, FoundBy}
use Rattle.watch_clock.proofs.Later.{role_timely}
use Rattle.watch_clock.proofs.Wrapped.{wrapped_to, wrapped_sum}
use Rattle.watch_clock.proofs.Rising.{none_after, newest_by, opening_by_lem, status_by_lem}

-- ---- an event that is received less than 2^31 ms after the latest stands so many ms behind it, and is not earlier

module _ (e : Event) (h : History) (gap : ℕ) (half : gap < 2147483648) where
  gap-wrapped : wrapped (received_of (time_of e + gap)) (time_of e) ≡ gap
  gap-wrapped = wrapped_to (time_of e + gap) (time_of e) ∙ wrapped_sum (time_of e) gap (omega (arith, half))

  pub stamp_after : stamp_of (e ∷ h) (received_of (time_of e + gap)) ≡ time_of e + gap
  stamp_after = ap (λ (n : ℕ). time_of e + n) gap-wrapped

  pub not_earlier : earlier_in (e ∷ h) (received_of (time_of e + gap)) ≡ false
  unfolding earlier_in
  not_earlier = ap (leb 2147483648) gap-wrapped ∙ lt-leb 2147483648 gap half

-- ---- a tick after a gap that is longer than W and 200 ms: F1 where a session is open, F2 where a controller's status was heard

module _ (lim : PlainLimits) (h : History) (gap : ℕ) (up : Rising h) where
  none-later : NoneAfter (latest_time h) h
  none-later = none_after (latest_time h) h up (omega arith)

  f2-after : 200 < gap → (e : Event) → time_of e ≡ latest_time h + gap → f2 lim h e ≡ is_open (newest controller_of h)
  unfolding f2
  f2-after long e at = rw at (go (newest controller_of h) (newest_by (latest_time h) controller_of (role_timely Controller) h none-later))
    where
      go : (o : Option Said) → FoundBy (latest_time h) o → ask o (λ c. ltb 200 (elapsed (latest_time h + gap) c.time)) ≡ is_open o
      go none by = refl
      go (some m) by = lt-ltb 200 (elapsed (latest_time h + gap) m.time) (omega (arith, by, long))

  later-by : (now o : ℕ) (s : Option Said) → o ≤ now → FoundBy now s → later_time o s ≤ now
  later-by now o none lo ls = lo
  later-by now o (some s) lo ls = omega (arith, lo, ls)

  f1-after : lim.silence < gap → (e : Event) → time_of e ≡ latest_time h + gap → f1 lim h e ≡ is_open (opening h)
  unfolding f1
  f1-after long e at = rw at (go (opening h) (opening_by_lem (latest_time h) h none-later))
    where
      go : (o : Option Said) → FoundBy (latest_time h) o
          → ask o (λ p. ltb lim.silence (elapsed (latest_time h + gap) (later_time p.time (session_status h)))) ≡ is_open o
      go none by = refl
      go (some o) by =
          lt-ltb lim.silence (elapsed (latest_time h + gap) (later_time o.time (session_status h)))
          (omega (arith, long, later-by (latest_time h) o.time (session_status h) by (status_by_lem (latest_time h) h none-later)))

  pub findings_after : lim.silence < gap → 200 < gap
      → findings01 lim h (tick (latest_time h + gap)) ≡ bit (is_open (opening h)) 1 + bit (is_open (newest controller_of h)) 2
  findings_after silent late =
      only_f1_f2 lim h (tick (latest_time h + gap)) (refl, refl, refl, refl)
      ∙ ap₂ (λ (a b : Bool). bit a 1 + bit b 2) (f1-after silent (tick (latest_time h + gap)) refl) (f2-after late (tick (latest_time h + gap)) refl)
