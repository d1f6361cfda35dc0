-- A silence that the ticks bring out: the first tick after it passed W has F1, and comes in time.
use Prim.Native.Nat.{ℕ, ◌+◌, ◌-◌, ◌<◌, ◌≤◌, max}
use native.Mathlib.Omega.{arith}
use mathlib.Core.Path.{◌≡◌, refl, sym, ap, subst, ◌∙◌}
use mathlib.Core.List.{[], ◌∷◌}
use mathlib.Core.Bool.{Bool, true, false}
use mathlib.Core.Option.{Option, none, some}
use lib.Dec.{ltb}
use borrow.Author.Tests.{lt-ltb, ltb-true, ltb-false}
use Rattle.rule_pages.specs.declared.Role.TheVariants.{Status}
use Rattle.rule_limits.specs.declared.PlainLimits.{PlainLimits}
use Rattle.rules.specs.History.{Event, frame, tick, History, Said, said_at, first, time_of, status_of, opening_of, finished_of, since_finished, opening, in_session}
use Rattle.rules.specs.Times.{Unrolled}
use Rattle.rules.specs.Rules.{session_status, later_time, f1}
use Rattle.watch_clock.specs.Later.{Timely, Rising, NoneAfter}
use Rattle.watch_clock.proofs.Later.{role_timely}
use Rattle.watch_clock.proofs.Rising.{rising, none_after, session_by_lem}
use Rattle.watch_ticks.specs.Silence.{apart, Ticked, quiet_from, Silent, Told, Some, here, there}

nothing : {A : Type 0} {a : A} → none ≡ some a → ⊥
nothing q = let z : ◌≡◌ {A = ℕ} 0 1 = cc in omega (arith, z)

-- ---- an open session, one event back: that event opened it, or it is the latest of the session's events

data Before (x : Event) (h : History) (o : Said) : Type 0 where
  opens : in_session (x ∷ h) ≡ [] → Before x h o
  stays : opening h ≡ some o → in_session (x ∷ h) ≡ x ∷ in_session h → Before x h o

before : (x : Event) (h : History) (o : Said) → opening (x ∷ h) ≡ some o → Before x h o
unfolding opening in_session since_finished
before x h o op = by-finish (finished_of x) refl
  where
    by-opening : finished_of x ≡ none → (p : Option Said) → opening h ≡ p → first p (opening_of x) ≡ some o → Before x h o
    by-opening fin none q r = opens (rw (fin, q))
    by-opening fin (some p) q r = stays (q ∙ r) (rw (fin, q))

    by-finish : (f : Option Said) → finished_of x ≡ f → Before x h o
    by-finish none fin = by-opening fin (opening h) refl (let z : opening (x ∷ h) ≡ first (opening h) (opening_of x) = rw fin in sym z ∙ op)
    by-finish (some f) fin = absurd (nothing (let z : opening (x ∷ h) ≡ none = rw fin in sym z ∙ op))

-- ---- how far the ticks reach

-- no further than 100 ms past the latest event
reach : (m : History) (from to now : ℕ) → NoneAfter now m → Ticked from to m → to ≤ max from now + apart
reach [] from to now none-later ticked = omega (arith, ticked)
reach (frame t k raw ∷ m) from to now none-later ticked = reach m from to now none-later.1 ticked
reach (tick t ∷ m) from to now none-later ticked = omega (arith, ticked.0, none-later.0)

-- a status has the time of its event
own_time : (asked : Event → Option Said) → Timely asked → (t k raw : ℕ) (m : Said) → asked (frame t k raw) ≡ some m → m.time ≡ t
own_time asked timely t k raw m q =
    let z : some m ≡ some (said_at t m.kind m.raw) = sym q ∙ timely (λ s. t) (frame t k raw) ∙ rw q in
    let y : max 0 m.time ≡ max 0 t = ap (later_time 0) z in
    omega (arith, y)

status_timely : Timely status_of
status_timely = role_timely Status

-- ---- the law

f1_quiet : (lim : PlainLimits) (h : History) (o : Said) (e : Event) → opening h ≡ some o → quiet_from o.time h + lim.silence < time_of e → f1 lim h e ≡ true
unfolding f1
f1_quiet lim h o e op long = rw op (lt-ltb lim.silence (time_of e - quiet_from o.time h) (omega (arith, long)))

-- of the session that is open after h, up to the time `to`
abbrev Brings : PlainLimits → Said → History → Type 0
Brings lim o h = (to : ℕ) → Rising h → opening h ≡ some o → Ticked o.time to (in_session h) → quiet_from o.time h + lim.silence + apart < to
    → Some (Told lim o (quiet_from o.time h)) h

module _ (lim : PlainLimits) (o : Said) where
  -- the session's first event: no silence is long enough
  none_yet : (h : History) (to : ℕ) → in_session h ≡ [] → Ticked o.time to (in_session h) → quiet_from o.time h + lim.silence + apart < to → ⊥
  unfolding session_status
  none_yet h to first_of ticked long = go (rw first_of at ticked) (rw first_of at long)
    where
      go : to ≤ o.time + apart → o.time + lim.silence + apart < to → ⊥
      go a b = omega (arith, a, b)

  at_tick : (t : ℕ) (h : History) → Brings lim o h → opening h ≡ some o → in_session (tick t ∷ h) ≡ tick t ∷ in_session h → Brings lim o (tick t ∷ h)
  unfolding session_status
  at_tick t h brings op in-session to up op' ticked long = go (rw in-session at ticked)
    where
      same : quiet_from o.time (tick t ∷ h) ≡ quiet_from o.time h
      same = rw in-session

      go : (to ≤ t + apart) × Ticked o.time t (in_session h) → Some (Told lim o (quiet_from o.time (tick t ∷ h))) (tick t ∷ h)
      go near = rw same (by-time (ltb (quiet_from o.time h + lim.silence + apart) t) refl)
        where
          by-time : (far : Bool) → ltb (quiet_from o.time h + lim.silence + apart) t ≡ far → Some (Told lim o (quiet_from o.time h)) (tick t ∷ h)
          by-time true q = there (brings t up.1 op near.1 (ltb-true _ _ q))
          by-time false q =
              let passed : quiet_from o.time h + lim.silence < t = omega (arith, same, long, near.0) in
              here (record { opened = op; since = refl; finds = f1_quiet lim h o (tick t) op passed; passed = passed; soon = ltb-false _ _ q })

  at-frame : (t k raw : ℕ) (h : History) → Brings lim o h → opening h ≡ some o → in_session (frame t k raw ∷ h) ≡ frame t k raw ∷ in_session h → Brings lim o (frame t k raw ∷ h)
  unfolding session_status
  at-frame t k raw h brings op in-session to up op' ticked long = go (status_of (frame t k raw)) refl
    where
      still-ticked : Ticked o.time to (in_session h)
      still-ticked = rw in-session at ticked

      near : to ≤ max o.time t + apart
      near = reach (in_session h) o.time to t (session_by_lem t h (none_after t h up.1 up.0)) still-ticked

      go : (s : Option Said) → status_of (frame t k raw) ≡ s → Some (Told lim o (quiet_from o.time (frame t k raw ∷ h))) (frame t k raw ∷ h)
      go none q =
          let same : quiet_from o.time (frame t k raw ∷ h) ≡ quiet_from o.time h = rw (in-session, q) in
          rw same (there (brings to up.1 op still-ticked (rw same at long)))
      go (some m) q =
          let anew : quiet_from o.time (frame t k raw ∷ h) ≡ max o.time m.time = rw (in-session, q) in
          absurd (let z : ⊥ = omega (arith, anew, own_time status_of status_timely t k raw m q, near, long) in z)

  silence-found : (h : History) → Brings lim o h
  unfolding opening since_finished
  silence-found [] to up op ticked long = absurd (nothing op)
  silence-found (x ∷ h) to up op ticked long = by-event x h (silence-found h) (before x h o op) to up op ticked long
    where
      by-event : (x : Event) (h : History) → Brings lim o h → Before x h o → Brings lim o (x ∷ h)
      by-event x h brings (opens first_of) = λ to up op ticked long. absurd (none_yet (x ∷ h) to first_of ticked long)
      by-event (tick t) h brings (stays was in-session) = at_tick t h brings was in-session
      by-event (frame t k raw) h brings (stays was in-session) = at-frame t k raw h brings was in-session

  -- the event that ends a silence comes late enough for a tick before it, or has F1 itself
  silence-ends : (h : History) (e : Event) → Rising h → Silent lim o (quiet_from o.time h) h e → Some (Told lim o (quiet_from o.time h)) (e ∷ h)
  silence-ends h e up s = go (ltb (quiet_from o.time h + lim.silence + apart) (time_of e)) refl
    where
      go : (far : Bool) → ltb (quiet_from o.time h + lim.silence + apart) (time_of e) ≡ far → Some (Told lim o (quiet_from o.time h)) (e ∷ h)
      go true q = there (silence-found h (time_of e) up s.opened s.ticked (ltb-true _ _ q))
      go false q = here (record { opened = s.opened; since = refl; finds = f1_quiet lim h o e s.opened s.long; passed = s.long; soon = ltb-false _ _ q })

  -- 02, Req 12: "any silence of the power modules, counted as F1 counts it, longer than W + 100 has F1 on some event no more than 100 ms after the silence
  -- passed W"
  pub silence_told : (b : ℕ) (h : History) → Unrolled h → Some (Silent lim o b) h → Some (Told lim o b) h
  silence_told b [] un x'' = elim x'' [ ]
  silence_told b (e ∷ h) un (here s) =
      let own : Silent lim o (quiet_from o.time h) h e = subst (λ (n : ℕ). Silent lim o n h e) (sym s.since) s in
      subst (λ (n : ℕ). Some (Told lim o n) (e ∷ h)) s.since (silence-ends h e (rising h un.2) own)
  silence_told b (e ∷ h) un (there more) = there (silence_told b h un.2 more)
