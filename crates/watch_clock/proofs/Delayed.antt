-- A history that is d ms later throughout has the same findings, and the same record but for the times as received.
use Rattle.std.specs.Prelude as std
use Prim.Native.Nat.{ℕ, ◌+◌, min}
use native.Mathlib.Omega.{arith}
use mathlib.Core.Path.{◌≡◌, refl, ap, ap₂}
use mathlib.Core.List.{List, [], ◌∷◌, map}
use mathlib.Core.Bool.{Bool, true, false, cond, not, ◌&&◌}
use mathlib.Core.Option.{Option, none, some}
use lib.Dec.{ltb}
use lib.ListN.{length-map}
use Rattle.message_types.specs.declared.DcPowerParameters.{DcPowerParameters}
use Rattle.page_table.specs.declared.Interface.TheVariants.{Newer}
use Rattle.page_table.specs.Interfaces.{is_on}
use Rattle.message_build.specs.Built.{message_of}
use Rattle.older_build.specs.Built as older
use Rattle.rule_pages.specs.declared.Role.{Role}
use Rattle.rule_pages.specs.declared.Role.TheVariants.{Status, Limits, Controller, Opening, Command, Finished}
use Rattle.rule_pages.specs.Said.{status_by, opening_by, command_by}
use Rattle.rules.specs.declared.Dated.TheVariants as dated
use Rattle.rule_limits.specs.declared.PlainLimits.{PlainLimits}
use Rattle.rule_limits.specs.Sensor.{sensor_of}
use Rattle.rule_asks.specs.Judgements.{is_close, is_powered, is_carrying, is_off, lowers_badly, outside, bad_insulation, differs}
use Rattle.rules.specs.History.{Event, History, Said, time_of, newest, asked, limits_told, controller_of, opening_of, opening, count_from}
use Rattle.rules.specs.Times.{received_of, elapsed, age_of}
use Rattle.rules.specs.Rules.{ask, is_open, session_status, session_control, session_stop, later_time, limit_by, limit_of, unready, is_stopped, Rule, f1, f2, f3, f4, f5, f6, f7, f8, f9, f10, f11, f12, rules01, found, bits_from, findings01}
use Rattle.rules.specs.Counts.{times_found, tallies_by, tallies_of}
use Rattle.rules.specs.Record.{place_count, dated_at, dated_of, at_place, last_of, part_of, kept_shown, record_as_of, record_of}
use Rattle.watch_clock.specs.Later.{delay, delayed, later, Steady, AllSteady, still_last, still_dated, still_latest, still_part, still}
use Rattle.watch_clock.proofs.Later.{role_timely, place_timely, time_retimed, newest_retimed, opening_retimed, status_retimed, control_retimed, stop_retimed}

-- ---- what a rule makes of an answer

module _ (d : ℕ) where
  off : (t s : ℕ) → elapsed (t + d) (s + d) ≡ elapsed t s
  off t s = omega arith

  -- a test of the frame alone
  ask-later : (o : Option Said) (f : ℕ → ℕ → Bool) → ask (later d o) (λ m. f m.kind m.raw) ≡ ask o (λ m. f m.kind m.raw)
  ask-later none f = refl
  ask-later (some m) f = refl

  open-later : (o : Option Said) → is_open (later d o) ≡ is_open o
  open-later none = refl
  open-later (some o) = refl

  unready-later : (o : Option Said) → unready (later d o) ≡ unready o
  unready-later none = refl
  unready-later (some o) = refl

  stopped-later : (o : Option Said) → is_stopped (later d o) ≡ is_stopped o
  stopped-later none = refl
  stopped-later (some o) = refl

  since-later : (o : ℕ) (s : Option Said) → later_time (o + d) (later d s) ≡ later_time o s + d
  since-later o none = refl
  since-later o (some s) = omega arith

  limit-later : (most : ℕ) (number : DcPowerParameters → ℕ) (o : Option Said) → limit_by most number (later d o) ≡ limit_by most number o
  limit-later most number none = refl
  limit-later most number (some p) = refl

  -- ---- what a rule asks of the history and of the event

  pub role_delayed : (r : Role) (e : Event) → asked r (delay d e) ≡ later d (asked r e)
  role_delayed r e = role_timely r (λ t. t + d) e

  pub newest_delayed : (r : Role) (h : History) → newest (asked r) (delayed d h) ≡ later d (newest (asked r) h)
  newest_delayed r h = newest_retimed (λ t. t + d) (asked r) (role_timely r) h

  pub place_delayed : (j : ℕ) (h : History) → newest (at_place j) (delayed d h) ≡ later d (newest (at_place j) h)
  place_delayed j h = newest_retimed (λ t. t + d) (at_place j) (place_timely j) h

  pub opening_delayed : (h : History) → opening (delayed d h) ≡ later d (opening h)
  opening_delayed h = opening_retimed (λ t. t + d) h

  pub status_delayed : (h : History) → session_status (delayed d h) ≡ later d (session_status h)
  status_delayed h = status_retimed (λ t. t + d) h

  pub control_delayed : (h : History) → session_control (delayed d h) ≡ later d (session_control h)
  control_delayed h = control_retimed (λ t. t + d) h

  pub stop_delayed : (h : History) → session_stop (delayed d h) ≡ later d (session_stop h)
  stop_delayed h = stop_retimed (λ t. t + d) h

  pub time_delayed : (e : Event) → time_of (delay d e) ≡ time_of e + d
  time_delayed e = time_retimed (λ t. t + d) e

  is-open-delayed : (h : History) → is_open (opening (delayed d h)) ≡ is_open (opening h)
  is-open-delayed h = rw (opening_delayed h) (open-later (opening h))

  limit-delayed : (most : ℕ) (number : DcPowerParameters → ℕ) (h : History) → limit_of most number (delayed d h) ≡ limit_of most number h
  unfolding limit_of
  limit-delayed most number h = rw (newest_delayed Limits h) (limit-later most number (newest limits_told h))

  -- of an event that is asked for, by its frame
  asks : (r : Role) (e : Event) (f : ℕ → ℕ → Bool) → ask (asked r (delay d e)) (λ m. f m.kind m.raw) ≡ ask (asked r e) (λ m. f m.kind m.raw)
  asks r e f = rw (role_delayed r e) (ask-later (asked r e) f)

-- ---- each rule

steady_1 : Steady f1
unfolding f1
steady_1 d lim h e = rw (opening_delayed d h, status_delayed d h, time_delayed d e) (go (opening h) (session_status h))
  where
    go : (o s : Option Said)
        → ask (later d o) (λ p. ltb lim.silence (elapsed (time_of e + d) (later_time p.time (later d s)))) ≡ ask o (λ p. ltb lim.silence (elapsed (time_of e) (later_time p.time s)))
    go none s = refl
    go (some o) s = rw (since-later d o.time s, off d (time_of e) (later_time o.time s))

steady_2 : Steady f2
unfolding f2
steady_2 d lim h e = rw (newest_delayed d Controller h, time_delayed d e) (go (newest controller_of h))
  where
    go : (o : Option Said) → ask (later d o) (λ c. ltb 200 (elapsed (time_of e + d) c.time)) ≡ ask o (λ c. ltb 200 (elapsed (time_of e) c.time))
    go none = refl
    go (some o) = rw (off d (time_of e) o.time)

steady_3 : Steady f3
unfolding f3
steady_3 d lim h e = rw (is-open-delayed d h) (asks d Command e (λ k r. is_close (command_by k r).contactors && not (is_open (opening h))))

steady_4 : Steady f4
unfolding f4
steady_4 d lim h e = rw (is-open-delayed d h) (asks d Command e (λ k r. is_powered (command_by k r).function && not (is_open (opening h))))

steady_5 : Steady f5
unfolding f5
steady_5 d lim h e =
    rw (is-open-delayed d h, status_delayed d h, unready-later d (session_status h))
    (asks d Command e (λ k r. is_powered (command_by k r).function && (is_open (opening h) && unready (session_status h))))

steady_6 : Steady f6
unfolding f6
steady_6 d lim h e = asks d Command e (λ k r. lowers_badly (command_by k r))

steady_7 : Steady f7
unfolding f7
steady_7 d lim h e =
    rw (limit-delayed d lim.voltage (λ p. p.voltage) h)
    (asks d Command e (λ k r. not (is_off (command_by k r).function) && ltb (limit_of lim.voltage (λ p. p.voltage) h) (command_by k r).target))

steady_8 : Steady f8
unfolding f8
steady_8 d lim h e =
    rw (is-open-delayed d h, limit-delayed d lim.charge (λ p. p.charge) h, limit-delayed d lim.discharge (λ p. p.discharge) h)
    (asks d Status e
    (λ k r. is_open (opening h)
    && outside (status_by k r).current (limit_of lim.charge (λ p. p.charge) h) (limit_of lim.discharge (λ p. p.discharge) h)))

steady_9 : Steady f9
unfolding f9
steady_9 d lim h e =
    rw (is-open-delayed d h, control_delayed d h, ask-later d (session_control h) (λ k r. is_carrying (command_by k r).function))
    (asks d Status e
    (λ k r. (is_open (opening h) && ask (session_control h) (λ c. is_carrying (command_by c.kind c.raw).function)) && bad_insulation (sensor_of lim.sensor) (status_by k r)))

steady_10 : Steady f10
unfolding f10
steady_10 d lim h e = rw (opening_delayed d h, role_delayed d Opening e) (go (opening_of e))
  where
    go : (n : Option Said)
        → ask (later d n) (λ m. ask (later d (opening h)) (λ o. differs (opening_by o.kind o.raw) (opening_by m.kind m.raw))) ≡ ask n (λ m. ask (opening h) (λ o. differs (opening_by o.kind o.raw) (opening_by m.kind m.raw)))
    go none = refl
    go (some m) = ask-later d (opening h) (λ k r. differs (opening_by k r) (opening_by m.kind m.raw))

steady_11 : Steady f11
unfolding f11
steady_11 d lim h e = rw (is-open-delayed d h) (asks d Finished e (λ k r. not (is_open (opening h))))

steady_12 : Steady f12
unfolding f12
steady_12 d lim h e =
    rw (is-open-delayed d h, stop_delayed d h, stopped-later d (session_stop h))
    (asks d Command e (λ k r. is_powered (command_by k r).function && (is_open (opening h) && is_stopped (session_stop h))))

pub steady01 : AllSteady rules01
steady01 = (steady_1, (steady_2, (steady_3, (steady_4, (steady_5, (steady_6, (steady_7, (steady_8, (steady_9, (steady_10, (steady_11, (steady_12, tt))))))))))))

-- ---- any list of such rules

module _ (d : ℕ) (lim : PlainLimits) where
  pub found_delayed : (rs : List Rule) → AllSteady rs → (h : History) (e : Event) → found rs lim (delayed d h) (delay d e) ≡ found rs lim h e
  found_delayed [] steady h e = refl
  found_delayed (f ∷ rs) steady h e = ap₂ ◌∷◌ (steady.0 d lim h e) (found_delayed rs steady.1 h e)

  times-delayed : (f : Rule) → Steady f → (h : History) → times_found f lim (delayed d h) ≡ times_found f lim h
  times-delayed f steady [] = refl
  times-delayed f steady (e ∷ h) = rw (steady d lim h e, times-delayed f steady h)

  pub tallies_delayed : (rs : List Rule) → AllSteady rs → (h : History) → tallies_by rs lim (delayed d h) ≡ tallies_by rs lim h
  tallies_delayed [] steady h = refl
  tallies_delayed (f ∷ rs) steady h = ap₂ ◌∷◌ (times-delayed f steady.0 h) (tallies_delayed rs steady.1 h)

  pub findings_delayed : (h : History) (e : Event) → findings01 lim (delayed d h) (delay d e) ≡ findings01 lim h e
  unfolding findings01
  findings_delayed h e = ap (bits_from 1) (found_delayed rules01 steady01 h e)

-- ---- the record

still_at : (t s age k raw : ℕ) → still_dated (dated_at t age k raw) ≡ still_dated (dated_at s age k raw)
unfolding dated_at
still_at t s age k raw = go (is_on Newer k)
  where
    go : (b : Bool) → still_dated (cond b (dated.At t age (message_of k raw)) (dated.OlderAt t age (older.message_of k raw))) ≡ still_dated (cond b (dated.At s age (message_of k raw)) (dated.OlderAt s age (older.message_of k raw)))
    go true = refl
    go false = refl

module _ (d now : ℕ) where
  age-delayed : (t : ℕ) → age_of (now + d) (t + d) ≡ age_of now t
  age-delayed t = ap (λ (n : ℕ). min n 4294967295) (off d now t)

  dated-delayed : (o : Option Said) → still_latest (dated_of (now + d) (later d o)) ≡ still_latest (dated_of now o)
  dated-delayed none = refl
  dated-delayed (some m) = rw (age-delayed m.time) (ap std.Some (still_at (received_of (m.time + d)) (received_of m.time) (age_of now m.time) m.kind m.raw))

  part-delayed : (o : Option Said) → still_part (part_of (now + d) (later d o)) ≡ still_part (part_of now o)
  part-delayed none = refl
  part-delayed (some o) = rw (age-delayed o.time)

  kept-delayed : (o s c m : Option Said)
      → map still_latest (kept_shown (now + d) (later d o) (later d s ∷ later d c ∷ later d m ∷ [])) ≡ map still_latest (kept_shown now o (s ∷ c ∷ m ∷ []))
  kept-delayed none s c m = refl
  kept-delayed (some o) s c m = rw (dated-delayed s, dated-delayed c, dated-delayed m)

  latests-delayed : (h : History) (ks : List ℕ)
      → map still_latest (map (λ j. dated_of (now + d) (newest (at_place j) (delayed d h))) ks)
      ≡ map still_latest (map (λ j. dated_of now (newest (at_place j) h)) ks)
  latests-delayed h [] = refl
  latests-delayed h (j ∷ ks) = rw (place_delayed d j h, dated-delayed (newest (at_place j) h), latests-delayed h ks)

last_delayed : (d : ℕ) (h : History) → still_last (last_of (delayed d h)) ≡ still_last (last_of h)
last_delayed d [] = refl
last_delayed d (e ∷ h) = refl

-- as of a time that is as much later
pub record_as_delayed : (d c : ℕ) (lim : PlainLimits) (now : ℕ) (h : History) → still (record_as_of c lim (now + d) (delayed d h)) ≡ still (record_as_of c lim now h)
unfolding record_as_of still tallies_of
record_as_delayed d c lim now h =
    rw (
      last_delayed d h,
      latests-delayed d now h (count_from 0 place_count),
      opening_delayed d h,
      status_delayed d h,
      control_delayed d h,
      stop_delayed d h,
      part-delayed d now (opening h),
      kept-delayed d now (opening h) (session_status h) (session_control h) (session_stop h),
      length-map h (delay d),
      tallies_delayed d lim rules01 steady01 h,
    )

pub record_delayed : (d c : ℕ) (lim : PlainLimits) (h : History) → still (record_of c lim (delayed d h)) ≡ still (record_of c lim h)
record_delayed d c lim [] = refl
record_delayed d c lim (e ∷ h) = rw (time_delayed d e) (record_as_delayed d c lim (time_of e) (e ∷ h))
