-- 02, Req 09: one post that is ticked regularly, after less than 2^31 ms each: its ticks are in time, F1 and F2 stay right, and ages stop at the largest.
use Rattle.std.specs.Prelude as std
use Prim.Native.Nat.{ℕ, zero, suc, ◌+◌, ◌*◌, ◌<◌}
use native.Mathlib.Nat.{suc-mul}
use native.Mathlib.Omega.{arith}
use mathlib.Core.Path.{◌≡◌, refl, sym, ap, ap₂, ◌∙◌}
use mathlib.Core.List.{[], ◌∷◌}
use mathlib.Core.Bool.{false}
use mathlib.Core.Option.{Option, some}
use lib.ListN.{length, get_or}
use Rattle.rule_limits.specs.declared.PlainLimits.{PlainLimits}
use Rattle.rule_asks.specs.Judgements.{bit}
use Rattle.rules.specs.declared.Dated.{Dated}
use Rattle.rule_pages.specs.declared.Role.{Role}
use Rattle.rule_pages.specs.declared.Role.TheVariants.{Status, Controller, Command, Stop}
use Rattle.rules.specs.History.{Event, tick, History, Said, time_of, newest, asked, controller_of, opening, in_session}
use Rattle.rules.specs.Times.{received_of, earlier_in, stamp_of, latest_time, age_of, Unrolled}
use Rattle.rules.specs.Rules.{is_open, session_status, session_control, session_stop, findings01}
use Rattle.rules.specs.Record.{place_count, dated_at, dated_of, at_place, part_of, kept_shown, record_as_of, record_of}
use Rattle.rules.proofs.Counted.{count_at}
use Rattle.rules.proofs.Unrolled.{unrolled_next}
use Rattle.watch_clock.specs.Regular.{tick_time, ticked}
use Rattle.watch_clock.proofs.Rising.{rising}
use Rattle.watch_clock.proofs.AfterGap.{stamp_after, not_earlier, findings_after}
use Rattle.watch_clock.proofs.PastTicks.{opening_tick, in_session_tick}

-- ---- what a look back past the ticks finds

module _ (every t : ℕ) (h : History) where
  newest-ticked : (r : Role) (n : ℕ) → newest (asked r) (ticked every t n h) ≡ newest (asked r) h
  newest-ticked r zero = refl
  newest-ticked r (suc n) = newest-ticked r n

  place-ticked : (j n : ℕ) → newest (at_place j) (ticked every t n h) ≡ newest (at_place j) h
  place-ticked j zero = refl
  place-ticked j (suc n) = place-ticked j n

  opening-ticked : (n : ℕ) → opening (ticked every t n h) ≡ opening h
  opening-ticked zero = refl
  opening-ticked (suc n) = opening_tick (tick_time every t (suc n)) (ticked every t n h) ∙ opening-ticked n

  in-session-ticked : (r : Role) (n : ℕ) → newest (asked r) (in_session (ticked every t n h)) ≡ newest (asked r) (in_session h)
  in-session-ticked r zero = refl
  in-session-ticked r (suc n) = in_session_tick r (tick_time every t (suc n)) (ticked every t n h) ∙ in-session-ticked r n

  status-ticked : (n : ℕ) → session_status (ticked every t n h) ≡ session_status h
  unfolding session_status
  status-ticked n = in-session-ticked Status n

  control-ticked : (n : ℕ) → session_control (ticked every t n h) ≡ session_control h
  unfolding session_control
  control-ticked n = in-session-ticked Command n

  stop-ticked : (n : ℕ) → session_stop (ticked every t n h) ≡ session_stop h
  unfolding session_stop
  stop-ticked n = in-session-ticked Stop n

  pub length_ticked : (n : ℕ) → length (ticked every t n h) ≡ n + length h
  length_ticked zero = omega arith
  length_ticked (suc n) = omega (arith, length_ticked n)

abbrev pub no_latest : std.Option Dated
no_latest = std.None

-- ---- regular ticks behind a post's latest event

module _ (every : ℕ) (half : every < 2147483648) (e : Event) (h : History) (un : Unrolled (e ∷ h)) where
  abbrev pub after : ℕ → History
  after n = ticked every (time_of e) n (e ∷ h)

  latest-ticked : (n : ℕ) → latest_time (after n) ≡ tick_time every (time_of e) n
  latest-ticked zero = omega arith
  latest-ticked (suc n) = refl

  next-time : (n : ℕ) → tick_time every (time_of e) (suc n) ≡ latest_time (after n) + every
  next-time n = ap (λ (x : ℕ). time_of e + x) (suc-mul n every) ∙ joined (time_of e) (n * every) ∙ ap (λ (x : ℕ). x + every) (sym (latest-ticked n))
    where
      joined : (a b : ℕ) → a + (b + every) ≡ a + b + every
      joined a b = omega arith

  next-in-time : (n : ℕ) → earlier_in (after n) (received_of (latest_time (after n) + every)) ≡ false
  next-in-time zero = not_earlier e h every half
  next-in-time (suc n) = not_earlier (tick (tick_time every (time_of e) (suc n))) (after n) every half

  next-stands : (n : ℕ) → stamp_of (after n) (received_of (latest_time (after n) + every)) ≡ latest_time (after n) + every
  next-stands zero = stamp_after e h every half
  next-stands (suc n) = stamp_after (tick (tick_time every (time_of e) (suc n))) (after n) every half

  -- each is received in time, whatever rounds the clock has made, and stands where it should
  pub tick_in_time : (n : ℕ) → earlier_in (after n) (received_of (tick_time every (time_of e) (suc n))) ≡ false
  tick_in_time n = ap (λ (t : ℕ). earlier_in (after n) (received_of t)) (next-time n) ∙ next-in-time n

  pub tick_stands : (n : ℕ) → stamp_of (after n) (received_of (tick_time every (time_of e) (suc n))) ≡ tick_time every (time_of e) (suc n)
  tick_stands n = ap (λ (t : ℕ). stamp_of (after n) (received_of t)) (next-time n) ∙ next-stands n ∙ sym (next-time n)

  pub unrolled_ticked : (n : ℕ) → Unrolled (after n)
  unrolled_ticked zero = un
  unrolled_ticked (suc n) =
      unrolled_next (after n) (tick (tick_time every (time_of e) (suc n))) (received_of (tick_time every (time_of e) (suc n)))
      (sym (tick_stands n)) (tick_in_time n) (unrolled_ticked n)

  -- F1 from the first tick on where a session is open, F2 where a controller's status was heard, and nothing else
  pub findings_ticked : (lim : PlainLimits) → lim.silence < every → 200 < every → (n : ℕ)
      → findings01 lim (after n) (tick (tick_time every (time_of e) (suc n))) ≡ bit (is_open (opening (e ∷ h))) 1 + bit (is_open (newest controller_of (e ∷ h))) 2
  findings_ticked lim silent late n =
      ap (λ (t : ℕ). findings01 lim (after n) (tick t)) (next-time n)
      ∙ findings_after lim (after n) every (rising (after n) (unrolled_ticked n)) silent late
      ∙ ap₂ (λ (o c : Option Said). bit (is_open o) 1 + bit (is_open c) 2)
      (opening-ticked every (time_of e) (e ∷ h) n) (newest-ticked every (time_of e) (e ∷ h) Controller n)

  -- the record has each latest frame with its age, which grows with the ticks and stops at the largest
  pub age_ticked : (c : ℕ) (lim : PlainLimits) (k : ℕ) → k < place_count → (m : Said) → newest (at_place k) (e ∷ h) ≡ some m → (n : ℕ)
      → get_or (record_of c lim (after n)).latest k no_latest
      ≡ std.Some (dated_at (received_of m.time) (age_of (tick_time every (time_of e) n) m.time) m.kind m.raw)
  unfolding record_as_of
  age_ticked c lim k low m found n =
      count_at (λ j. dated_of (latest_time (after n)) (newest (at_place j) (after n))) no_latest k 0 place_count k (omega arith) low
      ∙ rw (place-ticked every (time_of e) (e ∷ h) k n, found, latest-ticked n)

  -- and so has the session's part
  pub session_ticked : (c : ℕ) (lim : PlainLimits) (n : ℕ)
      → ((record_of c lim (after n)).session ≡ part_of (tick_time every (time_of e) n) (opening (e ∷ h)))
      × ((record_of c lim (after n)).kept ≡ kept_shown (tick_time every (time_of e) n) (opening (e ∷ h)) (session_status (e ∷ h) ∷ session_control (e ∷ h) ∷ session_stop (e ∷ h) ∷ []))
  unfolding record_as_of
  session_ticked c lim n = (
    rw (latest-ticked n, opening-ticked every (time_of e) (e ∷ h) n),
    rw (latest-ticked n, opening-ticked every (time_of e) (e ∷ h) n, status-ticked every (time_of e) (e ∷ h) n, control-ticked every (time_of e) (e ∷ h) n, stop-ticked every (time_of e) (e ∷ h) n),
  )
