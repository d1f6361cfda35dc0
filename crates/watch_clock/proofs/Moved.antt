-- 02, Req 09: a post whose clock is moved accepts the same events after the same differences, so that nothing changes but its times as received.
use Prim.Native.Nat.{ℕ, suc, ◌+◌}
use native.Mathlib.Omega.{arith}
use mathlib.Core.Path.{◌≡◌, refl, sym, ap, ap₂, ◌∙◌}
use mathlib.Core.List.{List, [], ◌∷◌, map}
use lib.Dec.{leb}
use lib.ListN.{length}
use Rattle.rule_limits.specs.declared.PlainLimits.{PlainLimits}
use Rattle.rules.specs.History.{Event, frame, tick, History, time_of}
use Rattle.rules.specs.Times.{received_of, earlier_in, stamp_of, Unrolled}
use Rattle.rules.specs.Rules.{findings01}
use Rattle.rules.specs.Counts.{largest, is_full}
use Rattle.rules.specs.Record.{record_of}
use Rattle.rules.proofs.Unrolled.{received_stamp, early_low, unrolled_next}
use Rattle.watch_clock.specs.Later.{retime, still}
use Rattle.watch_clock.specs.Differences.{differences_to, differences, received, said_by, said, InStep}
use Rattle.watch_clock.specs.Moved.{on_clock, moved}
use Rattle.watch_clock.proofs.Later.{time_retimed}
use Rattle.watch_clock.proofs.Wrapped.{wrapped_on, wrapped_moved}
use Rattle.watch_clock.proofs.Differences.{findings_by_differences, record_by_differences}

module _ (d : ℕ) where
  -- the event as the moved clock has it, behind h
  abbrev pub moved_event : History → Event → Event
  moved_event h e = retime (λ t. stamp_of (moved d h) (on_clock d t)) e

  time-moved : (h : History) (e : Event) → time_of (moved_event h e) ≡ stamp_of (moved d h) (on_clock d (time_of e))
  time-moved h e = time_retimed (λ t. stamp_of (moved d h) (on_clock d t)) e

  -- as received each time is moved by d
  received-event : (h : History) (e : Event) → received_of (time_of (moved_event h e)) ≡ on_clock d (time_of e)
  received-event h e = omega (arith, time-moved h e, received_stamp (moved d h) (on_clock d (time_of e)))

  pub received_moved : (h : History) → received (moved d h) ≡ map (on_clock d) (received h)
  received_moved [] = refl
  received_moved (e ∷ h) = ap₂ ◌∷◌ (received-event h e ∙ twice (time_of e)) (received_moved h)
    where
      twice : (t : ℕ) → on_clock d t ≡ on_clock d (received_of t)
      twice t = omega arith

  -- ---- the differences stay

  apart-moved : (t : ℕ) (ts : List ℕ) → differences_to (on_clock d t) (map (on_clock d) ts) ≡ differences_to t ts
  apart-moved t [] = refl
  apart-moved t (s ∷ ts) = ap₂ ◌∷◌ (wrapped_moved d t s) (apart-moved s ts)

  all-apart-moved : (ts : List ℕ) → differences (map (on_clock d) ts) ≡ differences ts
  all-apart-moved [] = refl
  all-apart-moved (t ∷ ts) = apart-moved t ts

  said-event : (h : History) (e : Event) → said_by (moved_event h e) ≡ said_by e
  said-event h (frame t k raw) = refl
  said-event h (tick t) = refl

  said-moved : (h : History) → said (moved d h) ≡ said h
  said-moved [] = refl
  said-moved (e ∷ h) = ap₂ ◌∷◌ (said-event h e) (said-moved h)

  pub moved_in_step : (h : History) → InStep (moved d h) h
  moved_in_step h = (said-moved h, ap differences (received_moved h) ∙ all-apart-moved (received h))

  -- ---- so that 2, 25, the findings and the record do

  -- 2 of the next event
  pub earlier_moved : (h : History) (t : ℕ) → earlier_in (moved d h) (on_clock d t) ≡ earlier_in h t
  unfolding earlier_in
  earlier_moved [] t = refl
  earlier_moved (e ∷ h) t = ap (leb 2147483648) (wrapped_on d t (time_of e) (time_of (moved_event h e)) (received-event h e))

  -- what is left was accepted one after the other
  pub unrolled_moved : (h : History) → Unrolled h → Unrolled (moved d h)
  unrolled_moved [] un = tt
  unrolled_moved (e ∷ h) un =
      unrolled_next (moved d h) (moved_event h e) (on_clock d (time_of e)) (time-moved h e)
      (earlier_moved h (time_of e) ∙ sym (early_low h (time_of e)) ∙ un.1) (unrolled_moved h un.2)

  length_moved : (h : History) → length (moved d h) ≡ length h
  length_moved [] = refl
  length_moved (e ∷ h) = ap suc (length_moved h)

  pub full_moved : (h : History) → is_full (moved d h) ≡ is_full h
  full_moved h = ap (leb largest) (length_moved h)

  pub findings_moved : (lim : PlainLimits) (h : History) (e : Event) → Unrolled (e ∷ h) → findings01 lim (moved d h) (moved_event h e) ≡ findings01 lim h e
  findings_moved lim h e un =
      findings_by_differences lim (moved d h) h (moved_event h e) e (unrolled_moved (e ∷ h) un) un (moved_in_step (e ∷ h))

  pub record_moved : (c : ℕ) (lim : PlainLimits) (h : History) → Unrolled h → still (record_of c lim (moved d h)) ≡ still (record_of c lim h)
  record_moved c lim h un = record_by_differences c lim (moved d h) h (unrolled_moved h un) un (moved_in_step h)

  -- where an event stands that is received at t by the one clock and at `on_clock d t` by the other
  pub stamp_moved : (h : History) (t : ℕ) → stamp_of (moved d h) (on_clock d (stamp_of h t)) ≡ stamp_of (moved d h) (on_clock d t)
  stamp_moved h t =
      let z : on_clock d (stamp_of h t) ≡ on_clock d t = ap (λ (n : ℕ). received_of (n + d)) (received_stamp h t) in
      ap (stamp_of (moved d h)) z
