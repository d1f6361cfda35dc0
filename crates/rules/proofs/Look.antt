-- The inner step is looking back over one event more: a head that stands for a history goes to the one that stands for the longer history,
-- and its findings and its post's record are 01's.
use Rattle.std.specs.Prelude as std
use Prim.Native.Nat.{ℕ, ◌<◌}
use native.Mathlib.Omega.{arith}
use mathlib.Core.Path.{◌≡◌, refl, sym}
use mathlib.Core.List.{List, [], ◌∷◌, map}
use mathlib.Core.Bool.{Bool, true, false, cond}
use mathlib.Core.Option.{Option, none, some}
use borrow.Author.Tests.{eq-eqb, ne_eqb, ltb-false}
use lib.Dec.{eqb, ltb}
use lib.ListN.{set}
use Rattle.rule_pages.specs.declared.Role.{Role}
use Rattle.rule_pages.specs.declared.Role.TheVariants.{Limits, Controller}
use Rattle.rule_pages.specs.Roles.{role_of}
use Rattle.rule_pages.specs.Places.{place_by}
use Rattle.rule_pages.proofs.Alike.{opening_alike}
use Rattle.rule_limits.specs.declared.PlainLimits.{PlainLimits}
use Rattle.rules.specs.declared.Dated.{Dated}
use Rattle.rules.specs.History.{frame, tick, History, Said, role_number, asked, newest, since_finished, opening, in_session, count_from}
use Rattle.rules.specs.Times.{earlier_in, stamp_of, latest_time, Unrolled}
use Rattle.rules.specs.Rules.{session_status, session_control, session_stop, findings01}
use Rattle.rules.specs.Counts.{tallies_of, counts_of, is_full}
use Rattle.rules.specs.Record.{place_count, dated_of, at_place, last_of, part_of, kept_shown, record_as_of, record_of, unknown, slot_at, slot_of, kept_of, session_of, session01, head_at, head_of, latests, post_of}
use Rattle.rules.specs.After.{stamp_in, put_for, aged_to, with_frame, is_early, counted, is_full_in, with_counts, after_tick, after_frame, keep_in, stored, fresh_post, latest_in, dated_in, part_in, kept_latest, last_in, post_record}
use Rattle.rules.proofs.Counted.{count_at, count_same, count_set}
use Rattle.rules.proofs.SessionLook.{session_stays, session_frame}
use Rattle.rules.proofs.FindingsLook.{findings_tick, findings_frame}
use Rattle.rules.proofs.CountsLook.{counts_look}
use Rattle.rules.proofs.Unrolled.{stamp_fits}

-- ---- the latest of each place

latest_frame : (h : History) (t k raw : ℕ) → set (latests h) (place_by k) (slot_at t k raw) ≡ latests (frame t k raw ∷ h)
unfolding latests
latest_frame h t k raw =
    let j = place_by k in
    count_set (λ i. slot_of (newest (at_place i) h)) (λ i. slot_of (newest (at_place i) (frame t k raw ∷ h))) (slot_at t k raw) j
    (rw (eq-eqb j j refl))
    (λ i ne. rw (ne_eqb j i (λ e. ne (sym e))))
    0 place_count j (omega arith)

-- of a kind that has no place
latest_other : (h : History) (t k raw : ℕ) → ltb (place_by k) place_count ≡ false → latests h ≡ latests (frame t k raw ∷ h)
unfolding latests
latest_other h t k raw past =
    count_same (λ i. slot_of (newest (at_place i) h)) (λ i. slot_of (newest (at_place i) (frame t k raw ∷ h))) 0 place_count
    (λ i low high. rw (ne_eqb (place_by k) i (λ e. let z : ⊥ = omega (arith, ltb-false (place_by k) place_count past) in z)))

kept_frame : (h : History) (t k raw : ℕ) → keep_in (latests h) (place_by k) (slot_at t k raw) ≡ latests (frame t k raw ∷ h)
kept_frame h t k raw = go (ltb (place_by k) place_count) refl
  where
    go : (b : Bool) → ltb (place_by k) place_count ≡ b → cond b (set (latests h) (place_by k) (slot_at t k raw)) (latests h) ≡ latests (frame t k raw ∷ h)
    go true e = latest_frame h t k raw
    go false e = latest_other h t k raw e

kept_tick : (h : History) (t : ℕ) → keep_in (latests h) place_count unknown ≡ latests (tick t ∷ h)
unfolding latests
kept_tick h t = refl

-- a slot that the head keeps
put_frame : (h : History) (r : Role) (t k raw : ℕ) → put_for r k (slot_at t k raw) (slot_of (newest (asked r) h)) ≡ slot_of (newest (asked r) (frame t k raw ∷ h))
put_frame h r t k raw = go (eqb (role_number r) (role_number (role_of k))) refl
  where
    go : (b : Bool) → eqb (role_number r) (role_number (role_of k)) ≡ b
        → put_for r k (slot_at t k raw) (slot_of (newest (asked r) h)) ≡ slot_of (newest (asked r) (frame t k raw ∷ h))
    go true e = rw e
    go false e = rw e

-- ---- what the record shows of a slot and of the session's part

dated_look : (now : ℕ) (o : Option Said) → dated_in now (slot_of o) ≡ dated_of now o
dated_look now none = refl
dated_look now (some o) = refl

part_look : (now : ℕ) (h : History) (o : Option Said) → part_in now (session_of o (kept_of (in_session h))) ≡ part_of now o
part_look now h none = refl
part_look now h (some o) = rw (opening_alike o.kind o.raw)

kept_look : (now : ℕ) (h : History) (o : Option Said) → kept_latest now (session_of o (kept_of (in_session h))) ≡ kept_shown now o (session_status h ∷ session_control h ∷ session_stop h ∷ [])
unfolding session_status session_control session_stop
kept_look now h none = refl
kept_look now h (some o) = simp dated_look

module _ (c : ℕ) (lim : PlainLimits) where
  -- ---- the head after one event more

  aged-look : (h : History) (t : ℕ) → aged_to (head_of c lim h) t ≡ head_at c lim (counts_of lim h) true t h
  unfolding aged_to head_at
  aged-look h t = refl

  head-frame : (cs : List ℕ) (h : History) (t k raw : ℕ) → with_frame (head_at c lim cs true t h) k (slot_at t k raw) ≡ head_at c lim cs true t (frame t k raw ∷ h)
  unfolding with_frame head_at
  head-frame cs h t k raw = rw (session_frame h t k raw, put_frame h Controller t k raw, put_frame h Limits t k raw)

  head-tick : (cs : List ℕ) (h : History) (t : ℕ) → head_at c lim cs true t h ≡ head_at c lim cs true t (tick t ∷ h)
  unfolding head_at
  head-tick cs h t = rw (session_stays h (tick t) (refl, refl, refl, refl) refl)

  counted-look : (cs : List ℕ) (t n : ℕ) (h : History) → with_counts (head_at c lim cs true t h) n ≡ head_at c lim (counted n cs) true t h
  unfolding with_counts head_at
  counted-look cs t n h = refl

  pub full_look : (h : History) → is_full_in (head_of c lim h) ≡ is_full h
  unfolding head_at
  full_look h = refl

  -- ---- the record's parts

  last-look : (h : History) → last_in (head_of c lim h) ≡ last_of h
  unfolding head_at
  last-look [] = refl
  last-look (e ∷ h) = refl

  latest-look : (h : History) (k : ℕ) → k < place_count → latest_in (post_of c lim h) k ≡ slot_of (newest (at_place k) h)
  unfolding latests
  latest-look h k lt = count_at (λ i. slot_of (newest (at_place i) h)) unknown k 0 place_count k (omega arith) lt

  abbrev at_place_lem : ℕ → History → ℕ → std.Option Dated
  at_place_lem now h k = dated_in now (latest_in (post_of c lim h) k)

  abbrev of_place : ℕ → History → ℕ → std.Option Dated
  of_place now h k = dated_of now (newest (at_place k) h)

  messages-look : (now : ℕ) (h : History) → map (at_place_lem now h) (count_from 0 place_count) ≡ map (of_place now h) (count_from 0 place_count)
  messages-look now h =
      count_same (at_place_lem now h) (of_place now h) 0 place_count (λ k low high. rw (latest-look h k (omega arith), dated_look now (newest (at_place k) h)))

  session-look : (now : ℕ) (h : History) → part_in now (head_of c lim h).session ≡ part_of now (opening h)
  unfolding head_at session01
  session-look now h = part_look now h (opening h)

  session_kept : (now : ℕ) (h : History) → kept_latest now (head_of c lim h).session ≡ kept_shown now (opening h) (session_status h ∷ session_control h ∷ session_stop h ∷ [])
  unfolding head_at session01
  session_kept now h = kept_look now h (opening h)

  -- ---- the post, its steps and its record

  pub used_look : (h : History) → (head_of c lim h).used ≡ 1
  unfolding head_at
  used_look h = refl

  pub channel_look : (h : History) → (head_of c lim h).channel ≡ c
  unfolding head_at
  channel_look h = refl

  pub limits_look : (h : History) → (head_of c lim h).limits ≡ lim
  unfolding head_at
  limits_look h = refl

  pub fresh_look : fresh_post c lim ≡ post_of c lim []
  unfolding head_at latests session01 opening since_finished tallies_of
  fresh_look = refl

  pub early_look : (h : History) (t : ℕ) → is_early (head_of c lim h) t ≡ earlier_in h t
  unfolding head_at earlier_in
  early_look [] t = refl
  early_look (e ∷ h) t = refl

  -- the sum does not come round in 64 bits
  pub stamp_look : (h : History) (t : ℕ) → Unrolled h → is_full h ≡ false → stamp_in (head_of c lim h) t ≡ stamp_of h t
  unfolding stamp_in head_at
  stamp_look [] t un room = omega arith
  stamp_look (e ∷ h) t un room = omega (arith, stamp_fits (e ∷ h) t un room)

  pub tick_look : (h : History) (t : ℕ) → Unrolled h → is_full h ≡ false
      → after_tick (head_of c lim h) t
      ≡ record { head = head_of c lim (tick (stamp_of h t) ∷ h); slot = unknown; at = place_count; findings = findings01 lim h (tick (stamp_of h t)) }
  unfolding after_tick
  tick_look h t un room =
      let u = stamp_of h t in
      rw (stamp_look h t un room, aged-look h u, findings_tick c lim (counts_of lim h) h u, head-tick (counts_of lim h) h u, counted-look (counts_of lim h) u (findings01 lim h (tick u)) (tick u ∷ h), counts_look lim h (tick u) room)

  pub frame_look : (h : History) (t k raw : ℕ) → Unrolled h → is_full h ≡ false
      → after_frame (head_of c lim h) t k raw
      ≡ record { head = head_of c lim (frame (stamp_of h t) k raw ∷ h); slot = slot_at (stamp_of h t) k raw; at = place_by k; findings = findings01 lim h (frame (stamp_of h t) k raw) }
  unfolding after_frame
  frame_look h t k raw un room =
      let u = stamp_of h t in
      rw (stamp_look h t un room, aged-look h u, findings_frame c lim (counts_of lim h) h u k raw, head-frame (counts_of lim h) h u k raw, counted-look (counts_of lim h) u (findings01 lim h (frame u k raw)) (frame u k raw ∷ h), counts_look lim h (frame u k raw) room)

  -- the post with what a step left of it
  pub stored_tick : (h : History) (t : ℕ) → stored (post_of c lim h) (head_of c lim (tick t ∷ h)) place_count unknown ≡ post_of c lim (tick t ∷ h)
  stored_tick h t = rw (kept_tick h t)

  pub stored_frame : (h : History) (t k raw : ℕ) → stored (post_of c lim h) (head_of c lim (frame t k raw ∷ h)) (place_by k) (slot_at t k raw) ≡ post_of c lim (frame t k raw ∷ h)
  stored_frame h t k raw = rw (kept_frame h t k raw)

  pub stored_still : (h : History) → stored (post_of c lim h) (head_of c lim h) place_count unknown ≡ post_of c lim h
  stored_still h = refl

  pub record_look : (h : History) → post_record (post_of c lim h) ≡ record_of c lim h
  unfolding post_record record_as_of head_at tallies_of
  record_look h = rw (last-look h, messages-look (latest_time h) h, session-look (latest_time h) h, session_kept (latest_time h) h)
