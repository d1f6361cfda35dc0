-- The findings that the code reads off an aged head are 01's over the history that the head stands for.
use Prim.Native.Nat.{ℕ, ◌+◌}
use native.Mathlib.Omega.{arith}
use mathlib.Core.Path.{◌≡◌, refl, sym, ◌∙◌}
use mathlib.Core.List.{List}
use mathlib.Core.Bool.{true, ◌&&◌}
use mathlib.Core.Option.{Option, none, some}
use lib.Dec.{ltb}
use Rattle.older_types.specs.message_types.specs.declared.DcPowerParameters.{DcPowerParameters}
use Rattle.older_types.specs.message_types.specs.declared.NewChargeSession.{NewChargeSession}
use Rattle.rule_limits.specs.declared.PlainLimits.{PlainLimits}
use Rattle.rule_pages.specs.declared.Role.{Role}
use Rattle.rule_pages.specs.declared.Role.TheVariants.{Other, Status, Limits, Controller, Opening, Command, Finished, Stop}
use Rattle.rule_pages.specs.Roles.{role_of}
use Rattle.rule_pages.specs.Said.{status_by, opening_by, command_by}
use Rattle.rule_pages.proofs.Alike.{opening_alike}
use Rattle.rules.specs.History.{Event, frame, tick, History, Said, time_of, newest, status_of, command_of, stop_of}
use Rattle.rules.specs.Times.{elapsed}
use Rattle.rule_asks.specs.Judgements.{bit, differs, is_carrying}
use Rattle.rules.specs.declared.Session.{Session}
use Rattle.rules.specs.Rules.{ask, is_open, session_status, session_control, session_stop, later_time, limit_by, limit_of, unready, f1, f2, f3, f4, f5, f6, f7, f8, f9, f10, f11, is_stopped, f12, findings01}
use Rattle.rules.specs.Record.{is_set, slot_of, kept_of, session_of, session01, head_at}
use Rattle.rules.specs.After.{later_of, silent_in, late_after, any_findings, limit_in, unready_after, unready_in, stopped_in, carrying_after, carrying_in, control_findings, status_findings, opening_findings, finished_findings, findings_by, message_findings}
use Rattle.rules.proofs.Unasked.{Quiet, unasked_frame, message_bits, no_bits, only_f1_f2}

-- ---- what is read of a slot

late_look : (o : Option Said) (t : ℕ) → late_after (slot_of o) t ≡ ask o (λ c. ltb 200 (elapsed t c.time))
unfolding late_after
late_look none t = refl
late_look (some o) t = refl

later_look : (since : ℕ) (s : Option Said) → later_of since (slot_of s) ≡ later_time since s
later_look since none = refl
later_look since (some s) = refl

limit_look : (most : ℕ) (number : DcPowerParameters → ℕ) (p : Option Said) → limit_in most number (slot_of p) ≡ limit_by most number p
limit_look most number none = refl
limit_look most number (some p) = refl

-- ---- what is read of the session's part

module _ (o : Option Said) (a : History) where
  abbrev part : Session
  part = session_of o (kept_of a)

open_look : (o : Option Said) (a : History) → is_set (part o a).opened ≡ is_open o
open_look none a = refl
open_look (some o) a = refl

silent_look : (o : Option Said) (a : History) (w t : ℕ) → silent_in (part o a) w t ≡ ask o (λ p. ltb w (elapsed t (later_time p.time (newest status_of a))))
unfolding silent_in
silent_look none a w t = refl
silent_look (some o) a w t = rw (later_look o.time (newest status_of a))

unready_slot : (s : Option Said) → unready_after (slot_of s) ≡ unready s
unready_slot none = refl
unready_slot (some s) = refl

unready_look : (o : Option Said) (a : History) → unready_in (part o a) ≡ (is_open o && unready (newest status_of a))
unfolding unready_in
unready_look none a = refl
unready_look (some o) a = unready_slot (newest status_of a)

stopped_slot : (s : Option Said) → is_set (slot_of s).known ≡ is_stopped s
stopped_slot none = refl
stopped_slot (some s) = refl

stopped_look : (o : Option Said) (a : History) → stopped_in (part o a) ≡ (is_open o && is_stopped (newest stop_of a))
unfolding stopped_in
stopped_look none a = refl
stopped_look (some o) a = stopped_slot (newest stop_of a)

carrying_slot : (d : Option Said) → carrying_after (slot_of d) ≡ ask d (λ l. is_carrying (command_by l.kind l.raw).function)
carrying_slot none = refl
carrying_slot (some d) = refl

carrying_look : (o : Option Said) (a : History) → carrying_in (part o a) ≡ (is_open o && ask (newest command_of a) (λ l. is_carrying (command_by l.kind l.raw).function))
unfolding carrying_in
carrying_look none a = refl
carrying_look (some o) a = carrying_slot (newest command_of a)

differs_look : (o : Option Said) (a : History) (n : NewChargeSession) → opening_findings (part o a) n ≡ bit (ask o (λ p. differs (opening_by p.kind p.raw) n)) 512
unfolding opening_findings
differs_look none a n = refl
differs_look (some o) a n = rw (opening_alike o.kind o.raw)

-- ---- the sum

module _ (c : ℕ) (lim : PlainLimits) (cs : List ℕ) (h : History) where
  any_look : (e : Event) → any_findings (head_at c lim cs true (time_of e) h) ≡ bit (f1 lim h e) 1 + bit (f2 lim h e) 2
  unfolding any_findings head_at session01 session_status f1 f2
  any_look e = simp (silent_look, late_look)

  -- as of any time `now`: these rules ask for none
  module _ (now t k raw : ℕ) where
    status-look : role_of k ≡ Status → status_findings (head_at c lim cs true now h) (status_by k raw) ≡ message_bits lim h (frame t k raw)
    unfolding status_findings head_at session01 session_status session_control session_stop limit_of f3 f4 f5 f6 f7 f8 f9 f10 f11 f12
    status-look e = rw e (simp (open_look, carrying_look, limit_look) (omega arith))

    opening-look : role_of k ≡ Opening → opening_findings (session01 h) (opening_by k raw) ≡ message_bits lim h (frame t k raw)
    unfolding session01 f3 f4 f5 f6 f7 f8 f9 f10 f11 f12
    opening-look e = rw e (simp differs_look (omega arith))

    command-look : role_of k ≡ Command → control_findings (head_at c lim cs true now h) (command_by k raw) ≡ message_bits lim h (frame t k raw)
    unfolding control_findings head_at session01 session_status session_control session_stop limit_of f3 f4 f5 f6 f7 f8 f9 f10 f11 f12
    command-look e = rw e (simp (open_look, unready_look, stopped_look, limit_look) (omega arith))

    finished-look : role_of k ≡ Finished → finished_findings (session01 h) ≡ message_bits lim h (frame t k raw)
    unfolding finished_findings session01 f3 f4 f5 f6 f7 f8 f9 f10 f11 f12
    finished-look e = rw e (simp open_look (omega arith))

    nothing : (r : Role) → role_of k ≡ r → Quiet r → 0 ≡ message_bits lim h (frame t k raw)
    nothing r e q = sym (no_bits lim h (frame t k raw) (unasked_frame t k raw r e q))

    message-role : (r : Role) → role_of k ≡ r → findings_by r (head_at c lim cs true now h) k raw ≡ message_bits lim h (frame t k raw)
    unfolding head_at
    message-role Status e = status-look e
    message-role Opening e = opening-look e
    message-role Command e = command-look e
    message-role Finished e = finished-look e
    message-role Limits e = nothing Limits e tt
    message-role Controller e = nothing Controller e tt
    message-role Stop e = nothing Stop e tt
    message-role Other e = nothing Other e tt

    message-look : message_findings (head_at c lim cs true now h) k raw ≡ message_bits lim h (frame t k raw)
    unfolding message_findings
    message-look = message-role (role_of k) refl

  pub findings_tick : (t : ℕ) → any_findings (head_at c lim cs true t h) ≡ findings01 lim h (tick t)
  findings_tick t = any_look (tick t) ∙ sym (only_f1_f2 lim h (tick t) (refl, refl, refl, refl))

  pub findings_frame : (t k raw : ℕ) → any_findings (head_at c lim cs true t h) + message_findings (head_at c lim cs true t h) k raw ≡ findings01 lim h (frame t k raw)
  unfolding findings01
  findings_frame t k raw = rw (any_look (frame t k raw), message-look t t k raw) (omega arith)
