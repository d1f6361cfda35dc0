-- The session's part after one event more is that of the longer history.
use Prim.Native.Nat.{ℕ}
use mathlib.Core.Path.{◌≡◌, refl, ◌∙◌}
use mathlib.Core.List.{◌∷◌}
use mathlib.Core.Option.{Option, none, some}
use Rattle.rule_pages.specs.declared.Role.{Role}
use Rattle.rule_pages.specs.declared.Role.TheVariants.{Other, Status, Limits, Controller, Opening, Command, Finished, Stop}
use Rattle.rule_pages.specs.Roles.{role_of}
use Rattle.rules.specs.declared.Session.{Session}
use Rattle.rules.specs.History.{Event, frame, History, Said, first, oldest, only_if, after_oldest, opening_of, finished_of, stop_of, since_finished, opening, in_session}
use Rattle.rules.specs.Record.{slot_at, kept_of, session_of, session01}
use Rattle.rules.specs.After.{session_after}
use Rattle.rules.proofs.Unasked.{Unasked, Quiet, unasked_frame}

-- ---- over the opening before the event and the session's events so far

abbrev session_before : Option Said → History → Session
session_before o a = session_of o (kept_of a)

abbrev session_with : Option Said → History → Event → Session
session_with o a e = session_of (first o (opening_of e)) (kept_of (only_if o (e ∷ a)))

module _ (a : History) (t k raw : ℕ) where
  abbrev Goes : Role → Option Said → Type 0
  Goes r o = role_of k ≡ r → session_after (session_before o a) k (slot_at t k raw) ≡ session_with o a (frame t k raw)

  goes-status : (o : Option Said) → Goes Status o
  unfolding session_after
  goes-status none e = rw e
  goes-status (some o) e = rw e

  goes-opening : (o : Option Said) → Goes Opening o
  unfolding session_after
  goes-opening none e = rw e
  goes-opening (some o) e = rw e

  goes-command : (o : Option Said) → Goes Command o
  unfolding session_after
  goes-command none e = rw e
  goes-command (some o) e = rw e

  goes-stop : (o : Option Said) → Goes Stop o
  unfolding session_after
  goes-stop none e = rw e
  goes-stop (some o) e = rw e

stays : (o : Option Said) (a : History) (e : Event) → Unasked e → stop_of e ≡ none → session_before o a ≡ session_with o a e
stays none a e un on = rw un.1
stays (some o) a e un on = rw (un.0, un.2, on)

-- ---- over the history

module _ (h : History) where
  abbrev before : Option Said
  before = oldest opening_of (since_finished h)

  abbrev events : History
  events = after_oldest opening_of (since_finished h)

  -- an event of none of the four kinds, that is no stop either, leaves the session as it was
  pub session_stays : (e : Event) → Unasked e → stop_of e ≡ none → session01 h ≡ session01 (e ∷ h)
  unfolding session01 opening in_session since_finished
  session_stays e un on = rw un.3 (stays before events e un on)

  module _ (t k raw : ℕ) where
    abbrev Steps : Type 0
    Steps = session_after (session01 h) k (slot_at t k raw) ≡ session01 (frame t k raw ∷ h)

    -- a frame that no rule asks for, and that is no stop
    steps-quiet : (r : Role) → role_of k ≡ r → Quiet r → stop_of (frame t k raw) ≡ none → session_after (session01 h) k (slot_at t k raw) ≡ session01 h → Steps
    steps-quiet r e q on same = same ∙ session_stays (frame t k raw) (unasked_frame t k raw r e q) on

    session-role : (r : Role) → role_of k ≡ r → Steps
    unfolding session01 opening in_session since_finished session_after
    session-role Status e = let on : finished_of (frame t k raw) ≡ none = rw e in rw on (goes-status events t k raw before e)
    session-role Opening e = let on : finished_of (frame t k raw) ≡ none = rw e in rw on (goes-opening events t k raw before e)
    session-role Command e = let on : finished_of (frame t k raw) ≡ none = rw e in rw on (goes-command events t k raw before e)
    session-role Stop e = let on : finished_of (frame t k raw) ≡ none = rw e in rw on (goes-stop events t k raw before e)
    session-role Finished e = rw e
    session-role Limits e = steps-quiet Limits e tt (rw e) (rw e)
    session-role Controller e = steps-quiet Controller e tt (rw e) (rw e)
    session-role Other e = steps-quiet Other e tt (rw e) (rw e)

  pub session_frame : (t k raw : ℕ) → session_after (session01 h) k (slot_at t k raw) ≡ session01 (frame t k raw ∷ h)
  session_frame t k raw = session-role t k raw (role_of k) refl
