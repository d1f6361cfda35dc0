-- Looking back over a history whose events stand at other times finds the same events at those times.
use Prim.Native.Nat.{ℕ}
use mathlib.Core.Path.{◌≡◌, refl}
use mathlib.Core.List.{[], ◌∷◌, map}
use mathlib.Core.Bool.{Bool, true, false, cond}
use mathlib.Core.Option.{Option, none, some}
use lib.Dec.{eqb}
use Rattle.rule_pages.specs.declared.Role.{Role}
use Rattle.rule_pages.specs.declared.Role.TheVariants.{Status, Opening, Command, Finished, Stop}
use Rattle.rule_pages.specs.Roles.{role_of}
use Rattle.rule_pages.specs.Places.{place_by}
use Rattle.rules.specs.History.{Event, frame, tick, History, Said, said_at, role_number, time_of, first, newest, oldest, unless, only_if, since_newest, after_oldest, of_kind, asked, status_of, command_of, opening_of, finished_of, stop_of, since_finished, opening, in_session}
use Rattle.rules.specs.Rules.{session_status, session_control, session_stop}
use Rattle.rules.specs.Record.{at_place}
use Rattle.watch_clock.specs.Later.{retime, at_time, Timely}

-- a frame that is asked for by a test of its kind
said_timely : (f : ℕ → ℕ) (t k raw : ℕ) (b : Bool) → cond b (some (said_at (f t) k raw)) none ≡ at_time f (cond b (some (said_at t k raw)) none)
said_timely f t k raw true = refl
said_timely f t k raw false = refl

pub kind_timely : (k : ℕ) → Timely (of_kind k)
kind_timely k f (tick t) = refl
kind_timely k f (frame t j raw) = said_timely f t j raw (eqb j k)

pub role_timely : (r : Role) → Timely (asked r)
role_timely r f (tick t) = refl
role_timely r f (frame t k raw) = said_timely f t k raw (eqb (role_number r) (role_number (role_of k)))

pub place_timely : (j : ℕ) → Timely (at_place j)
place_timely j f (tick t) = refl
place_timely j f (frame t k raw) = said_timely f t k raw (eqb (place_by k) j)

module _ (f : ℕ → ℕ) where
  pub time_retimed : (e : Event) → time_of (retime f e) ≡ f (time_of e)
  time_retimed (frame t k raw) = refl
  time_retimed (tick t) = refl

  first-retimed : (a b : Option Said) → first (at_time f a) (at_time f b) ≡ at_time f (first a b)
  first-retimed none b = refl
  first-retimed (some a) b = refl

  unless-retimed : (o : Option Said) (s : History) → unless (at_time f o) (map (retime f) s) ≡ map (retime f) (unless o s)
  unless-retimed none s = refl
  unless-retimed (some a) s = refl

  only-retimed : (o : Option Said) (s : History) → only_if (at_time f o) (map (retime f) s) ≡ map (retime f) (only_if o s)
  only-retimed none s = refl
  only-retimed (some a) s = refl

  -- ---- any question

  module _ (question : Event → Option Said) (timely : Timely question) where
    pub newest_retimed : (h : History) → newest question (map (retime f) h) ≡ at_time f (newest question h)
    newest_retimed [] = refl
    newest_retimed (e ∷ h) = rw (timely f e, newest_retimed h) (first-retimed (question e) (newest question h))

    pub oldest_retimed : (h : History) → oldest question (map (retime f) h) ≡ at_time f (oldest question h)
    oldest_retimed [] = refl
    oldest_retimed (e ∷ h) = rw (timely f e, oldest_retimed h) (first-retimed (oldest question h) (question e))

    pub since_retimed : (h : History) → since_newest question (map (retime f) h) ≡ map (retime f) (since_newest question h)
    since_retimed [] = refl
    since_retimed (e ∷ h) = rw (timely f e, since_retimed h) (unless-retimed (question e) (e ∷ since_newest question h))

    pub after_retimed : (h : History) → after_oldest question (map (retime f) h) ≡ map (retime f) (after_oldest question h)
    after_retimed [] = refl
    after_retimed (e ∷ h) = rw (oldest_retimed h, after_retimed h) (only-retimed (oldest question h) (e ∷ after_oldest question h))

  -- ---- the session

  pub opening_retimed : (h : History) → opening (map (retime f) h) ≡ at_time f (opening h)
  unfolding opening since_finished
  opening_retimed h =
      rw (since_retimed finished_of (role_timely Finished) h) (oldest_retimed opening_of (role_timely Opening) (since_newest finished_of h))

  pub session_retimed : (h : History) → in_session (map (retime f) h) ≡ map (retime f) (in_session h)
  unfolding in_session since_finished
  session_retimed h =
      rw (since_retimed finished_of (role_timely Finished) h) (after_retimed opening_of (role_timely Opening) (since_newest finished_of h))

  pub status_retimed : (h : History) → session_status (map (retime f) h) ≡ at_time f (session_status h)
  unfolding session_status
  status_retimed h = rw (session_retimed h) (newest_retimed status_of (role_timely Status) (in_session h))

  pub control_retimed : (h : History) → session_control (map (retime f) h) ≡ at_time f (session_control h)
  unfolding session_control
  control_retimed h = rw (session_retimed h) (newest_retimed command_of (role_timely Command) (in_session h))

  pub stop_retimed : (h : History) → session_stop (map (retime f) h) ≡ at_time f (session_stop h)
  unfolding session_stop
  stop_retimed h = rw (session_retimed h) (newest_retimed stop_of (role_timely Stop) (in_session h))
