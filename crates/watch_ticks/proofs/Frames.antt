-- What is looked for in a history and is no tick is found without its ticks too: so each of 01's rules reads the frames alone.
use Prim.Native.Nat.{ℕ}
use mathlib.Core.Path.{◌≡◌, refl, sym, ap, ◌∙◌}
use mathlib.Core.List.{[], ◌∷◌}
use mathlib.Core.Option.{Option, none, some}
use Rattle.message_types.specs.declared.DcPowerParameters.{DcPowerParameters}
use Rattle.rules.specs.History.{Event, frame, tick, History, Said, first, newest, oldest, unless, only_if, since_newest, after_oldest, status_of, command_of, limits_told, controller_of, opening_of, finished_of, stop_of, since_finished, opening, in_session}
use Rattle.rules.specs.Rules.{session_status, session_control, session_stop, limit_of, limit_by, f1, f2, f3, f4, f5, f6, f7, f8, f9, f10, f11, f12, rules01}
use Rattle.watch_ticks.specs.Marks.{frames, Tickless, ReadsFrames, Every}

first_none : {A : Type 0} (o : Option A) → first o none ≡ o
first_none none = refl
first_none (some a) = refl

module _ (asked : Event → Option Said) (silent : Tickless asked) where
  pub newest_frames : (h : History) → newest asked (frames h) ≡ newest asked h
  newest_frames [] = refl
  newest_frames (frame t k raw ∷ h) = rw (newest_frames h)
  newest_frames (tick t ∷ h) = rw (silent t) (newest_frames h)

  oldest-frames : (h : History) → oldest asked (frames h) ≡ oldest asked h
  oldest-frames [] = refl
  oldest-frames (frame t k raw ∷ h) = rw (oldest-frames h)
  oldest-frames (tick t ∷ h) = rw (silent t) (oldest-frames h ∙ sym (first_none (oldest asked h)))

  since-frames : (h : History) → since_newest asked (frames h) ≡ frames (since_newest asked h)
  since-frames [] = refl
  since-frames (frame t k raw ∷ h) = rw (since-frames h) (go (asked (frame t k raw)))
    where
      go : (o : Option Said) → unless o (frame t k raw ∷ frames (since_newest asked h)) ≡ frames (unless o (frame t k raw ∷ since_newest asked h))
      go none = refl
      go (some a) = refl
  since-frames (tick t ∷ h) = rw (silent t) (since-frames h)

  none_after : (h : History) → oldest asked h ≡ none → after_oldest asked h ≡ []
  none_after [] q = refl
  none_after (e ∷ h) q = go (oldest asked h) q
    where
      go : (o : Option Said) → first o (asked e) ≡ none → only_if o (e ∷ after_oldest asked h) ≡ []
      go none r = refl
      go (some a) r = cc

  after-frames : (h : History) → after_oldest asked (frames h) ≡ frames (after_oldest asked h)
  after-frames [] = refl
  after-frames (frame t k raw ∷ h) = rw (after-frames h, oldest-frames h) (go (oldest asked h))
    where
      go : (o : Option Said) → only_if o (frame t k raw ∷ frames (after_oldest asked h)) ≡ frames (only_if o (frame t k raw ∷ after_oldest asked h))
      go none = refl
      go (some a) = refl
  after-frames (tick t ∷ h) = after-frames h ∙ go (oldest asked h) refl
    where
      go : (o : Option Said) → oldest asked h ≡ o → frames (after_oldest asked h) ≡ frames (only_if o (tick t ∷ after_oldest asked h))
      go none q = ap frames (none_after h q)
      go (some a) q = refl

-- ---- the session, and what the rules look for

pub opening_frames : (h : History) → opening (frames h) ≡ opening h
unfolding opening since_finished
opening_frames h = rw (since-frames finished_of (λ t. refl) h) (oldest-frames opening_of (λ t. refl) (since_newest finished_of h))

session_frames : (h : History) → in_session (frames h) ≡ frames (in_session h)
unfolding in_session since_finished
session_frames h = rw (since-frames finished_of (λ t. refl) h) (after-frames opening_of (λ t. refl) (since_newest finished_of h))

pub status_frames : (h : History) → session_status (frames h) ≡ session_status h
unfolding session_status
status_frames h = rw (session_frames h) (newest_frames status_of (λ t. refl) (in_session h))

pub control_frames : (h : History) → session_control (frames h) ≡ session_control h
unfolding session_control
control_frames h = rw (session_frames h) (newest_frames command_of (λ t. refl) (in_session h))

pub stop_frames : (h : History) → session_stop (frames h) ≡ session_stop h
unfolding session_stop
stop_frames h = rw (session_frames h) (newest_frames stop_of (λ t. refl) (in_session h))

limit_frames : (most : ℕ) (number : DcPowerParameters → ℕ) (h : History) → limit_of most number (frames h) ≡ limit_of most number h
unfolding limit_of
limit_frames most number h = ap (limit_by most number) (newest_frames limits_told (λ t. refl) h)

controller_frames : (h : History) → newest controller_of (frames h) ≡ newest controller_of h
controller_frames h = newest_frames controller_of (λ t. refl) h

-- each of the rules
pub read_frames : Every ReadsFrames rules01
unfolding f1 f2 f3 f4 f5 f6 f7 f8 f9 f10 f11 f12
read_frames = (
  λ lim h e. rw (opening_frames h, status_frames h),
  (
    λ lim h e. rw (controller_frames h),
    (
      λ lim h e. rw (opening_frames h),
      (
        λ lim h e. rw (opening_frames h),
        (
          λ lim h e. rw (opening_frames h, status_frames h),
          (
            λ lim h e. refl,
            (
              λ lim h e. rw (limit_frames lim.voltage (λ p. p.voltage) h),
              (
                λ lim h e. rw (opening_frames h, limit_frames lim.charge (λ p. p.charge) h, limit_frames lim.discharge (λ p. p.discharge) h),
                (
                  λ lim h e. rw (opening_frames h, control_frames h),
                  (
                    λ lim h e. rw (opening_frames h),
                    (
                      λ lim h e. rw (opening_frames h),
                      (
                        λ lim h e. rw (opening_frames h, stop_frames h),
                        tt,
                      ),
                    ),
                  ),
                ),
              ),
            ),
          ),
        ),
      ),
    ),
  ),
)
