-- The times of accepted events never fall, and what a look back finds is no later than the latest event.
use Prim.Native.Nat.{ℕ, ◌≤◌}
use native.Mathlib.Omega.{arith}
use mathlib.Core.Path.{◌≡◌, refl, sym, subst, ◌∙◌}
use mathlib.Core.List.{[], ◌∷◌}
use mathlib.Core.Option.{Option, none, some}
use Rattle.rule_pages.specs.declared.Role.TheVariants.{Status, Opening, Command, Finished, Stop}
use Rattle.rules.specs.History.{Event, frame, tick, History, Said, time_of, first, newest, oldest, unless, only_if, since_newest, after_oldest, status_of, command_of, opening_of, finished_of, stop_of, since_finished, opening, in_session}
use Rattle.rules.specs.Times.{received_of, stamp_of, latest_time, Unrolled}
use Rattle.rules.specs.Rules.{session_status, session_control, session_stop}
use Rattle.watch_clock.specs.Later.{retime, at_time, Timely, Rising, NoneAfter, FoundBy}
use Rattle.watch_clock.proofs.Later.{role_timely}

pub stamp_later : (h : History) (t : ℕ) → latest_time h ≤ stamp_of h t
stamp_later [] t = omega arith
stamp_later (e ∷ h) t = omega arith

-- 02, Req 09: the unrolled times of what was accepted one after the other
pub rising : (h : History) → Unrolled h → Rising h
rising [] un = tt
rising (e ∷ h) un = (omega (arith, un.0, stamp_later h (received_of (time_of e))), rising h un.2)

none_after_more : (a b : ℕ) (h : History) → a ≤ b → NoneAfter a h → NoneAfter b h
none_after_more a b [] le p = tt
none_after_more a b (e ∷ h) le p = (omega (arith, le, p.0), none_after_more a b h le p.1)

-- no event is later than the latest, nor than what came after it
pub none_after : (now : ℕ) (h : History) → Rising h → latest_time h ≤ now → NoneAfter now h
none_after now [] p le = tt
none_after now (e ∷ h) p le = (le, none_after_more (time_of e) now h le (none_after (time_of e) h p.1 p.0))

-- ---- what a look back finds

retime_own : (e : Event) → retime (λ t. time_of e) e ≡ e
retime_own (frame t k raw) = refl
retime_own (tick t) = refl

module _ (now : ℕ) where
  first_by : (a b : Option Said) → FoundBy now a → FoundBy now b → FoundBy now (first a b)
  first_by none b p q = q
  first_by (some a) b p q = p

  unless-by : (o : Option Said) (s : History) → NoneAfter now s → NoneAfter now (unless o s)
  unless-by none s p = p
  unless-by (some a) s p = tt

  only-by : (o : Option Said) (s : History) → NoneAfter now s → NoneAfter now (only_if o s)
  only-by none s p = tt
  only-by (some a) s p = p

  at-by : (t : ℕ) (o : Option Said) → t ≤ now → FoundBy now (at_time (λ s. t) o)
  at-by t none le = tt
  at-by t (some m) le = le

  module _ (asked : Event → Option Said) (timely : Timely asked) where
    asked_by : (e : Event) → time_of e ≤ now → FoundBy now (asked e)
    asked_by e le =
        let own : asked e ≡ at_time (λ s. time_of e) (asked e) = sym (ap-own e) ∙ timely (λ s. time_of e) e in
        subst (FoundBy now) (sym own) (at-by (time_of e) (asked e) le)
      where
        ap-own : (x : Event) → asked (retime (λ t. time_of x) x) ≡ asked x
        ap-own x = rw (retime_own x)

    pub newest_by : (h : History) → NoneAfter now h → FoundBy now (newest asked h)
    newest_by [] p = tt
    newest_by (e ∷ h) p = first_by (asked e) (newest asked h) (asked_by e p.0) (newest_by h p.1)

    pub oldest_by : (h : History) → NoneAfter now h → FoundBy now (oldest asked h)
    oldest_by [] p = tt
    oldest_by (e ∷ h) p = first_by (oldest asked h) (asked e) (oldest_by h p.1) (asked_by e p.0)

    pub since_by : (h : History) → NoneAfter now h → NoneAfter now (since_newest asked h)
    since_by [] p = tt
    since_by (e ∷ h) p = unless-by (asked e) (e ∷ since_newest asked h) (p.0, since_by h p.1)

    pub after_by_lem : (h : History) → NoneAfter now h → NoneAfter now (after_oldest asked h)
    after_by_lem [] p = tt
    after_by_lem (e ∷ h) p = only-by (oldest asked h) (e ∷ after_oldest asked h) (p.0, after_by_lem h p.1)

  module _ (h : History) (none-later : NoneAfter now h) where
    since-finished-by : NoneAfter now (since_newest finished_of h)
    since-finished-by = since_by finished_of (role_timely Finished) h none-later

    pub opening_by_lem : FoundBy now (opening h)
    unfolding opening since_finished
    opening_by_lem = oldest_by opening_of (role_timely Opening) (since_newest finished_of h) since-finished-by

    pub session_by_lem : NoneAfter now (in_session h)
    unfolding in_session since_finished
    session_by_lem = after_by_lem opening_of (role_timely Opening) (since_newest finished_of h) since-finished-by

    pub status_by_lem : FoundBy now (session_status h)
    unfolding session_status
    status_by_lem = newest_by status_of (role_timely Status) (in_session h) session_by_lem

    pub control_by : FoundBy now (session_control h)
    unfolding session_control
    control_by = newest_by command_of (role_timely Command) (in_session h) session_by_lem

    pub stop_by : FoundBy now (session_stop h)
    unfolding session_stop
    stop_by = newest_by stop_of (role_timely Stop) (in_session h) session_by_lem
