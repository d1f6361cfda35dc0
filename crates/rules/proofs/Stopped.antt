-- 02, Req 14: once an Emergency_Stop was accepted in an open session, each of the three functions has F12 until the session closes, whatever comes in between;
-- and from the session's end on none has it until the next stop.
use Prim.Native.Nat.{ℕ}
use mathlib.Core.Path.{◌≡◌, refl, sym}
use mathlib.Core.List.{[], ◌∷◌, ◌++◌}
use mathlib.Core.Bool.{true, false, true≢false}
use mathlib.Core.Option.{Option, none, some}
use Rattle.message_build.specs.message_parts.specs.Parts.{session_kind, control_kind, finished_kind, control_in}
use Rattle.older_types.specs.message_types.specs.KindNumbers.{stop_kind}
use Rattle.page_table.specs.Table.{rows, of_kind}
use Rattle.page_write.specs.Raws.{wholes_of, pad, raws_of}
use Rattle.signal.specs.Signal.{get_bits}
use Rattle.signal.specs.Twos.{to_signed}
use Rattle.rule_limits.specs.declared.PlainLimits.{PlainLimits}
use Rattle.rule_asks.specs.Judgements.{is_powered}
use Rattle.rule_pages.specs.declared.Role.TheVariants.{Finished, Stop}
use Rattle.rule_pages.specs.Roles.{role_of}
use Rattle.rule_pages.specs.Said.{command_by}
use Rattle.rules.specs.History.{Event, frame, tick, History, Said, said_at, first, newest, oldest, unless, only_if, since_newest, after_oldest, command_of, opening_of, finished_of, stop_of, since_finished, opening, in_session}
use Rattle.rules.specs.Rules.{is_open, session_stop, is_stopped, f12}
use Rattle.rules.proofs.Excludes.{and_false, ask_false}

-- ---- one event more

open_first : (a b : Option Said) → is_open a ≡ true → is_open (first a b) ≡ true
open_first none b e = absurd (true≢false (sym e))
open_first (some a) b e = refl

stopped_first : (a b : Option Said) → is_stopped b ≡ true → is_stopped (first a b) ≡ true
stopped_first none b e = e
stopped_first (some a) b e = refl

only_open : (o : Option Said) (l : History) → is_open o ≡ true → only_if o l ≡ l
only_open none l e = absurd (true≢false (sym e))
only_open (some o) l e = refl

-- a session is open, and a stop was accepted in it
abbrev pub StoppedIn : History → Type 0
StoppedIn h = (is_open (opening h) ≡ true) × (is_stopped (session_stop h) ≡ true)

module _ (h : History) (e : Event) (on : finished_of e ≡ none) (opened : is_open (opening h) ≡ true) where
  stays_open : is_open (opening (e ∷ h)) ≡ true
  unfolding opening since_finished
  stays_open = rw on (open_first (oldest opening_of (since_newest finished_of h)) (opening_of e) opened)

  session-next : in_session (e ∷ h) ≡ e ∷ in_session h
  unfolding opening in_session since_finished
  session-next = rw on (only_open (oldest opening_of (since_newest finished_of h)) (e ∷ after_oldest opening_of (since_newest finished_of h)) opened)

  stays-stopped : is_stopped (session_stop h) ≡ true → is_stopped (session_stop (e ∷ h)) ≡ true
  unfolding session_stop
  stays-stopped s = rw session-next (stopped_first (stop_of e) (newest stop_of (in_session h)) s)

stopped_by : (h : History) (t k raw : ℕ) → role_of k ≡ Stop → is_open (opening h) ≡ true → StoppedIn (frame t k raw ∷ h)
unfolding session_stop
stopped_by h t k raw r opened =
    let on : finished_of (frame t k raw) ≡ none = rw r in
    (stays_open h (frame t k raw) on opened, rw (session-next h (frame t k raw) on opened, r))

-- ---- until the session closes

abbrev pub Unfinished : History → Type 0
Unfinished [] = Unit {0}
Unfinished (e ∷ l) = (finished_of e ≡ none) × Unfinished l

stays : (later h : History) → Unfinished later → StoppedIn h → StoppedIn (later ++ h)
stays [] h u s = s
stays (e ∷ later) h u s =
    let z = stays later h u.1 s in
    (stays_open (later ++ h) e u.0 z.0, stays-stopped (later ++ h) e u.0 z.0 z.1)

-- THEOREM
pub f12_until_closed : (lim : PlainLimits) (h later : History) (t k raw : ℕ) → role_of k ≡ Stop → is_open (opening h) ≡ true → Unfinished later
    → (e : Event) (d : Said) → command_of e ≡ some d → is_powered (command_by d.kind d.raw).function ≡ true → f12 lim (later ++ (frame t k raw ∷ h)) e ≡ true
unfolding f12
f12_until_closed lim h later t k raw r opened u e d c p =
    let z = stays later (frame t k raw ∷ h) u (stopped_by h t k raw r opened) in
    rw (c, p, z.0, z.1)

-- ---- from its end on

abbrev pub Unstopped : History → Type 0
Unstopped [] = Unit {0}
Unstopped (e ∷ l) = (stop_of e ≡ none) × Unstopped l

unless_unstopped : (o : Option Said) (l : History) → Unstopped l → Unstopped (unless o l)
unless_unstopped none l u = u
unless_unstopped (some o) l u = tt

only_unstopped : (o : Option Said) (l : History) → Unstopped l → Unstopped (only_if o l)
only_unstopped none l u = tt
only_unstopped (some o) l u = u

after_unstopped : (l : History) → Unstopped l → Unstopped (after_oldest opening_of l)
after_unstopped [] u = tt
after_unstopped (e ∷ l) u = only_unstopped (oldest opening_of l) (e ∷ after_oldest opening_of l) (u.0, after_unstopped l u.1)

newest_unstopped : (l : History) → Unstopped l → newest stop_of l ≡ none
newest_unstopped [] u = refl
newest_unstopped (e ∷ l) u = rw u.0 (newest_unstopped l u.1)

since_unstopped : (later h : History) (t k raw : ℕ) → role_of k ≡ Finished → Unstopped later → Unstopped (since_newest finished_of (later ++ (frame t k raw ∷ h)))
since_unstopped [] h t k raw r u = rw r tt
since_unstopped (e ∷ later) h t k raw r u =
    unless_unstopped (finished_of e) (e ∷ since_newest finished_of (later ++ (frame t k raw ∷ h))) (u.0, since_unstopped later h t k raw r u.1)

-- THEOREM
pub no_f12_after_the_end : (lim : PlainLimits) (h later : History) (t k raw : ℕ) → role_of k ≡ Finished → Unstopped later
    → (e : Event) → f12 lim (later ++ (frame t k raw ∷ h)) e ≡ false
unfolding f12 session_stop in_session since_finished
no_f12_after_the_end lim h later t k raw r u e =
    let n : newest stop_of (in_session (later ++ (frame t k raw ∷ h))) ≡ none =
    newest_unstopped (after_oldest opening_of (since_newest finished_of (later ++ (frame t k raw ∷ h))))
    (after_unstopped (since_newest finished_of (later ++ (frame t k raw ∷ h))) (since_unstopped later h t k raw r u)) in
    simp (n, and_false, ask_false)

-- ---- on a session that was stopped at 1 and ends at 4: power transfer at 3, with a tick before it, and at 6 in the next session

abbrev limits : PlainLimits
limits = record { voltage = 5000; charge = 1000; discharge = 500; silence = 500; sensor = 0; interface = 0 }

abbrev opened : History
opened = frame 0 session_kind 0x0102 ∷ []

abbrev stopped : History
stopped = tick 2 ∷ frame 1 stop_kind 1 ∷ opened

abbrev transfer : ℕ → Event
transfer t = frame t control_kind 0x08000000000000

computed : (role_of stop_kind ≡ Stop) × (is_open (opening opened) ≡ true) × (command_of (transfer 3) ≡ some (said_at 3 control_kind 0x08000000000000))
    × (is_powered (command_by control_kind 0x08000000000000).function ≡ true) × (role_of finished_kind ≡ Finished) × (stop_of (frame 5 session_kind 0x0102) ≡ none)
unfolding role_of opening since_finished command_by control_in rows of_kind wholes_of pad raws_of get_bits to_signed
computed = (refl, refl, refl, refl, refl, refl)

pub stopped_f12 : f12 limits stopped (transfer 3) ≡ true
stopped_f12 =
    f12_until_closed limits opened (tick 2 ∷ []) 1 stop_kind 1 computed.0 computed.1 (refl, tt) (transfer 3) (said_at 3 control_kind 0x08000000000000) computed.2 computed.3

pub next_no_f12 : f12 limits (frame 5 session_kind 0x0102 ∷ frame 4 finished_kind 0 ∷ transfer 3 ∷ stopped) (transfer 6) ≡ false
next_no_f12 = no_f12_after_the_end limits (transfer 3 ∷ stopped) (frame 5 session_kind 0x0102 ∷ []) 4 finished_kind 0 computed.4 (computed.5, tt) (transfer 6)
