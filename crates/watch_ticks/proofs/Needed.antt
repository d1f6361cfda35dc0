-- Each premise of the two theorems is needed: with it dropped, or 1 ms off, the rest holds of these lists and the theorem's claim does not.
use Rattle.std.specs.Prelude as std
use Prim.Native.Nat.{ℕ, ◌+◌, ◌<◌}
use native.Mathlib.Omega.{arith}
use borrow.Author.Tests.{lt-ltb, le-leb}
use mathlib.Core.Path.{◌≡◌, refl, ap, sym, ◌∙◌}
use mathlib.Core.Bool.{Bool, true, false, ◌&&◌, ◌||◌, true≢false}
use mathlib.Core.List.{List, [], ◌∷◌}
use mathlib.Core.Option.{some}
use lib.Dec.{ltb, leb}
use Rattle.message_parts.specs.Parts.{status_kind, session_kind, finished_kind}
use Rattle.rule_pages.specs.Roles.{role_of}
use Rattle.rule_pages.specs.Said.{opening_by}
use Rattle.rule_limits.specs.declared.PlainLimits.{PlainLimits}
use Rattle.rules.specs.SessionPart.{SessionPart}
use Rattle.rules.specs.declared.Record.{Record}
use Rattle.rules.specs.History.{Event, frame, tick, History, Said, said_at, time_of, since_finished, opening, in_session}
use Rattle.rules.specs.Times.{earlier_in, elapsed, latest_time, Unrolled}
use Rattle.rules.specs.Rules.{session_status, session_control, session_stop, f1, f2, f3, f4, f5, f6, f7, f8, f9, f10, f11, f12, findings01, Rule}
use Rattle.rules.specs.Record.{record_as_of, record_of}
use Rattle.watch_clock.specs.Differences.{said}
use Rattle.watch_ticks.specs.Marks.{Mark, kept, extra, whole, without, kept_of, found_of, judged}
use Rattle.watch_ticks.specs.Gaps.{gaps}
use Rattle.watch_ticks.specs.Unticked.{unticked}
use Rattle.watch_ticks.specs.Silence.{apart, TickedWithin, quiet_from, Told, Some, here, there}

-- W 100 ms
abbrev limits : PlainLimits
limits = record { voltage = 5000; charge = 1000; discharge = 500; silence = 100; sensor = 0; interface = 0 }

abbrev session : ℕ → Event
session t = frame t session_kind 258

abbrev status : ℕ → Event
status t = frame t status_kind 0xFF01414100000000

abbrev finished : ℕ → Event
finished t = frame t finished_kind 0

abbrev head : List ℕ → ℕ
head [] = 0
head (x ∷ l) = x

zero_one : ◌≡◌ {A = ℕ} 0 1 → ⊥
zero_one q = omega (arith, q)

-- ---- a silence: some event has F1 in the 100 ms after the silence passed W

abbrev tells_at : ℕ → History → Event → Bool
tells_at b h e = f1 limits h e && (ltb (b + limits.silence) (time_of e) && leb (time_of e) (b + limits.silence + apart))

abbrev tells : ℕ → History → Bool
tells b [] = false
tells b (e ∷ h) = tells_at b h e || tells b h

or_true : (a b : Bool) → b ≡ true → (a || b) ≡ true
or_true true b q = refl
or_true false b q = q

told_tells : (o : Said) (b : ℕ) (h : History) → Some (Told limits o b) h → tells b h ≡ true
told_tells o b [] x' = elim x' [ ]
told_tells o b (e ∷ h) (here t) = rw (t.finds, lt-ltb _ _ t.passed, le-leb _ _ t.soon) refl
told_tells o b (e ∷ h) (there more) = or_true (tells_at b h e) (tells b h) (told_tells o b h more)

-- no event tells of a silence since b
abbrev Untold : ℕ → History → Type 0
Untold b h = (o : Said) → Some (Told limits o b) h → ⊥

untold : (b : ℕ) (h : History) → tells b h ≡ false → Untold b h
untold b h q o told = true≢false (sym (told_tells o b h told) ∙ q)

-- a session that opened at o, silent since b, and ticks that come at most `most` ms apart until the time `to`
abbrev Quiet : ℕ → ℕ → ℕ → ℕ → History → Type 0
Quiet most o b to h = (opening h ≡ some (said_at o session_kind 258)) × (quiet_from o h ≡ b) × TickedWithin most o to (in_session h)

-- it is longer than W at the time `to`
abbrev Long : ℕ → ℕ → Type 0
Long b to = b + limits.silence < to

-- ticks 101 ms apart
abbrev far : History
far = tick 1201 ∷ tick 1100 ∷ session 1000 ∷ []

pub apart_needed : Unrolled (status 1202 ∷ far) × Quiet 101 1000 1000 1202 far × Long 1000 1202 × Untold 1000 (status 1202 ∷ far)
unfolding role_of opening_by since_finished opening in_session session_status f1 earlier_in
apart_needed = ((refl, refl, (refl, refl, (refl, refl, (refl, refl, tt)))), (refl, refl, (omega arith, (omega arith, omega arith))), omega arith, untold 1000 (status 1202 ∷ far) refl)

-- the last tick 101 ms before the silence's end
abbrev early : History
early = tick 1100 ∷ session 1000 ∷ []

pub last_needed : Unrolled (status 1201 ∷ early) × Quiet 101 1000 1000 1201 early × Long 1000 1201 × Untold 1000 (status 1201 ∷ early)
unfolding role_of opening_by since_finished opening in_session session_status f1 earlier_in
last_needed = ((refl, refl, (refl, refl, (refl, refl, tt))), (refl, refl, (omega arith, omega arith)), omega arith, untold 1000 (status 1201 ∷ early) refl)

-- the first tick 201 ms after the opening
abbrev late : History
late = tick 1201 ∷ session 1000 ∷ []

pub first_needed : Unrolled (status 1202 ∷ late) × Quiet 201 1000 1000 1202 late × Long 1000 1202 × Untold 1000 (status 1202 ∷ late)
unfolding role_of opening_by since_finished opening in_session session_status f1 earlier_in
first_needed = ((refl, refl, (refl, refl, (refl, refl, tt))), (refl, refl, (omega arith, omega arith)), omega arith, untold 1000 (status 1202 ∷ late) refl)

-- a silence of W and no more
pub long_needed : Unrolled (status 1100 ∷ early) × Quiet 100 1000 1000 1100 early × Untold 1000 (status 1100 ∷ early)
unfolding role_of opening_by since_finished opening in_session session_status f1 earlier_in
long_needed = ((refl, refl, (refl, refl, (refl, refl, tt))), (refl, refl, (omega arith, omega arith)), untold 1000 (status 1100 ∷ early) refl)

-- the session does not stay open
abbrev closed : History
closed = tick 1200 ∷ tick 1100 ∷ finished 1050 ∷ session 1000 ∷ []

pub open_needed : Unrolled (status 1201 ∷ closed) × TickedWithin 100 1000 1201 closed × Long 1000 1201 × Untold 1000 (status 1201 ∷ closed)
unfolding role_of opening_by since_finished opening in_session session_status f1 earlier_in
open_needed =
    ((refl, refl, (refl, refl, (refl, refl, (refl, refl, (refl, refl, tt))))), (omega arith, (omega arith, omega arith)), omega arith, untold 1000 (status 1201 ∷ closed) refl)

-- a status that would have been refused with 2
abbrev back : History
back = status 1000 ∷ tick 1101 ∷ status 1090 ∷ tick 1050 ∷ session 1000 ∷ []

pub order_needed : Quiet 100 1000 1000 1201 back × Long 1000 1201 × Untold 1000 (status 1201 ∷ back)
unfolding role_of opening_by since_finished opening in_session session_status f1 earlier_in
order_needed = ((refl, refl, (omega arith, (omega arith, omega arith))), omega arith, untold 1000 (status 1201 ∷ back) refl)

-- ---- ticks put in or taken out

-- the kept events have other findings
abbrev Differ : List Mark → List Mark → Type 0
Differ m n = kept_of m (judged limits (whole m)) ≡ kept_of n (judged limits (whole n)) → ⊥

-- a gap that differs by 1 ms
abbrev on : List Mark
on = kept (tick 1100) ∷ kept (session 1000) ∷ []

abbrev past : List Mark
past = kept (tick 1101) ∷ kept (session 1000) ∷ []

differ : (m n : List Mark) (k l : List ℕ) → kept_of m (judged limits (whole m)) ≡ k → kept_of n (judged limits (whole n)) ≡ l → (k ≡ l → ⊥) → Differ m n
differ m n k l p q other same = other (sym p ∙ same ∙ q)

pub gaps_needed : Unrolled (whole on) × Unrolled (whole past) × (said (without on) ≡ said (without past)) × Differ on past
unfolding role_of opening_by since_finished opening in_session session_status session_control session_stop f1 f2 f3 f4 f5 f6 f7 f8 f9 f10 f11 f12 findings01 earlier_in
gaps_needed =
    ((refl, refl, (refl, refl, tt)), (refl, refl, (refl, refl, tt)), refl, differ on past (0 ∷ 0 ∷ []) (1 ∷ 0 ∷ []) refl refl (λ q. zero_one (ap head q)))

-- another kept event
abbrev other : List Mark
other = kept (tick 1101) ∷ kept (status 1000) ∷ []

pub same_needed : Unrolled (whole other) × Unrolled (whole past) × (gaps (without other) ≡ gaps (without past)) × Differ other past
unfolding role_of opening_by since_finished opening in_session session_status session_control session_stop f1 f2 f3 f4 f5 f6 f7 f8 f9 f10 f11 f12 findings01 earlier_in
same_needed =
    ((refl, refl, (refl, refl, tt)), (refl, refl, (refl, refl, tt)), refl, differ other past (0 ∷ 0 ∷ []) (1 ∷ 0 ∷ []) refl refl (λ q. zero_one (ap head q)))

-- a list that was not accepted whole: its second tick would have been refused with 2
abbrev refused : List Mark
refused = kept (tick 501) ∷ kept (tick 0) ∷ kept (session 1000) ∷ []

abbrev taken : List Mark
taken = kept (tick 1501) ∷ kept (tick 1000) ∷ kept (session 1000) ∷ []

pub whole_needed : Unrolled (whole taken) × (said (without refused) ≡ said (without taken)) × (gaps (without refused) ≡ gaps (without taken)) × Differ refused taken
unfolding role_of opening_by since_finished opening in_session session_status session_control session_stop f1 f2 f3 f4 f5 f6 f7 f8 f9 f10 f11 f12 findings01 earlier_in
whole_needed =
    ((refl, refl, (refl, refl, (refl, refl, tt))), refl, refl, differ refused taken (0 ∷ 0 ∷ 0 ∷ []) (1 ∷ 0 ∷ 0 ∷ []) refl refl (λ q. zero_one (ap head q)))

-- a rule that asks of ticks: more than 100 ms since the latest event
abbrev asks_ticks : Rule
asks_ticks lim h e = ltb 100 (elapsed (time_of e) (latest_time h))

abbrev between : List Mark
between = kept (status 1150) ∷ extra 1100 ∷ kept (session 1000) ∷ []

abbrev nothing : List Mark
nothing = kept (status 1150) ∷ kept (session 1000) ∷ []

pub reads_needed : kept_of between (found_of (asks_ticks ∷ []) limits (whole between)) ≡ kept_of nothing (found_of (asks_ticks ∷ []) limits (whole nothing)) → ⊥
reads_needed q = true≢false (sym (ap flag q))
  where
    flag : List (List Bool) → Bool
    flag [] = false
    flag ([] ∷ l) = false
    flag ((b ∷ bs) ∷ l) = b

-- the record, where all is 1 ms later as it was received: the session is open since another time
abbrev since_in : SessionPart → ℕ
since_in std.None = 0
since_in (std.Some s) = s.since

pub received_needed : (said (session 1000 ∷ []) ≡ said (session 1001 ∷ [])) × (gaps (session 1000 ∷ []) ≡ gaps (session 1001 ∷ []))
    × (unticked (record_of 4 limits (session 1000 ∷ [])) ≡ unticked (record_of 4 limits (session 1001 ∷ [])) → ⊥)
unfolding role_of opening_by since_finished opening in_session session_status session_control session_stop record_as_of unticked
received_needed = (refl, refl, λ q. let z : ◌≡◌ {A = ℕ} 1000 1001 = ap (λ (r : Record). since_in r.session) q in omega (arith, z))
