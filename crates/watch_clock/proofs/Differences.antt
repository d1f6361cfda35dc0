-- 02, Req 09: unrolled times are the first time plus the differences, and findings and record hang on the differences alone.
use Prim.Native.Nat.{ℕ, ◌+◌, ◌-◌, ◌<◌}
use native.Mathlib.Omega.{arith}
use mathlib.Core.Path.{◌≡◌, refl, sym, ap, ap₂, ◌∙◌}
use mathlib.Core.List.{[], ◌∷◌, map}
use Rattle.rule_limits.specs.declared.PlainLimits.{PlainLimits}
use Rattle.rules.specs.History.{Event, frame, tick, History, time_of}
use Rattle.rules.specs.Times.{received_of, wrapped, stamp_of, latest_time, Unrolled}
use Rattle.rules.specs.Rules.{findings01}
use Rattle.rules.specs.Record.{record_of}
use Rattle.rules.proofs.Unrolled.{received_stamp}
use Rattle.watch_clock.specs.Later.{retime, delay, delayed, still}
use Rattle.watch_clock.specs.Differences.{differences_to, differences, total, first_before, first_of, received, said_by, said, InStep}
use Rattle.watch_clock.proofs.Wrapped.{wrapped_from}
use Rattle.watch_clock.proofs.Delayed.{findings_delayed, record_delayed}

-- ---- the sum

sum_next : (h : History) (t : ℕ) → latest_time h ≡ first_of (received h) + total (differences (received h))
    → stamp_of h (received_of t) ≡ first_before (received_of t) (received h) + total (differences_to (received_of t) (received h))
sum_next [] t before = omega arith
sum_next (e ∷ h) t before = omega (arith, before, wrapped_from (received_of t) (time_of e))

-- "unrolled times, the sum of accepted differences": the latest time is the first one and that sum, and so is each, as the latest of those up to it
pub time_sum : (h : History) → Unrolled h → latest_time h ≡ first_of (received h) + total (differences (received h))
time_sum [] un = refl
time_sum (e ∷ h) un = un.0 ∙ sum_next h (time_of e) (time_sum h un.2)

-- an event is kept at a time whose low 32 bits are its time as received
pub time_received : (h : History) (t : ℕ) → t < 4294967296 → received_of (stamp_of h t) ≡ t
time_received h t low = omega (arith, received_stamp h t)

-- ---- two histories in step are one history at two times

delay_more : (a d : ℕ) (e : Event) → delay (a + d) e ≡ delay d (delay a e)
delay_more a d (frame t k raw) = let z : t + (a + d) ≡ t + a + d = omega arith in rw z
delay_more a d (tick t) = let z : t + (a + d) ≡ t + a + d = omega arith in rw z

delayed_more : (a d : ℕ) (h : History) → delayed (a + d) h ≡ delayed d (delayed a h)
delayed_more a d [] = refl
delayed_more a d (e ∷ h) = ap₂ ◌∷◌ (delay_more a d e) (delayed_more a d h)

pub on_both : (a b d : ℕ) (h g : History) → delayed b h ≡ delayed a g → delayed (b + d) h ≡ delayed (a + d) g
on_both a b d h g same = delayed_more b d h ∙ ap (delayed d) same ∙ sym (delayed_more a d g)

pub crossed : (e f : Event) → said_by e ≡ said_by f → delay (time_of f) e ≡ delay (time_of e) f
crossed (frame t k raw) (frame s j raw2) q =
    let z : t + s ≡ s + t = omega arith in
    let w : ◌≡◌ {A = ℕ × ℕ} (k, raw) (j, raw2) = cc in
    let y : k ≡ j = ap (λ (m : ℕ × ℕ). m.0) w in
    let x : raw ≡ raw2 = ap (λ (m : ℕ × ℕ). m.1) w in
    rw (z, y, x)
crossed (frame t k raw) (tick s) q = absurd (let z : ◌≡◌ {A = ℕ} 0 1 = cc in let y : ⊥ = omega (arith, z) in y)
crossed (tick t) (frame s j raw2) q = absurd (let z : ◌≡◌ {A = ℕ} 0 1 = cc in let y : ⊥ = omega (arith, z) in y)
crossed (tick t) (tick s) q = let z : t + s ≡ s + t = omega arith in rw z

-- what came before two events that were received after the same difference
before_same : (h g : History) (t s : ℕ) → said h ≡ said g → differences_to (received_of t) (received h) ≡ differences_to (received_of s) (received g)
    → (differences (received h) ≡ differences (received g) → delayed (latest_time g) h ≡ delayed (latest_time h) g)
    → delayed (stamp_of g (received_of s)) h ≡ delayed (stamp_of h (received_of t)) g
before_same [] [] t s what apart rest = refl
before_same [] (f ∷ g) t s what apart rest = absurd (let z : ◌≡◌ {A = ℕ} 0 1 = cc in let y : ⊥ = omega (arith, z) in y)
before_same (e ∷ h) [] t s what apart rest = absurd (let z : ◌≡◌ {A = ℕ} 0 1 = cc in let y : ⊥ = omega (arith, z) in y)
before_same (e ∷ h) (f ∷ g) t s what apart rest =
    let first : wrapped (received_of t) (received_of (time_of e)) ≡ wrapped (received_of s) (received_of (time_of f)) = cc in
    let others : differences (received (e ∷ h)) ≡ differences (received (f ∷ g)) = cc in
    let same : wrapped (received_of s) (time_of f) ≡ wrapped (received_of t) (time_of e) =
    sym (wrapped_from (received_of s) (time_of f)) ∙ sym first ∙ wrapped_from (received_of t) (time_of e) in
    ap (λ (w : ℕ). delayed (time_of f + w) (e ∷ h)) same
    ∙ on_both (time_of e) (time_of f) (wrapped (received_of t) (time_of e)) (e ∷ h) (f ∷ g) (rest others)

pub same_but_later : (h g : History) → Unrolled h → Unrolled g → InStep h g → delayed (latest_time g) h ≡ delayed (latest_time h) g
same_but_later [] [] un vn step = refl
same_but_later [] (f ∷ g) un vn step = absurd (let z : ◌≡◌ {A = ℕ} 0 1 = cc step.0 in let y : ⊥ = omega (arith, z) in y)
same_but_later (e ∷ h) [] un vn step = absurd (let z : ◌≡◌ {A = ℕ} 0 1 = cc step.0 in let y : ⊥ = omega (arith, z) in y)
same_but_later (e ∷ h) (f ∷ g) un vn step =
    let what : said_by e ≡ said_by f = cc step.0 in
    let others : said h ≡ said g = cc step.0 in
    ap₂ ◌∷◌ (crossed e f what)
    (ap (λ (n : ℕ). delayed n h) vn.0
    ∙ before_same h g (time_of e) (time_of f) others step.1 (λ apart. same_but_later h g un.2 vn.2 (others, apart))
    ∙ ap (λ (n : ℕ). delayed n g) (sym un.0))

-- ---- one history at two times

pub findings_later : (a b : ℕ) (lim : PlainLimits) (h g : History) (e f : Event) → delayed b (e ∷ h) ≡ delayed a (f ∷ g) → findings01 lim h e ≡ findings01 lim g f
findings_later a b lim h g e f same =
    let now : delay b e ≡ delay a f = cc in
    let before : delayed b h ≡ delayed a g = cc in
    sym (findings_delayed b lim h e) ∙ ap₂ (findings01 lim) before now ∙ findings_delayed a lim g f

pub record_later : (a b c : ℕ) (lim : PlainLimits) (h g : History) → delayed b h ≡ delayed a g → still (record_of c lim h) ≡ still (record_of c lim g)
record_later a b c lim h g same =
    sym (record_delayed b c lim h) ∙ ap (λ (x : History). still (record_of c lim x)) same ∙ record_delayed a c lim g

-- ---- 02, Req 09: what hangs on the differences alone

-- the findings of an event over the history before it
pub findings_by_differences : (lim : PlainLimits) (h g : History) (e f : Event) → Unrolled (e ∷ h) → Unrolled (f ∷ g) → InStep (e ∷ h) (f ∷ g)
    → findings01 lim h e ≡ findings01 lim g f
findings_by_differences lim h g e f un vn step = findings_later (time_of e) (time_of f) lim h g e f (same_but_later (e ∷ h) (f ∷ g) un vn step)

-- the record but for the times as received
pub record_by_differences : (c : ℕ) (lim : PlainLimits) (h g : History) → Unrolled h → Unrolled g → InStep h g → still (record_of c lim h) ≡ still (record_of c lim g)
record_by_differences c lim h g un vn step = record_later (latest_time h) (latest_time g) c lim h g (same_but_later h g un vn step)

-- ---- and with the first time the whole history does

sooner : (d : ℕ) (e : Event) → retime (λ t. t - d) (delay d e) ≡ e
sooner d (frame t k raw) = let z : t + d - d ≡ t = omega arith in rw z
sooner d (tick t) = let z : t + d - d ≡ t = omega arith in rw z

all_sooner : (d : ℕ) (h : History) → map (retime (λ t. t - d)) (delayed d h) ≡ h
all_sooner d [] = refl
all_sooner d (e ∷ h) = ap₂ ◌∷◌ (sooner d e) (all_sooner d h)

pub same_by_first : (h g : History) → Unrolled h → Unrolled g → InStep h g → first_of (received h) ≡ first_of (received g) → h ≡ g
same_by_first h g un vn step first =
    let z : latest_time h ≡ latest_time g = time_sum h un ∙ ap₂ (λ (a b : ℕ). a + b) first (ap total step.1) ∙ sym (time_sum g vn) in
    sym (all_sooner (latest_time g) h)
    ∙ ap (map (retime (λ t. t - latest_time g))) (same_but_later h g un vn step ∙ ap (λ (n : ℕ). delayed n g) z)
    ∙ all_sooner (latest_time g) g
