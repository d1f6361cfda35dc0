-- Writing a record: it is logged exactly where the log can hold it and the buffer is long enough, and then only its own bytes change; a
-- short buffer is judged last.
use Rattle.std.specs.Prelude.{Ok, Err}
use mathlib.Core.Path.{◌≡◌, refl, sym, ap, ◌∙◌}
use mathlib.Core.Bool.{Bool, true, false, cond}
use mathlib.Core.List.{List, ◌++◌}
use Prim.Native.Nat.{ℕ, ◌+◌, ◌≤◌, ◌<◌}
use native.Mathlib.Omega.{arith}
use lib.ListN.{length, take, drop}
use lib.Seq.{sets, sets-eq, length-sets, take_at, drop_at}
use lib.Dec.{ltb, leb}
use borrow.Author.Tests.{lt-ltb, le-ltb, lt-leb, ltb-true, ltb-false, leb-false}
use Rattle.refusals.specs.declared.Refusal.{Refusal}
use Rattle.refusals.specs.declared.Refusal.TheVariants.{LogChannel, LogLength, ShortBuffer}
use Rattle.refusals.specs.Refusals.{number_of}
use Rattle.log_write.specs.Logged.{Logged}
use Rattle.log_records.specs.Record.{Rec, tick, frame, identifiers, record_bytes, Loggable}
use Rattle.log_records.specs.Reading.{above_of}
use Rattle.log_write.specs.Writing.{Timed, judged, written_of, stored, buffer_after}

-- the answer to a record of l bytes that the log can hold
abbrev roomed : List ℕ → ℕ → Logged
roomed out l = cond (ltb (length out) l) (Err ShortBuffer) (Ok l)

-- ---- what the log can hold goes on to the buffer

goes_on : (x : Rec) (out : List ℕ) → Loggable x → written_of x out ≡ roomed out (length (record_bytes x))
unfolding written_of
goes_on (tick t c) out h = rw (le-ltb 31 c h.1)
goes_on (frame t c x i p) out h = rw (le-ltb 31 c h.1, lt-leb (identifiers x) i h.2, le-ltb 8 (length p) h.3)

-- "Whatever the log can hold is logged"
pub loggable_written : (x : Rec) (out : List ℕ) → Loggable x → length (record_bytes x) ≤ length out → written_of x out ≡ Ok (length (record_bytes x))
loggable_written x out h room = goes_on x out h ∙ rw (le-ltb (length out) (length (record_bytes x)) room)

-- "a short buffer gives 8, last"
pub short_last : (x : Rec) (out : List ℕ) → Loggable x → length out < length (record_bytes x) → written_of x out ≡ Err ShortBuffer
short_last x out h short = goes_on x out h ∙ rw (lt-ltb (length out) (length (record_bytes x)) short)

-- ---- what goes on to the buffer the log can hold

cond_else : (b : Bool) (x y r : Logged) → (x ≡ r → ⊥) → cond b x y ≡ r → (b ≡ false) × (y ≡ r)
cond_else true x y r n e = absurd (n e)
cond_else false x y r n e = (refl, e)

-- 02: "each get a refusal above 15"; r is none of them
abbrev Later : Logged → Type 0
Later r = (v : Refusal) → 15 < number_of v → Err v ≡ r → ⊥

later_bytes : (n : ℕ) → Later (Ok n)
later_bytes n v h e = let z : ◌≡◌ {A = ℕ} 0 1 = cc in omega arith

later_short : Later (Err ShortBuffer)
later_short v h e = let z : v ≡ ShortBuffer = cc in omega (arith, ap number_of z)

above_high : (x : Bool) → 15 < number_of (above_of x)
above_high true = omega arith
above_high false = omega arith

judged_later : (x : Rec) (w r : Logged) → Later r → judged x w ≡ r → (Timed x → Loggable x) × (w ≡ r)
judged_later (tick t c) w r g e =
    let s = cond_else (ltb 31 c) (Err LogChannel) w r (g LogChannel (omega arith)) e in
    (λ h. (h, ltb-false 31 c s.0), s.1)
judged_later (frame t c x i p) w r g e =
    let rest = cond (ltb 8 (length p)) (Err LogLength) w in
    let s₁ = cond_else (ltb 31 c) (Err LogChannel) (cond (leb (identifiers x) i) (Err (above_of x)) rest) r (g LogChannel (omega arith)) e in
    let s₂ = cond_else (leb (identifiers x) i) (Err (above_of x)) rest r (g (above_of x) (above_high x)) s₁.1 in
    let s₃ = cond_else (ltb 8 (length p)) (Err LogLength) w r (g LogLength (omega arith)) s₂.1 in
    (λ h. (h, ltb-false 31 c s₁.0, leb-false (identifiers x) i s₂.0, ltb-false 8 (length p) s₃.0), s₃.1)

written_later : (x : Rec) (out : List ℕ) (r : Logged) → Later r → written_of x out ≡ r → (Timed x → Loggable x) × (roomed out (length (record_bytes x)) ≡ r)
unfolding written_of
written_later x out r g e = judged_later x (roomed out (length (record_bytes x))) r g e

roomy : (b : Bool) (l m n : ℕ) → ltb m l ≡ b → cond b (Err ShortBuffer) (Ok l) ≡ Ok n → (n ≡ l) × (n ≤ m)
roomy true l m n t e = absurd (let z : ◌≡◌ {A = ℕ} 0 1 = cc in omega arith)
roomy false l m n t e = let z : n ≡ l = cc in (z, omega (arith, ltb-false m l t))

tight : (b : Bool) (l m : ℕ) → ltb m l ≡ b → cond b (Err ShortBuffer) (Ok l) ≡ Err ShortBuffer → m < l
tight true l m t e = ltb-true m l t
tight false l m t e = absurd (let z : ◌≡◌ {A = ℕ} 0 1 = cc in omega arith)

-- only what the log can hold is logged, and the answer is the count of its bytes
pub written_loggable : (x : Rec) (out : List ℕ) (n : ℕ) → written_of x out ≡ Ok n → (Timed x → Loggable x) × (n ≡ length (record_bytes x)) × (n ≤ length out)
written_loggable x out n e =
    let s = written_later x out (Ok n) (later_bytes n) e in
    let r = roomy (ltb (length out) (length (record_bytes x))) (length (record_bytes x)) (length out) n refl s.1 in
    (s.0, r.0, r.1)

-- a refusal for a short buffer only where the log can hold the record
pub short_loggable : (x : Rec) (out : List ℕ) → written_of x out ≡ Err ShortBuffer → (Timed x → Loggable x) × (length out < length (record_bytes x))
short_loggable x out e =
    let s = written_later x out (Err ShortBuffer) later_short e in
    (s.0, tight (ltb (length out) (length (record_bytes x))) (length (record_bytes x)) (length out) refl s.1)

-- ---- the buffer

-- a refusal changes nothing
pub buffer_refused : (x : Rec) (out : List ℕ) (w : Refusal) → written_of x out ≡ Err w → buffer_after x out ≡ out
buffer_refused x out w e = ap (stored x out) e

-- what an accepted record leaves
pub buffer_accepted : (x : Rec) (out : List ℕ) (n : ℕ) → written_of x out ≡ Ok n → buffer_after x out ≡ sets out 0 (record_bytes x)
buffer_accepted x out n e = ap (stored x out) e

front : (out bytes : List ℕ) (n : ℕ) → n ≡ length bytes → n ≤ length out
    → (take n (sets out 0 bytes) ≡ bytes) × (drop n (sets out 0 bytes) ≡ drop n out) × (length (sets out 0 bytes) ≡ length out)
front out bytes n e h =
    let z : 0 + length bytes ≡ n = omega arith in
    let s : sets out 0 bytes ≡ bytes ++ drop n out = sets-eq bytes out 0 (omega arith) ∙ ap (λ (k : ℕ). bytes ++ drop k out) z in
    (rw s (take_at bytes (drop n out) n (sym e)), rw s (drop_at bytes (drop n out) n (sym e)), length-sets out 0 bytes)

-- in a longer buffer only the record's bytes change
pub buffer_record : (x : Rec) (out : List ℕ) (n : ℕ) → written_of x out ≡ Ok n
    → (take n (buffer_after x out) ≡ record_bytes x) × (drop n (buffer_after x out) ≡ drop n out) × (length (buffer_after x out) ≡ length out)
buffer_record x out n e =
    let s = written_loggable x out n e in
    rw (buffer_accepted x out n e) (front out (record_bytes x) n s.1 s.2)
