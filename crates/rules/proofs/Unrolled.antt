-- The unrolled times of accepted events: as received they are the low 32 bits, and while a history has room they fit 64 bits.
use Prim.Native.Nat.{ℕ, ◌+◌, ◌*◌, ◌≤◌, ◌<◌}
use native.Mathlib.Omega.{arith}
use mathlib.Core.Path.{◌≡◌, refl, sym, ap, ◌∙◌}
use mathlib.Core.List.{[], ◌∷◌}
use mathlib.Core.Bool.{false}
use lib.Dec.{leb}
use lib.ListN.{length}
use borrow.Author.Tests.{leb-false}
use Rattle.rules.specs.History.{Event, History, time_of}
use Rattle.rules.specs.Times.{received_of, wrapped, earlier_in, stamp_of, latest_time, Unrolled}
use Rattle.rules.specs.Counts.{largest, is_full}

-- an event is stamped with its own time: "the record keeps times as received"
pub received_stamp : (h : History) (t : ℕ) → received_of (stamp_of h t) ≡ received_of t
received_stamp [] t = omega arith
received_stamp (e ∷ h) t = omega arith

-- ---- what is asked of a time hangs on its low 32 bits alone

wrapped_low : (t from : ℕ) → wrapped (received_of t) from ≡ wrapped t from
wrapped_low t from = omega arith

pub stamp_low : (h : History) (t : ℕ) → stamp_of h (received_of t) ≡ stamp_of h t
stamp_low [] t = omega arith
stamp_low (e ∷ h) t = ap (λ (d : ℕ). time_of e + d) (wrapped_low t (time_of e))

pub early_low : (h : History) (t : ℕ) → earlier_in h (received_of t) ≡ earlier_in h t
unfolding earlier_in
early_low [] t = refl
early_low (e ∷ h) t = ap (leb 2147483648) (wrapped_low t (time_of e))

-- ---- one event more

pub unrolled_next : (h : History) (e : Event) (t : ℕ) → time_of e ≡ stamp_of h t → earlier_in h t ≡ false → Unrolled h → Unrolled (e ∷ h)
unrolled_next h e t at in_time un =
    let low : received_of (time_of e) ≡ received_of t = ap received_of at ∙ received_stamp h t in
    (at ∙ sym (ap (stamp_of h) low ∙ stamp_low h t), ap (earlier_in h) low ∙ early_low h t ∙ in_time, un)

-- ---- the sum of fewer than 2^32 differences fits 64 bits

stamp_more : (h : History) (t : ℕ) → stamp_of h t ≤ latest_time h + 4294967295
stamp_more [] t = omega arith
stamp_more (e ∷ h) t = omega arith

pub time_few : (h : History) → Unrolled h → latest_time h ≤ 4294967295 * length h
time_few [] un = omega arith
time_few (e ∷ h) un = omega (arith, un.0, stamp_more h (received_of (time_of e)), time_few h un.2)

pub stamp_fits : (h : History) (t : ℕ) → Unrolled h → is_full h ≡ false → stamp_of h t < 18446744073709551616
stamp_fits h t un room = omega (arith, stamp_more h t, time_few h un, leb-false largest (length h) room)
