-- A reserved signal of at most 63 bits: values and raw numbers that fit are each other's. Assumes nothing.
use mathlib.Core.Path.{◌≡◌, refl, ap}
use mathlib.Core.Bool.{Bool, true, false, cond}
use Prim.Native.Nat.{ℕ, ◌^◌, ◌<◌}
use native.Mathlib.Nat.{lt_of_lt_of_le}
use native.Mathlib.Omega.{arith}
use lib.Dec.{T, leb, ltb, lit≤}
use lib.IntN.{ℤ, pos, negsuc}
use lib.Pow.{pow_mono}
use borrow.Author.Tests.{lt-ltb, ltb-true}
use Rattle.signal.specs.Raw.{fits_in}
use Rattle.message_fields.specs.Fields.{natural_of, wide_raw}
use Rattle.message_fields.proofs.FieldLaws.{Field}

pub wides : (w : ℕ) → T (leb w 63) → Field wide_raw natural_of false w
wides w t = record { there = λ v e. go v (ltb v (2 ^ 63)) e; back = back }
  where
    go : (v : ℕ) (b : Bool) → fits_in false w (cond b (pos v) (negsuc 0)) ≡ true → natural_of (cond b (pos v) (negsuc 0)) ≡ v
    go v true e = refl
    go v false e = absurd (let z : ◌≡◌ {A = ℕ} 0 1 = cc in omega arith)

    back : (z : ℤ) → fits_in false w z ≡ true → wide_raw (natural_of z) ≡ z
    back (pos x) e =
        let h : x < 2 ^ 63 = lt_of_lt_of_le (ltb-true x (2 ^ w) e) (pow_mono {j = 63} (lit≤ t)) in
        ap (λ (b : Bool). cond b (pos x) (negsuc 0)) (lt-ltb x (2 ^ 63) h)
    back (negsuc x) e = absurd (let z : ◌≡◌ {A = ℕ} 0 1 = cc in omega arith)
