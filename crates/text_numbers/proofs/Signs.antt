-- A signed number as the machine has it, and its distance from 0. Assumes nothing.
use mathlib.Core.Path.{◌≡◌, refl, sym, ap, ◌∙◌, subst}
use mathlib.Core.Bool.{true, false}
use Prim.Native.Nat.{ℕ, suc, ◌-◌, ◌^◌, ◌<◌}
use native.Mathlib.Omega.{arith}
use lib.IntN.{ℤ, pos, negsuc, nat_abs}
use lib.Signed.{lt_z, non_neg}
use lib.Dec.{T}
use borrow.Author.Tests.{ltb-true}
use mir.Syntax.{w64}
use mir.Val.{Fits, SFits, to_z, of_z}
use mir.Facts.{to_z_pos, to_z-neg, to_z-of_z}

-- `!` of n is -(n + 1)
pub complement : (n : ℕ) → n < 2 ^ 63 → to_z w64 ((2 ^ 64 - 1) - n) ≡ negsuc n
complement n h = let e : (2 ^ 64 - 1) - n ≡ 2 ^ 64 - suc n = omega arith in ap (to_z w64) e ∙ to_z-neg w64 n h

-- what the test `z < 0` tells: z is -(n + 1), or n
pub below : (z : ℤ) → SFits w64 z → lt_z (to_z w64 (of_z w64 z)) (pos 0) ≡ true → (n : ℕ) × (z ≡ negsuc n) × (n < 2 ^ 63)
below (pos n) f t =
    let l : n < 0 = ltb-true n 0 (sym (ap (λ (x : ℤ). lt_z x (pos 0)) (to_z-of_z f)) ∙ t) in
    absurd (omega arith)
below (negsuc n) f t = (n, refl, f.sfits)

pub not_below : (z : ℤ) → SFits w64 z → lt_z (to_z w64 (of_z w64 z)) (pos 0) ≡ false → (n : ℕ) × (z ≡ pos n) × (n < 2 ^ 63)
not_below (pos n) f t = (n, refl, f.sfits)
not_below (negsuc n) f t =
    let e : lt_z (negsuc n) (pos 0) ≡ false = sym (ap (λ (x : ℤ). lt_z x (pos 0)) (to_z-of_z f)) ∙ t in
    absurd (let z : ◌≡◌ {A = ℕ} 0 1 = cc in omega arith)

-- `!` of -(n + 1) is n
pub back : (z : ℤ) (n : ℕ) → z ≡ negsuc n → n < 2 ^ 63 → to_z w64 ((2 ^ 64 - 1) - of_z w64 z) ≡ pos n
back z n e h =
    let k : (2 ^ 64 - 1) - (2 ^ 64 - suc n) ≡ n = omega arith in
    ap (λ (y : ℤ). to_z w64 ((2 ^ 64 - 1) - of_z w64 y)) e ∙ ap (to_z w64) k ∙ to_z_pos w64 h

-- what a cast of a number that is not below 0 asks
pub cast_fits : (x : ℤ) (n : ℕ) → x ≡ pos n → n < 2 ^ 63 → T (non_neg x) × Fits w64 (nat_abs x)
cast_fits x n e h = subst (λ (y : ℤ). T (non_neg y) × Fits w64 (nat_abs y)) (sym e) (tt, record { fits = omega arith })
