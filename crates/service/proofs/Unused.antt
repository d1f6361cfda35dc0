-- "not used, which is raw 0x1FFF": that reading of a probe and no other (`unused`, `only_unused`, `used`). Assumes nothing.
use mathlib.Core.Path.{◌≡◌, refl, sym, ap}
use mathlib.Core.Bool.{Bool, true, false, cond}
use Prim.Native.Nat.{ℕ, ◌^◌, ◌<◌}
use native.Mathlib.Omega.{arith}
use lib.Dec.{eqb}
use lib.IntN.{ℤ, pos, negsuc}
use lib.Signed.{mag}
use mir.Syntax.{w16}
use mir.Val.{of_z}
use borrow.Author.Tests.{eqb-true, ne_eqb}
use Rattle.service.specs.declared.Probe.TheVariants.{NotUsed, Degrees}
use Rattle.service.specs.Probes.{is_unused, degrees_of, probe_of}

pub unused : probe_of (pos 0x1fff) ≡ NotUsed
unfolding probe_of
unused = refl

pub only_unused : (z : ℤ) → probe_of z ≡ NotUsed → z ≡ pos 0x1fff
unfolding probe_of
only_unused (negsuc n) h = absurd (let z : ◌≡◌ {A = ℕ} 0 1 = cc in omega arith)
only_unused (pos n) h = go (eqb n 0x1fff) refl h
  where
    go : (t : Bool) → eqb n 0x1fff ≡ t → cond t NotUsed (Degrees (degrees_of (pos n))) ≡ NotUsed → pos n ≡ pos 0x1fff
    go true e h = ap pos (eqb-true n 0x1fff e)
    go false e h = absurd (let z : ◌≡◌ {A = ℕ} 0 1 = cc in omega arith)

pub used : (z : ℤ) → (z ≡ pos 0x1fff → ⊥) → probe_of z ≡ Degrees (degrees_of z)
unfolding probe_of
used (negsuc n) h = refl
used (pos n) h = ap (λ (t : Bool). cond t NotUsed (Degrees (degrees_of (pos n)))) (ne_eqb n 0x1fff (λ e. h (ap pos e)))

-- the sixteen bits of no negative number are 0x1fff
pub sixteen : (z : ℤ) → mag z < 2 ^ 15 → is_unused z ≡ eqb (of_z w16 z) 0x1fff
sixteen (pos n) h = refl
sixteen (negsuc n) h = sym (ne_eqb (of_z w16 (negsuc n)) 0x1fff (λ e. omega (arith, h, e)))
