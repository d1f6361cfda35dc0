-- Two numbers of 32 bits in one: that they are 1 and c is one test.
use Prim.Native.Nat.{ℕ, ◌+◌, ◌*◌, ◌<◌}
use native.Mathlib.Omega.{arith}
use mathlib.Core.Path.{◌≡◌, refl}
use mathlib.Core.Bool.{Bool, true, false, ◌&&◌}
use lib.Dec.{eqb}
use borrow.Author.Tests.{eqb-true, eqb-false, eq-eqb, ne_eqb}

abbrev both : ℕ → ℕ → ℕ
both used on = used + on * 4294967296

pub held_one : (used on c : ℕ) → used < 4294967296 → eqb (both used on) (both 1 c) ≡ (eqb used 1 && eqb on c)
held_one used on c small = go (eqb used 1) (eqb on c) refl refl
  where
    go : (a b : Bool) → eqb used 1 ≡ a → eqb on c ≡ b → eqb (both used on) (both 1 c) ≡ (a && b)
    go true true d e = eq-eqb (both used on) (both 1 c) (omega (arith, eqb-true used 1 d, eqb-true on c e))
    go true false d e = ne_eqb (both used on) (both 1 c) (λ q. eqb-false on c e (omega (arith, eqb-true used 1 d)))
    go false b d e = ne_eqb (both used on) (both 1 c) (λ q. eqb-false used 1 d (omega arith))
