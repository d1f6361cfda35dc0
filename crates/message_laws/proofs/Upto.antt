-- A statement at each number from i up to c, shown one after the other (`From`), holds of any number between (`upto`). Assumes nothing.
use mathlib.Core.Path.{◌≡◌, refl, subst}
use mathlib.Core.Bool.{Bool, true, false}
use Prim.Native.Nat.{ℕ, suc, ◌≤◌, ◌<◌}
use native.Mathlib.Omega.{arith}
use lib.Arith.{lt_of_le-ne}
use lib.Dec.{eqb}
use borrow.Author.Tests.{eqb-true, eqb-false}

infixr 30 ◌⨾◌
-- P at i, i + 1 and so on, and c is the next
pub data From (P : ℕ → Type 0) (c : ℕ) : ℕ → Type 0 where
  done : From P c c
  ◌⨾◌ : {i : ℕ} → P i → From P c (suc i) → From P c i

pub upto : {P : ℕ → Type 0} {c i : ℕ} → From P c i → (k : ℕ) → i ≤ k → k < c → P k
upto done k h l = absurd (omega arith)
upto {P} {c} {i} (p ⨾ q) k h l = go (eqb i k) refl (upto q k)
  where
    go : (b : Bool) → eqb i k ≡ b → (suc i ≤ k → k < c → P k) → P k
    go true e f = subst P (eqb-true i k e) p
    go false e f = f (lt_of_le-ne h (eqb-false i k e)) l
