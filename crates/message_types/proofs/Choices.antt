-- A chain of tests on a number: past a test that fails stands the rest of the chain. Assumes nothing.
use mathlib.Core.Path.{◌≡◌}
use mathlib.Core.Bool.{cond}
use Prim.Native.Nat.{ℕ}
use lib.Dec.{eqb}
use borrow.Author.Tests.{ne_eqb}

pub past : {A : Type 0} (x n : ℕ) (a b r : A) → (x ≡ n → ⊥) → r ≡ b → r ≡ cond (eqb x n) a b
past x n a b r h e = simp (ne_eqb x n h) e
