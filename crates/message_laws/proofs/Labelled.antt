-- A type of labels and the signal that carries it: a label has a number that its signal takes, and label and number are each other's. Labels are taken case by
-- case; numbers by a test that computes at each number of the signal's width. Assumes nothing.
use mathlib.Core.Path.{◌≡◌, refl, sym, ap, ◌∙◌, subst}
use mathlib.Core.Bool.{Bool, true, false, not, ◌&&◌, ◌||◌}
use Prim.Native.Nat.{ℕ, zero, suc, ◌^◌, ◌<◌}
use native.Mathlib.Nat.{le_of_suc-le-suc, not-suc-le-zero}
use native.Mathlib.Omega.{arith}
use lib.Arith.{lt_of_le-ne}
use lib.Dec.{T, eqb, ltb, eqb→eq}
use lib.ListN.{get_or}
use borrow.Author.Tests.{ltb-true, eqb-true, eqb-false}
use Rattle.page_change.specs.page_table.specs.declared.Row.{Row}
use Rattle.page_change.specs.page_table.specs.Table.{no_row, rows_of, takes}

-- ---- the signals of a kind

-- signal j of kind k, as the table lists them
abbrev pub signal_at : ℕ → ℕ → Row
signal_at k j = get_or (rows_of k) j no_row

-- ---- labels

-- the labels of a type, and the numbers of its signal
pub record Label {L : Type 0} (number : L → ℕ) (of : ℕ → L) (r : Row) : Type 0 where
  pub there : (l : L) → of (number l) ≡ l
  pub labelled : (l : L) → takes r.labels (number l) ≡ true
  pub fits : (l : L) → number l < 2 ^ r.width
  pub back : (x : ℕ) → takes r.labels x ≡ true → x < 2 ^ r.width → number (of x) ≡ x

-- ---- a test at each number below a bound

abbrev pub below : (ℕ → Bool) → ℕ → Bool
below g zero = true
below g (suc k) = g k && below g k

both : (a b : Bool) → T (a && b) → T a × T b
both true b t = (tt, t)
both false b t = absurd t

at_below : (g : ℕ → Bool) (k : ℕ) → T (below g k) → (x : ℕ) → x < k → T (g x)
at_below g zero t x h = absurd (not-suc-le-zero h)
at_below g (suc k) t x h = go (eqb x k) refl (at_below g k (both (g k) (below g k) t).1 x)
  where
    go : (b : Bool) → eqb x k ≡ b → (x < k → T (g x)) → T (g x)
    go true e f = subst (λ (i : ℕ). T (g i)) (sym (eqb-true x k e)) (both (g k) (below g k) t).0
    go false e f = f (lt_of_le-ne (le_of_suc-le-suc h) (eqb-false x k e))

-- ---- what is computed for a type

-- x has no label, or its label has the number x
abbrev pub returns : ℕ → (ℕ → ℕ) → ℕ → Bool
returns labels g x = not (takes labels x) || eqb (g x) x

returned : (b : Bool) (x y : ℕ) → b ≡ true → T (not b || eqb y x) → y ≡ x
returned true x y e t = eqb→eq y x t
returned false x y e t = absurd (let z : ◌≡◌ {A = ℕ} 0 1 = cc in omega arith)

-- a label is that of its number, which the signal takes
abbrev pub Mark : {L : Type 0} → (L → ℕ) → (ℕ → L) → Row → L → Type 0
Mark number of r l = (of (number l) ≡ l) × (takes r.labels (number l) ≡ true) × (ltb (number l) (2 ^ r.width) ≡ true)

pub marked : {L : Type 0} {number : L → ℕ} {of : ℕ → L} {r : Row} → ((l : L) → Mark number of r l)
    → T (below (returns r.labels (λ x. number (of x))) (2 ^ r.width)) → Label number of r
marked {L} {number} {of} {r} m t =
    record {
      there = λ l. (m l).0;
      labelled = λ l. (m l).1;
      fits = λ l. ltb-true (number l) (2 ^ r.width) (m l).2;
      back = λ x e h. returned (takes r.labels x) x (number (of x)) e (at_below (returns r.labels (λ y. number (of y))) (2 ^ r.width) t x h);
    }

-- labels at another signal that lists the same
pub same_label : {L : Type 0} {number : L → ℕ} {of : ℕ → L} {r : Row} (q : Row) → r.labels ≡ q.labels → r.width ≡ q.width → Label number of r → Label number of q
same_label {number} q e w l =
    record {
      there = l.there;
      labelled = λ x. ap (λ (m : ℕ). takes m (number x)) (sym e) ∙ l.labelled x;
      fits = λ x. subst (λ (v : ℕ). number x < 2 ^ v) w (l.fits x);
      back = λ x t h. l.back x (ap (λ (m : ℕ). takes m x) e ∙ t) (subst (λ (v : ℕ). x < 2 ^ v) (sym w) h);
    }
