-- Clearing the signals of a payload number leaves nothing exactly where no bit that no signal covers is 1.
-- Assumes nothing.
use mathlib.Core.Path.{◌≡◌, refl, sym, ap, ◌∙◌}
use mathlib.Core.Bool.{Bool, true, false, cond, not, ◌&&◌, ◌||◌}
use mathlib.Core.Logic.{◌⊎◌, inl, inr}
use mathlib.Core.List.{List, [], ◌∷◌}
use Prim.Native.Nat.{ℕ, zero, suc, ◌-◌, ◌^◌, ◌<◌, ◌≤◌}
use native.Mathlib.Nat.{not-suc-le-zero}
use native.Mathlib.Omega.{arith}
use lib.Dec.{eqb}
use lib.Pow.{pow_pos}
use borrow.Author.Tests.{eq-eqb, ne_eqb, eqb-true, not-true}
use Rattle.signal.specs.Signal.{get_bits, put_bits, covers}
use Rattle.signal.proofs.Laws.{get_lt, get_zero, bit_put, put_lt, same_bits}
use Rattle.signal.proofs.Complement.{half_of}
use Rattle.page_search.specs.page_table.specs.declared.Row.{Row}
use Rattle.page_search.specs.page_table.specs.Table.{lowest, covered}
use Rattle.page_read.specs.Judge.{stray_below}
use Rattle.page_read.specs.Steps.{cleared}
use Rattle.page_search.specs.page_table.proofs.Rules.{both_true, not_both, Ordered}

-- ---- clearing the signals

-- bit by bit: 0 where a signal covers, and elsewhere as it was
pub bit_cleared : (rs : List Row) (n i : ℕ) → get_bits (cleared rs n) i 1 ≡ cond (covered rs i) 0 (get_bits n i 1)
unfolding cleared covered
bit_cleared [] n i = refl
bit_cleared (r ∷ rs) n i =
    bit_cleared rs (put_bits n (lowest r) r.width 0) i
    ∙ ap (λ (x : ℕ). cond (covered rs i) 0 x)
    (bit_put n (lowest r) r.width 0 i (pow_pos r.width) ∙ ap (λ (x : ℕ). cond (covers (lowest r) r.width i) x (get_bits n i 1)) (get_zero (i - lowest r) 1))
    ∙ by (covers (lowest r) r.width i) (covered rs i)
  where
    by : (a b : Bool) → cond b 0 (cond a 0 (get_bits n i 1)) ≡ cond (a || b) 0 (get_bits n i 1)
    by true true = refl
    by true false = refl
    by false b = refl

pub cleared_lt : (k p : ℕ) (rs : List Row) (n : ℕ) → Ordered k p rs → n < 2 ^ k → cleared rs n < 2 ^ k
unfolding cleared
cleared_lt k p [] n o h = h
cleared_lt k p (r ∷ rs) n o h =
    cleared_lt k (suc r.start) rs (put_bits n (lowest r) r.width 0) o.3 (put_lt n (lowest r) r.width 0 k h (pow_pos r.width) o.1)

-- ---- a bit that no signal covers

-- a bit is 0 or 1
bit_is : (n i : ℕ) → (get_bits n i 1 ≡ 1) ⊎ (get_bits n i 1 ≡ 0)
bit_is n i = go (half_of 1 (get_bits n i 1))
  where
    go : (get_bits n i 1 < 1) ⊎ (1 ≤ get_bits n i 1) → (get_bits n i 1 ≡ 1) ⊎ (get_bits n i 1 ≡ 0)
    go (inl h) = inr (omega arith)
    go (inr h) = inl (omega (arith, get_lt n i 1))

pub stray_told : (k n : ℕ) (rs : List Row) → stray_below k n rs ≡ true
    → (i : ℕ) × (i < k) × (covered rs i ≡ false) × (get_bits n i 1 ≡ 1)
unfolding stray_below
stray_told zero n rs e = absurd (not_both false e refl)
stray_told (suc k) n rs e = go (not (covered rs k) && eqb (get_bits n k 1) 1) refl e (λ q. stray_told k n rs q)
  where
    Told : ℕ → Type 0
    Told k = (i : ℕ) × (i < k) × (covered rs i ≡ false) × (get_bits n i 1 ≡ 1)

    go : (b : Bool) → not (covered rs k) && eqb (get_bits n k 1) 1 ≡ b → b || stray_below k n rs ≡ true → (stray_below k n rs ≡ true → Told k) → Told (suc k)
    go true t e f =
        let p = both_true (not (covered rs k)) (eqb (get_bits n k 1) 1) t in
        (k, omega arith, not-true (covered rs k) p.0, eqb-true (get_bits n k 1) 1 p.1)
    go false t e f = let c = f e in (c.0, omega (arith, c.1), c.2, c.3)

pub stray_none : (k n : ℕ) (rs : List Row) → stray_below k n rs ≡ false → (i : ℕ) → i < k → covered rs i ≡ false → get_bits n i 1 ≡ 0
unfolding stray_below
stray_none zero n rs e i h c = absurd (not-suc-le-zero h)
stray_none (suc k) n rs e i h c = go (not (covered rs k) && eqb (get_bits n k 1) 1) refl e (half_of k i) (λ q l. stray_none k n rs q i l c)
  where
    here : not (covered rs k) && eqb (get_bits n k 1) 1 ≡ false → i ≡ k → (get_bits n k 1 ≡ 1) ⊎ (get_bits n k 1 ≡ 0) → get_bits n i 1 ≡ 0
    here t q (inl o) =
        let u : covered rs k ≡ false = ap (covered rs) (sym q) ∙ c in
        absurd (not_both (not (covered rs k) && eqb (get_bits n k 1) 1) (rw (u, o)) t)
    here t q (inr o) = ap (λ (x : ℕ). get_bits n x 1) q ∙ o

    go : (b : Bool) → not (covered rs k) && eqb (get_bits n k 1) 1 ≡ b → b || stray_below k n rs ≡ false → (i < k) ⊎ (k ≤ i)
        → (stray_below k n rs ≡ false → i < k → get_bits n i 1 ≡ 0) → get_bits n i 1 ≡ 0
    go true t e w f = absurd (not_both true refl e)
    go false t e (inl l) f = f e l
    go false t e (inr l) f = here t (omega arith) (bit_is n k)

pub stray_zero : (k n : ℕ) (rs : List Row) → ((i : ℕ) → i < k → covered rs i ≡ false → get_bits n i 1 ≡ 0) → stray_below k n rs ≡ false
stray_zero k n rs f = go (stray_below k n rs) refl
  where
    go : (b : Bool) → stray_below k n rs ≡ b → b ≡ false
    go true e = let c = stray_told k n rs e in absurd (omega (arith, f c.0 c.1 c.2, c.3))
    go false e = refl

-- nothing is left after clearing exactly where no such bit is 1
pub cleared_test : (k : ℕ) (rs : List Row) (n : ℕ) → Ordered k 0 rs → n < 2 ^ k → eqb (cleared rs n) 0 ≡ not (stray_below k n rs)
cleared_test k rs n o h = go (stray_below k n rs) refl
  where
    by : (i : ℕ) (b : Bool) → covered rs i ≡ b → (covered rs i ≡ false → get_bits n i 1 ≡ 0) → cond b 0 (get_bits n i 1) ≡ 0
    by i true e z = refl
    by i false e z = z e

    go : (b : Bool) → stray_below k n rs ≡ b → eqb (cleared rs n) 0 ≡ not b
    go true e =
        let c = stray_told k n rs e in
        let one : get_bits (cleared rs n) c.0 1 ≡ 1 = bit_cleared rs n c.0 ∙ ap (λ (b : Bool). cond b 0 (get_bits n c.0 1)) c.2 ∙ c.3 in
        ne_eqb (cleared rs n) 0
        (λ z. let zero : get_bits (cleared rs n) c.0 1 ≡ 0 = ap (λ (x : ℕ). get_bits x c.0 1) z ∙ get_zero c.0 1 in omega arith)
    go false e =
        eq-eqb (cleared rs n) 0
        (same_bits k (cleared rs n) 0 (cleared_lt k 0 rs n o h) (pow_pos k)
        (λ i l. bit_cleared rs n i ∙ by i (covered rs i) refl (stray_none k n rs e i l) ∙ sym (get_zero i 1)))
