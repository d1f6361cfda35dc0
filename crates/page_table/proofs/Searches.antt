-- The laws of the searches by kind: a list without what is searched for, and which part of the table a search for a kind's rows has to go through.
use Rattle.std.specs.Prelude.{Some, None, Option}
use mathlib.Core.Path.{◌≡◌, refl, sym, ap, ap₂, ◌∙◌, subst}
use mathlib.Core.Bool.{Bool, true, false, cond, not, ◌&&◌}
use mathlib.Core.List.{List, [], ◌∷◌}
use Prim.Native.Nat.{ℕ, suc, ◌+◌, ◌≤◌}
use native.Mathlib.Omega.{arith}
use lib.Dec.{leb}
use lib.ListN.{drop}
use borrow.Author.Tests.{eqb-true, eqb-false, le-leb, leb-true, not-true}
use Rattle.page_table.specs.declared.Row.{Row}
use Rattle.page_table.specs.Table.{rows, has_kind, block, first_at}
use Rattle.page_table.specs.Rules.{every, in_turn, all_in_turn}
use Rattle.page_table.proofs.Rules.{both_true, table_parts, every_so, kinds_up}

-- a list that has no row to find
pub none_found : (p : Row → Bool) (i : ℕ) (l : List Row) → every (λ r. not (p r)) l ≡ true → first_at p i l ≡ None
unfolding first_at
none_found p i [] e = refl
none_found p i (r ∷ rs) e =
    let t = both_true (not (p r)) (every (λ q. not (p q)) rs) e in
    rw (not-true (p r) t.0) (none_found p (suc i) rs t.1)

-- ---- a search for rows of kind k only

module _ (k : ℕ) (p : Row → Bool) (only : (r : Row) → (r.kind ≡ k → ⊥) → p r ≡ false) where
  -- in rows in turn, of no kind below k, it ends with those of kind k at the front
  in_block : (i : ℕ) (l : List Row) → every (λ r. leb k r.kind) l ≡ true → all_in_turn l ≡ true → first_at p i (block k l) ≡ first_at p i l
  unfolding first_at block
  in_block i [] ge ts = refl
  in_block i (r ∷ rs) ge ts =
      let gp = both_true (leb k r.kind) (every (λ q. leb k q.kind) rs) ge in
      let sp = both_true (every (in_turn r) rs) (all_in_turn rs) ts in
      go (has_kind k r) refl (leb-true k r.kind gp.0) sp.0 (in_block (suc i) rs gp.1 sp.1)
    where
      go : (b : Bool) → has_kind k r ≡ b → k ≤ r.kind → every (in_turn r) rs ≡ true → first_at p (suc i) (block k rs) ≡ first_at p (suc i) rs
          → first_at p i (cond b (r ∷ block k rs) []) ≡ cond (p r) (Some i) (first_at p (suc i) rs)
      go true e h t same = ap (λ (f : Option ℕ). cond (p r) (Some i) f) same
      go false e h t same =
          let n : r.kind ≡ k → ⊥ = eqb-false r.kind k e in
          let none = every_so (in_turn r) (λ q. not (p q)) (λ q u. ap not (only q (λ w. n (omega (arith, kinds_up r q u))))) rs t in
          sym (ap (λ (b : Bool). cond b (Some i) (first_at p (suc i) rs)) (only r n) ∙ none_found p (suc i) rs none)

  from-kind : (i j : ℕ) (l : List Row) → all_in_turn l ≡ true → first_at (has_kind k) i l ≡ Some j
      → (d : ℕ) × (j ≡ i + d) × (first_at p j (block k (drop d l)) ≡ first_at p i l)
  unfolding first_at
  from-kind i j [] ts e = absurd (let z : ◌≡◌ {A = ℕ} 0 1 = cc in omega arith)
  from-kind i j (r ∷ rs) ts e =
      let sp = both_true (every (in_turn r) rs) (all_in_turn rs) ts in
      go (has_kind k r) refl e sp.0 (λ q. from-kind (suc i) j rs sp.1 q)
    where
      Told : ℕ → List Row → Type 0
      Told i l = (d : ℕ) × (j ≡ i + d) × (first_at p j (block k (drop d l)) ≡ first_at p i l)

      go : (b : Bool) → has_kind k r ≡ b → cond b (Some i) (first_at (has_kind k) (suc i) rs) ≡ Some j → every (in_turn r) rs ≡ true
          → (first_at (has_kind k) (suc i) rs ≡ Some j → Told (suc i) rs) → Told i (r ∷ rs)
      go true t e us f =
          let q : i ≡ j = cc in
          let w : r.kind ≡ k = eqb-true r.kind k t in
          let ge : leb k r.kind && every (λ x. leb k x.kind) rs ≡ true
          = ap₂ (λ (a b : Bool). a && b) (le-leb k r.kind (omega arith))
          (every_so (in_turn r) (λ x. leb k x.kind) (λ x u. le-leb k x.kind (omega (arith, kinds_up r x u))) rs us) in
          (0, omega arith, ap (λ (x : ℕ). first_at p x (block k (r ∷ rs))) (sym q) ∙ in_block i (r ∷ rs) ge ts)
      go false t e us f =
          let c = f e in
          (suc c.0, omega (arith, c.1), c.2 ∙ sym (ap (λ (b : Bool). cond b (Some i) (first_at p (suc i) rs)) (only r (eqb-false r.kind k t))))

  -- it finds the same among the rows that stand together from the kind's first row on
  pub kind_search : (i : ℕ) → first_at (has_kind k) 0 rows ≡ Some i → first_at p i (block k (drop i rows)) ≡ first_at p 0 rows
  kind_search i e =
      let c = from-kind 0 i rows table_parts.2 e in
      let o : c.0 ≡ i = omega (arith, c.1) in
      subst (λ (d : ℕ). first_at p i (block k (drop d rows)) ≡ first_at p 0 rows) o c.2

  nothing-in : (i : ℕ) (l : List Row) → first_at (has_kind k) i l ≡ None → None ≡ first_at p i l
  unfolding first_at
  nothing-in i [] e = refl
  nothing-in i (r ∷ rs) e = go (has_kind k r) refl e (λ q. nothing-in (suc i) rs q)
    where
      go : (b : Bool) → has_kind k r ≡ b → cond b (Some i) (first_at (has_kind k) (suc i) rs) ≡ None
          → (first_at (has_kind k) (suc i) rs ≡ None → None ≡ first_at p (suc i) rs) → None ≡ cond (p r) (Some i) (first_at p (suc i) rs)
      go true t e f = absurd (let z : ◌≡◌ {A = ℕ} 0 1 = cc in omega arith)
      go false t e f = f e ∙ sym (ap (λ (b : Bool). cond b (Some i) (first_at p (suc i) rs)) (only r (eqb-false r.kind k t)))

  pub kind_nothing : first_at (has_kind k) 0 rows ≡ None → None ≡ first_at p 0 rows
  kind_nothing e = nothing-in 0 rows e
