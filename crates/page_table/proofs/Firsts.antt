-- The first row that passes a test: which it is, and that the rows of its kind stand together from it on. The first with an identifier is the first of its
-- kind, and the other way.
-- Assumes nothing.
use Rattle.std.specs.Prelude.{Some, None, Option}
use mathlib.Core.Path.{◌≡◌, refl, sym, ap, ap₂, ◌∙◌, subst}
use mathlib.Core.Bool.{Bool, true, false, cond}
use mathlib.Core.List.{List, [], ◌∷◌}
use Prim.Native.Nat.{ℕ, zero, suc, ◌+◌, ◌<◌, ◌≤◌}
use native.Mathlib.Nat.{le_of_suc-le-suc, not-suc-le-zero, suc-add, add-suc, add-zero, zero-add}
use native.Mathlib.Omega.{arith}
use lib.Dec.{leb}
use lib.ListN.{length, get_or, drop}
use borrow.Author.Tests.{leb-true, le-leb, eqb-true, eqb-false, eq-eqb, ne_eqb}
use Rattle.page_table.specs.declared.Row.{Row}
use Rattle.page_table.specs.Table.{rows, row_count, no_row, has_kind, has_id, keep, of_kind, rows_of, block, first_at, head_row, identifier_of, extended_of, length_of, big_of}
use Rattle.page_table.specs.Rules.{every, in_turn, all_in_turn}
use Rattle.page_table.proofs.Rules.{both_true, not_both, table_parts, rows_length, every_at, every_so, turn_at, id_true, id_self, id_other, same_message, other_message, kinds_up, kind_out}

-- ---- the first row that passes a test

-- place d of l, counted from i, is the first: it passes, and no place before it
pub record First (p : Row → Bool) (i : ℕ) (l : List Row) (j : ℕ) : Type 0 where
  pub off : ℕ
  pub place : j ≡ i + off
  pub within : off < length l
  pub passes : p (get_or l off no_row) ≡ true
  pub before : (m : ℕ) → m < off → p (get_or l m no_row) ≡ false

pub first_is : (p : Row → Bool) (i j : ℕ) (l : List Row) → first_at p i l ≡ Some j → First p i l j
unfolding first_at
first_is p i j [] e = absurd (let z : ◌≡◌ {A = ℕ} 0 1 = cc in omega arith)
first_is p i j (r ∷ rs) e = go (p r) refl e (λ q. first_is p (suc i) j rs q)
  where
    go : (b : Bool) → p r ≡ b → cond b (Some i) (first_at p (suc i) rs) ≡ Some j → (first_at p (suc i) rs ≡ Some j → First p (suc i) rs j) → First p i (r ∷ rs) j
    go true t e f =
        let q : i ≡ j = cc in
        record { off = 0; place = omega arith; within = omega arith; passes = t; before = λ m h. absurd (not-suc-le-zero h) }
    go false t e f =
        let c = f e in
        record {
          off = suc c.off;
          place = omega (arith, c.place);
          within = omega (arith, c.within);
          passes = c.passes;
          before = elim [ zero ↦ λ h. t | suc m ↦ λ h. c.before m (le_of_suc-le-suc h) ];
        }

pub is_first : (p : Row → Bool) (i d : ℕ) (l : List Row) → d < length l → p (get_or l d no_row) ≡ true → ((m : ℕ) → m < d → p (get_or l m no_row) ≡ false)
    → first_at p i l ≡ Some (i + d)
unfolding first_at
is_first p i d [] h t b = absurd (not-suc-le-zero h)
is_first p i zero (r ∷ rs) h t b = rw t (ap Some (sym (add-zero i)))
is_first p i (suc d) (r ∷ rs) h t b =
    rw (b 0 (omega arith))
    (is_first p (suc i) d rs (le_of_suc-le-suc h) t (λ m l. b (suc m) (omega arith)) ∙ ap Some (suc-add i d ∙ sym (add-suc i d)))

pub found_in : (p : Row → Bool) (i : ℕ) → first_at p 0 rows ≡ Some i → (i < row_count) × (p (get_or rows i no_row) ≡ true)
found_in p i e =
    let c = first_is p 0 i rows e in
    let o : c.off ≡ i = omega (arith, c.place) in
    (omega (arith, c.within, rows_length), subst (λ (x : ℕ). p (get_or rows x no_row) ≡ true) o c.passes)

-- no row passes before the first
found_before : (p : Row → Bool) (i m : ℕ) → first_at p 0 rows ≡ Some i → m < i → p (get_or rows m no_row) ≡ false
found_before p i m e h =
    let c = first_is p 0 i rows e in
    c.before m (omega (arith, c.place))

-- where two tests pass first
found_too : (p q : Row → Bool) (i : ℕ) → first_at p 0 rows ≡ Some i → q (get_or rows i no_row) ≡ true
    → ((m : ℕ) → m < i → p (get_or rows m no_row) ≡ false → q (get_or rows m no_row) ≡ false) → first_at q 0 rows ≡ Some i
found_too p q i e t f =
    is_first q 0 i rows (rw rows_length (found_in p i e).0) t (λ m h. f m h (found_before p i m e h)) ∙ ap Some (zero-add i)

-- ---- where the rows of a kind stand

kind_none : (k : ℕ) (l : List Row) → ((i : ℕ) → i < length l → (get_or l i no_row).kind ≡ k → ⊥) → of_kind k l ≡ []
unfolding of_kind
kind_none k [] n = refl
kind_none k (r ∷ rs) n = kind_out k r rs (n 0 (omega arith)) ∙ kind_none k rs (λ i h. n (suc i) (omega arith))

-- rows in turn, of no kind below k: those of kind k stand at the front
together : (k : ℕ) (l : List Row) → every (λ r. leb k r.kind) l ≡ true → all_in_turn l ≡ true → block k l ≡ of_kind k l
unfolding of_kind block
together k [] ge ts = refl
together k (r ∷ rs) ge ts =
    let gp = both_true (leb k r.kind) (every (λ q. leb k q.kind) rs) ge in
    let sp = both_true (every (in_turn r) rs) (all_in_turn rs) ts in
    go (has_kind k r) refl (leb-true k r.kind gp.0) (every_at (in_turn r) rs sp.0) (together k rs gp.1 sp.1)
  where
    go : (b : Bool) → has_kind k r ≡ b → k ≤ r.kind → ((i : ℕ) → i < length rs → in_turn r (get_or rs i no_row) ≡ true) → block k rs ≡ of_kind k rs
        → cond b (r ∷ block k rs) [] ≡ keep b r (of_kind k rs)
    go true e h t i = ap (λ (l : List Row). r ∷ l) i
    go false e h t i =
        let n : r.kind ≡ k → ⊥ = eqb-false r.kind k e in
        sym (kind_none k rs (λ j l q. n (omega (arith, kinds_up r (get_or rs j no_row) (t j l)))))

pub record Block (k : ℕ) (i : ℕ) (l : List Row) (j : ℕ) : Type 0 where
  pub off : ℕ
  pub place : j ≡ i + off
  pub rest : block k (drop off l) ≡ of_kind k l
  pub head : get_or l off no_row ≡ head_row (of_kind k l)
  pub some : 1 ≤ length (of_kind k l)

blocked : (k i j : ℕ) (l : List Row) → all_in_turn l ≡ true → first_at (has_kind k) i l ≡ Some j → Block k i l j
unfolding first_at block of_kind
blocked k i j [] ts e = absurd (let z : ◌≡◌ {A = ℕ} 0 1 = cc in omega arith)
blocked k i j (r ∷ rs) ts e =
    let sp = both_true (every (in_turn r) rs) (all_in_turn rs) ts in
    go (has_kind k r) refl e sp.0 sp.1 (λ q. blocked k (suc i) j rs sp.1 q)
  where
    go : (b : Bool) → has_kind k r ≡ b → cond b (Some i) (first_at (has_kind k) (suc i) rs) ≡ Some j → every (in_turn r) rs ≡ true → all_in_turn rs ≡ true
        → (first_at (has_kind k) (suc i) rs ≡ Some j → Block k (suc i) rs j) → Block k i (r ∷ rs) j
    go true t e ts us f =
        let q : i ≡ j = cc in
        let w : r.kind ≡ k = eqb-true r.kind k t in
        let g : every (λ x. leb k x.kind) rs ≡ true
        = every_so (in_turn r) (λ x. leb k x.kind) (λ x u. le-leb k x.kind (omega (arith, kinds_up r x u))) rs ts in
        record {
          off = 0;
          place = omega arith;
          rest = rw t (ap (λ (l : List Row). r ∷ l) (together k rs g us));
          head = rw t;
          some = rw t (omega arith);
        }
    go false t e ts us f =
        let c = f e in
        record { off = suc c.off; place = omega (arith, c.place); rest = rw t c.rest; head = rw t c.head; some = rw t c.some }

pub first_kind : (k i : ℕ) → first_at (has_kind k) 0 rows ≡ Some i
    → (i < row_count) × (block k (drop i rows) ≡ rows_of k) × (get_or rows i no_row ≡ head_row (rows_of k)) × (1 ≤ length (rows_of k))
first_kind k i e =
    let c = blocked k 0 i rows table_parts.2 e in
    let o : c.off ≡ i = omega (arith, c.place) in (
      (found_in (has_kind k) i e).0,
      subst (λ (x : ℕ). block k (drop x rows) ≡ rows_of k) o c.rest,
      subst (λ (x : ℕ). get_or rows x no_row ≡ head_row (rows_of k)) o c.head,
      c.some,
    )

none_in : (k i : ℕ) (l : List Row) → first_at (has_kind k) i l ≡ None → of_kind k l ≡ []
unfolding first_at of_kind
none_in k i [] e = refl
none_in k i (r ∷ rs) e = go (has_kind k r) e (λ q. none_in k (suc i) rs q)
  where
    go : (b : Bool) → cond b (Some i) (first_at (has_kind k) (suc i) rs) ≡ None → (first_at (has_kind k) (suc i) rs ≡ None → of_kind k rs ≡ [])
        → keep b r (of_kind k rs) ≡ []
    go true e f = absurd (let z : ◌≡◌ {A = ℕ} 0 1 = cc in omega arith)
    go false e f = f e

pub none_kind : (k : ℕ) → first_at (has_kind k) 0 rows ≡ None → rows_of k ≡ []
none_kind k e = none_in k 0 rows e

-- ---- identifiers

-- the first row with an identifier is the first row of its kind
pub id_kind_lem : (m : ℕ) (x : Bool) (i : ℕ) → first_at (has_id m x) 0 rows ≡ Some i → first_at (has_kind (get_or rows i no_row).kind) 0 rows ≡ Some i
id_kind_lem m x i e =
    let r = get_or rows i no_row in
    let f = found_in (has_id m x) i e in
    let w = id_true m x r f.1 in
    found_too (has_id m x) (has_kind r.kind) i e (eq-eqb r.kind r.kind refl)
    (λ j h n. let q = get_or rows j no_row in
    ne_eqb q.kind r.kind
    (λ s. let a = (same_message q r s (turn_at rows table_parts.2 j i h (rw rows_length f.0))).agree in
    let same_id : has_id m x q ≡ true = ap₂ (λ (y : ℕ) (z : Bool). has_id y z q) (sym w.0 ∙ sym a.0) (w.1 ∙ sym a.1) ∙ id_self q in
    not_both (has_id m x q) same_id n))

pub first_id : (m : ℕ) (x : Bool) (i : ℕ) → first_at (has_id m x) 0 rows ≡ Some i
    → (i < row_count) × ((get_or rows i no_row).id ≡ m) × (block (get_or rows i no_row).kind (drop i rows) ≡ rows_of (get_or rows i no_row).kind)
    × (head_row (rows_of (get_or rows i no_row).kind) ≡ get_or rows i no_row) × ((get_or rows i no_row).extended ≡ x)
first_id m x i e =
    let r = get_or rows i no_row in
    let c = first_kind r.kind i (id_kind_lem m x i e) in
    let w = id_true m x r (found_in (has_id m x) i e).1 in
    (c.0, w.0, c.1, sym c.2, sym w.1)

-- the first row of a kind is the first with its identifier
pub known : (k : ℕ) → 1 ≤ length (rows_of k)
    → (i : ℕ) × (first_at (has_id (identifier_of k) (extended_of k)) 0 rows ≡ Some i) × ((get_or rows i no_row).kind ≡ k) × ((get_or rows i no_row).bytes ≡ length_of k)
    × ((get_or rows i no_row).big ≡ big_of k)
unfolding identifier_of extended_of length_of big_of
known k h = go (first_at (has_kind k) 0 rows) refl
  where
    go : (f : Option ℕ) → first_at (has_kind k) 0 rows ≡ f
        → (i : ℕ) × (first_at (has_id (head_row (rows_of k)).id (head_row (rows_of k)).extended) 0 rows ≡ Some i) × ((get_or rows i no_row).kind ≡ k)
        × ((get_or rows i no_row).bytes ≡ (head_row (rows_of k)).bytes) × ((get_or rows i no_row).big ≡ (head_row (rows_of k)).big)
    go None e = absurd (omega (arith, h, ap length (none_kind k e)))
    go (Some i) e =
        let r = get_or rows i no_row in
        let c = first_kind k i e in
        let w : r.kind ≡ k = eqb-true r.kind k (found_in (has_kind k) i e).1 in
        let alone : (j : ℕ) → j < i → has_kind k (get_or rows j no_row) ≡ false → has_id r.id r.extended (get_or rows j no_row) ≡ false
        = λ j l n. let q = get_or rows j no_row in
        id_other q r (other_message q r (λ t. eqb-false q.kind k n (t ∙ w)) (turn_at rows table_parts.2 j i l (rw rows_length c.0))).1 in (
          i,
          subst (λ (x : Row). first_at (has_id x.id x.extended) 0 rows ≡ Some i) c.2 (found_too (has_kind k) (has_id r.id r.extended) i e (id_self r) alone),
          w,
          ap (λ (x : Row). x.bytes) c.2,
          ap (λ (x : Row). x.big) c.2,
        )
