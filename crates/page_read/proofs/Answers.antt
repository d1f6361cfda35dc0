-- From reading's answer back to the tests that gave it: what the frame passed before its number was judged (`reached`), and what its number is answered
-- (`taken`, `fifth`, `sixth`); a frame of a kind is answered what its number is (`of-kind`).
-- Assumes nothing.
use Rattle.std.specs.Prelude.{Some, None, Ok, Err, Option}
use mathlib.Core.Path.{◌≡◌, refl, sym, ap, ap₂, ◌∙◌}
use mathlib.Core.Bool.{Bool, true, false, cond, not, ◌||◌}
use mathlib.Core.Logic.{inl, inr}
use mathlib.Core.List.{List, [], ◌∷◌}
use Prim.Native.Nat.{ℕ, ◌*◌, ◌≤◌, ◌<◌}
use native.Mathlib.Omega.{arith}
use lib.Dec.{eqb, ltb}
use lib.ListN.{length}
use borrow.Author.Tests.{eq-eqb, ne_eqb, eqb-true, eqb-false, lt-ltb, le-ltb, ltb-true, ltb-false, not-false}
use Rattle.payload.specs.Payload.{number_of}
use Rattle.page_search.specs.page_table.specs.declared.Interface.{Interface}
use Rattle.page_search.specs.page_table.specs.declared.Row.{Row}
use Rattle.page_read.specs.Judged.{Judged}
use Rattle.refusals.proofs.Pairs.{ok_pair}
use Rattle.refusals.specs.declared.Refusal.TheVariants.{UnknownIdentifier, TooShort, TooLong, NoLabel, UncoveredBit}
use Rattle.page_search.specs.page_table.specs.Messages.{message_of}
use Rattle.page_search.specs.page_table.specs.Table.{row_at, rows_of, bits_at, takes}
use Rattle.page_search.specs.page_table.specs.Interfaces.{with_id}
use Rattle.page_search.specs.page_table.specs.Listed.{Among}
use Rattle.page_read.specs.Judge.{unlabelled, offender, stray_below, judged_number, judged_row, judged_at, judge_on}
use Rattle.page_read.specs.Refusing.{OfKind, number_in}
use Rattle.page_search.specs.page_table.proofs.Rules.{either_false}
use Rattle.page_search.specs.page_table.proofs.Interfaces.{found_has, has_found}

-- ---- the length

pub row_short : (bs : List ℕ) (r : Row) → length bs < r.bytes → judged_row r bs ≡ Err TooShort
row_short bs r l = rw (ne_eqb (length bs) r.bytes (λ e. omega arith), lt-ltb (length bs) r.bytes l)

pub row_long : (bs : List ℕ) (r : Row) → r.bytes < length bs → judged_row r bs ≡ Err TooLong
row_long bs r l = rw (ne_eqb (length bs) r.bytes (λ e. omega arith), le-ltb (length bs) r.bytes (omega arith))

pub row_right : (bs : List ℕ) (r : Row) → length bs ≡ r.bytes → judged_row r bs ≡ judged_number r.kind (8 * length bs) (number_of r.big bs)
row_right bs r l = rw (eq-eqb (length bs) r.bytes l)

pub beyond : (a b : ℕ) → b ≤ a → (a ≡ b → ⊥) → b < a
beyond a b h d = omega arith

-- ---- identifier and length

-- the frame passed 3, 4 and 15, and a is what its number is answered
pub record Reached (iface : Interface) (m : ℕ) (x : Bool) (bs : List ℕ) (a : Judged) : Type 0 where
  pub place : ℕ
  pub found : with_id iface m x ≡ Some place
  pub sized : length bs ≡ (row_at place).bytes
  pub judged : judged_number (row_at place).kind (8 * length bs) (number_of (row_at place).big bs) ≡ a

pub reached : (iface : Interface) (m : ℕ) (x : Bool) (bs : List ℕ) (a : Judged) → judge_on iface m x bs ≡ a
    → (a ≡ Err UnknownIdentifier → ⊥) → (a ≡ Err TooShort → ⊥) → (a ≡ Err TooLong → ⊥) → Reached iface m x bs a
unfolding judge_on
reached iface m x bs a e n3 n4 n15 = outer (with_id iface m x) refl e
  where
    inner : (i : ℕ) (l t : Bool) → with_id iface m x ≡ Some i → eqb (length bs) (row_at i).bytes ≡ l → ltb (length bs) (row_at i).bytes ≡ t
        → judged_row (row_at i) bs ≡ a → Reached iface m x bs a
    inner i true t f p q e =
        let sized = eqb-true (length bs) (row_at i).bytes p in
        record { place = i; found = f; sized = sized; judged = sym (row_right bs (row_at i) sized) ∙ e }
    inner i false true f p q e = absurd (n4 (sym e ∙ row_short bs (row_at i) (ltb-true (length bs) (row_at i).bytes q)))
    inner i false false f p q e =
        absurd (n15 (sym e ∙ row_long bs (row_at i) (beyond (length bs) (row_at i).bytes (ltb-false (length bs) (row_at i).bytes q) (eqb-false (length bs) (row_at i).bytes p))))

    outer : (f : Option ℕ) → with_id iface m x ≡ f → judged_at bs f ≡ a → Reached iface m x bs a
    outer (Some i) f e = inner i (eqb (length bs) (row_at i).bytes) (ltb (length bs) (row_at i).bytes) f refl refl e
    outer None f e = absurd (n3 (sym e))

pub reached_frame : (iface : Interface) (m : ℕ) (x : Bool) (bs : List ℕ) (k n : ℕ) → judge_on iface m x bs ≡ Ok (k, n) → Reached iface m x bs (Ok (k, n))
reached_frame iface m x bs k n e =
    reached iface m x bs (Ok (k, n)) e (λ q. let z : ◌≡◌ {A = ℕ} 0 1 = cc in omega arith) (λ q. let z : ◌≡◌ {A = ℕ} 0 1 = cc in omega arith) (λ q. let z : ◌≡◌ {A = ℕ} 0 1 = cc in omega arith)

-- a number that is answered a frame
pub taken : (k bits n k' n' : ℕ) → judged_number k bits n ≡ Ok (k', n')
    → (k ≡ k') × (n ≡ n') × (unlabelled n (rows_of k) ≡ false) × (stray_below bits n (rows_of k) ≡ false)
unfolding judged_number
taken k bits n k' n' e = go (unlabelled n (rows_of k)) (stray_below bits n (rows_of k)) refl refl e
  where
    go : (u s : Bool) → unlabelled n (rows_of k) ≡ u → stray_below bits n (rows_of k) ≡ s
        → cond {A = Judged} u (Err (NoLabel (offender n (rows_of k)))) (cond s (Err UncoveredBit) (Ok (k, n))) ≡ Ok (k', n')
        → (k ≡ k') × (n ≡ n') × (unlabelled n (rows_of k) ≡ false) × (stray_below bits n (rows_of k) ≡ false)
    go true s p q e = absurd (let z : ◌≡◌ {A = ℕ} 0 1 = cc in omega arith)
    go false true p q e = absurd (let z : ◌≡◌ {A = ℕ} 0 1 = cc in omega arith)
    go false false p q e = let t = ok_pair e in (t.0, t.1, p, q)

-- 5
pub fifth : (k bits n s : ℕ) → judged_number k bits n ≡ Err (NoLabel s) → (unlabelled n (rows_of k) ≡ true) × (offender n (rows_of k) ≡ s)
unfolding judged_number
fifth k bits n s e = go (unlabelled n (rows_of k)) (stray_below bits n (rows_of k)) refl e
  where
    go : (u o : Bool) → unlabelled n (rows_of k) ≡ u
        → cond {A = Judged} u (Err (NoLabel (offender n (rows_of k)))) (cond o (Err UncoveredBit) (Ok (k, n))) ≡ Err (NoLabel s)
        → (unlabelled n (rows_of k) ≡ true) × (offender n (rows_of k) ≡ s)
    go true o p e = (p, cc)
    go false true p e = absurd (let z : ◌≡◌ {A = ℕ} 0 1 = cc in omega arith)
    go false false p e = absurd (let z : ◌≡◌ {A = ℕ} 0 1 = cc in omega arith)

-- 6
pub sixth : (k bits n : ℕ) → judged_number k bits n ≡ Err UncoveredBit → (unlabelled n (rows_of k) ≡ false) × (stray_below bits n (rows_of k) ≡ true)
unfolding judged_number
sixth k bits n e = go (unlabelled n (rows_of k)) (stray_below bits n (rows_of k)) refl refl e
  where
    go : (u s : Bool) → unlabelled n (rows_of k) ≡ u → stray_below bits n (rows_of k) ≡ s
        → cond {A = Judged} u (Err (NoLabel (offender n (rows_of k)))) (cond s (Err UncoveredBit) (Ok (k, n))) ≡ Err UncoveredBit
        → (unlabelled n (rows_of k) ≡ false) × (stray_below bits n (rows_of k) ≡ true)
    go true s p q e = absurd (let z : ◌≡◌ {A = ℕ} 0 1 = cc in omega arith)
    go false true p q e = (p, q)
    go false false p q e = absurd (let z : ◌≡◌ {A = ℕ} 0 1 = cc in omega arith)

-- ---- the frame's kind

module _ (iface : Interface) (m : ℕ) (x : Bool) (bs : List ℕ) (a : Judged) (c : Reached iface m x bs a) where
  -- it is of the kind of the row that is found, in whose byte order its number is read
  pub reached_kind : OfKind iface m x bs (row_at c.place).kind
  reached_kind =
      let t = found_has iface m x c.place c.found in
      record { has = t.has; sized = c.sized ∙ sym t.bytes }

  pub reached_number : number_in (row_at c.place).kind bs ≡ number_of (row_at c.place).big bs
  reached_number = ap (λ (b : Bool). number_of b bs) (found_has iface m x c.place c.found).big

-- a frame of kind k is answered what its number is
pub of_kind_lem : (iface : Interface) (m : ℕ) (x : Bool) (bs : List ℕ) (k : ℕ) → OfKind iface m x bs k → judge_on iface m x bs ≡ judged_number k (8 * length bs) (number_in k bs)
unfolding judge_on
of_kind_lem iface m x bs k o =
    let p = has_found iface m x k o.has in
    let t = found_has iface m x p.0 p.1 in
    let size : length bs ≡ (row_at p.0).bytes = o.sized ∙ ap (λ (j : ℕ). (message_of j).2) (sym p.2) ∙ t.bytes in
    let big : (row_at p.0).big ≡ (message_of k).3 = sym t.big ∙ ap (λ (j : ℕ). (message_of j).3) p.2 in
    rw (p.1, eq-eqb (length bs) (row_at p.0).bytes size) (ap₂ (λ (j : ℕ) (b : Bool). judged_number j (8 * length bs) (number_of b bs)) p.2 big)

-- ---- labels, row by row

pub labelled_each : (n : ℕ) (rs : List Row) → unlabelled n rs ≡ false → (q : Row) → Among q rs → takes q.labels (bits_at n q) ≡ true
unfolding unlabelled
labelled_each n [] u q m = absurd m
labelled_each n (r ∷ rs) u q (inl e) =
    ap (λ (x : Row). takes x.labels (bits_at n x)) e
    ∙ not-false (takes r.labels (bits_at n r)) (either_false (not (takes r.labels (bits_at n r))) (unlabelled n rs) u).0
labelled_each n (r ∷ rs) u q (inr m) = labelled_each n rs (either_false (not (takes r.labels (bits_at n r))) (unlabelled n rs) u).1 q m

pub each_labelled : (n : ℕ) (rs : List Row) → ((q : Row) → Among q rs → takes q.labels (bits_at n q) ≡ true) → unlabelled n rs ≡ false
unfolding unlabelled
each_labelled n [] h = refl
each_labelled n (r ∷ rs) h =
    ap (λ (b : Bool). not b || unlabelled n rs) (h r (inl refl)) ∙ each_labelled n rs (λ q m. h q (inr m))
