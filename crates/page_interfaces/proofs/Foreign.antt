-- 02, Req 11: an identifier that only the other interface has is refused with 3 by the reader, of whatever length and content (`foreign-refused`), is one of
-- the other's (`foreign-has`), and none of this one's (`foreign-not`). Assumes nothing.
use Rattle.std.specs.Prelude.{Some, None, Ok, Err, Option}
use mathlib.Core.Path.{◌≡◌, refl, sym, ap, ◌∙◌}
use mathlib.Core.Bool.{Bool, true, false, cond, not, ◌||◌}
use mathlib.Core.Logic.{◌⊎◌, inl, inr}
use mathlib.Core.List.{List}
use Prim.Native.Nat.{ℕ, ◌<◌, ◌≤◌}
use native.Mathlib.Omega.{arith}
use lib.Dec.{leb, ltb}
use borrow.Author.Tests.{not-true, ltb-false, leb-false, le-leb, lt-ltb}
use Rattle.signal.proofs.Complement.{half_of}
use Rattle.refusals.specs.declared.Refusal.TheVariants.{UnknownIdentifier, OtherInterface}
use Rattle.page_table.specs.declared.Interface.{Interface}
use Rattle.page_table.specs.declared.Interface.TheVariants.{Newer, Older}
use Rattle.page_table.specs.Messages.{kind_count, rest_kind}
use Rattle.page_table.specs.Table.{rows, row_at, first_at, has_id, with_message}
use Rattle.page_table.specs.Interfaces.{safety_kind, is_on, found_on, Has}
use Rattle.page_table.proofs.Rules.{not_both, either_false}
use Rattle.page_table.proofs.Interfaces.{found_says, has_found, own_found}
use Rattle.page_table.proofs.Listed.{found_listed}
use Rattle.page_read.specs.Judged.{Judged}
use Rattle.page_read.specs.Judge.{judged_row, judged_at, judged_for, judge_on, judge_from}
use Rattle.page_interfaces.specs.Foreign.{foreign_at, is_foreign, other, judge_for}

last : (b : Bool) → b || true ≡ true
last true = refl
last false = refl

-- a kind that one has not, the other has
pub either_has : (iface : Interface) (k : ℕ) → is_on iface k ≡ false → is_on (other iface) k ≡ true
either_has Newer k e =
    let n = either_false (ltb k kind_count) (leb rest_kind k) e in
    rw (le-leb safety_kind k (omega (arith, ltb-false k kind_count n.0)), lt-ltb k rest_kind (omega (arith, leb-false rest_kind k n.1)))
either_has Older k e = go (half_of rest_kind k)
  where
    go : (k < rest_kind) ⊎ (rest_kind ≤ k) → is_on Newer k ≡ true
    go (inl l) = below (half_of safety_kind k)
      where
        below : (k < safety_kind) ⊎ (safety_kind ≤ k) → is_on Newer k ≡ true
        below (inl s) = rw (lt-ltb k kind_count (omega arith))
        below (inr s) = absurd (not_both (is_on Older k) (rw (le-leb safety_kind k s, lt-ltb k rest_kind l)) e)
    go (inr l) = rw (le-leb rest_kind k l) (last (ltb k kind_count))

-- the row that has the identifier
record Row-found (iface : Interface) (m : ℕ) (x : Bool) : Type 0 where
  place : ℕ
  first : first_at (has_id m x) 0 rows ≡ Some place
  lacking : is_on iface (row_at place).kind ≡ false

row_found : (iface : Interface) (m : ℕ) (x : Bool) → is_foreign iface m x ≡ true → Row-found iface m x
unfolding is_foreign
row_found iface m x e = go (first_at (has_id m x) 0 rows) refl e
  where
    go : (f : Option ℕ) → first_at (has_id m x) 0 rows ≡ f → foreign_at iface f ≡ true → Row-found iface m x
    go (Some i) q e = record { place = i; first = q; lacking = not-true (is_on iface (row_at i).kind) e }
    go None q e = absurd (not_both false e refl)

-- THEOREM: the other interface has it
pub foreign_has : (iface : Interface) (m : ℕ) (x : Bool) → is_foreign iface m x ≡ true → (k : ℕ) × Has (other iface) m x k
foreign_has iface m x e =
    let r = row_found iface m x e in
    let k = (row_at r.place).kind in
    (k, record { listed = (found_listed m x r.place r.first).listed; own = either_has iface k r.lacking })

-- THEOREM: this one has not
pub foreign_not : (iface : Interface) (m : ℕ) (x : Bool) → is_foreign iface m x ≡ true → (k : ℕ) → Has iface m x k → ⊥
foreign_not iface m x e k h =
    let r = row_found iface m x e in
    let p = has_found iface m x k h in
    let o = own_found iface (first_at (has_id m x) 0 rows) p.0 p.1 in
    let same : Some r.place ≡ Some p.0 = sym r.first ∙ o.0 in
    let at : r.place ≡ p.0 = cc in
    not_both (is_on iface (row_at p.0).kind) o.1 (ap (λ (i : ℕ). is_on iface (row_at i).kind) (sym at) ∙ r.lacking)

-- THEOREM: the reader gives 3, of whatever length and content
pub foreign_refused : (iface : Interface) (m : ℕ) (x : Bool) (bs : List ℕ) → is_foreign iface m x ≡ true → judge_on iface m x bs ≡ Err UnknownIdentifier
unfolding judge_on
foreign_refused iface m x bs e =
    let r = row_found iface m x e in
    ap (λ (f : Option ℕ). judged_at bs (found_on iface f)) r.first ∙ ap (λ (b : Bool). judged_at bs (cond b (Some r.place) None)) r.lacking

-- THEOREM: a frame that the interface's own pages read is none of the other's alone
pub read_own : (iface : Interface) (m : ℕ) (x : Bool) (bs : List ℕ) (k n : ℕ) → judge_on iface m x bs ≡ Ok (k, n) → is_foreign iface m x ≡ false
read_own iface m x bs k n e = go (is_foreign iface m x) refl
  where
    go : (b : Bool) → is_foreign iface m x ≡ b → b ≡ false
    go true f = let z : ◌≡◌ {A = Judged} (Err UnknownIdentifier) (Ok (k, n)) = sym (foreign_refused iface m x bs f) ∙ e in absurd (let y : ◌≡◌ {A = ℕ} 0 1 = cc in omega arith)
    go false f = refl

-- ---- what a post reads

-- the reader with 29 for the other's identifiers
pub from_for : (iface : Interface) (m : ℕ) (x : Bool) (bs : List ℕ) → judge_from iface OtherInterface m x bs ≡ judge_for iface m x bs
unfolding judge_from judge_for judge_on is_foreign
from_for iface m x bs = go (first_at (has_id m x) 0 rows)
  where
    by : (i : ℕ) (b : Bool) → cond b (judged_row (row_at i) bs) (Err OtherInterface) ≡ cond (not b) (Err OtherInterface) (judged_at bs (cond b (Some i) None))
    by i true = refl
    by i false = refl

    go : (f : Option ℕ) → judged_for iface OtherInterface bs f ≡ cond (foreign_at iface f) (Err OtherInterface) (judged_at bs (found_on iface f))
    go (Some i) = by i (is_on iface (row_at i).kind)
    go None = refl

-- ---- what a search tells: a message that is found, by its kind, and none

pub foreign_at_lem : (iface : Interface) (f : Option ℕ) (k i len : ℕ) (big : Bool) → with_message f ≡ Some (k, i, len, big) → not (is_on iface k) ≡ foreign_at iface f
foreign_at_lem iface (Some j) k i len big e = ap (λ (x : ℕ). not (is_on iface x)) (sym (found_says j k i len big e).0)
foreign_at_lem iface None k i len big e = absurd (let z : ◌≡◌ {A = ℕ} 0 1 = cc in omega arith)

pub foreign_none : (iface : Interface) (f : Option ℕ) → with_message f ≡ None → false ≡ foreign_at iface f
foreign_none iface (Some j) e = absurd (let z : ◌≡◌ {A = ℕ} 0 1 = cc in omega arith)
foreign_none iface None e = refl
