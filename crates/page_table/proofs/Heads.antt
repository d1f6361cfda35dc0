-- What the messages say is what the rows say: of a kind (`says`), where its rows stand (`first-place`, `no_kind`), and which has an identifier (`id-place`).
-- Assumes nothing.
use Rattle.std.specs.Prelude.{Some, None, Option}
use mathlib.Core.Path.{◌≡◌, refl, sym, ap, ap₂, ◌∙◌, subst}
use mathlib.Core.Bool.{Bool, true, false, not, ◌&&◌}
use mathlib.Core.Logic.{◌⊎◌, inl, inr}
use mathlib.Core.List.{List, []}
use Prim.Native.Nat.{ℕ, ◌≤◌, ◌<◌}
use native.Mathlib.Omega.{arith}
use lib.Dec.{eqb, ltb}
use lib.ListN.{get_or-eq_default}
use borrow.Author.Tests.{eqb-true, ltb-true, ne_eqb}
use Rattle.signal.proofs.Complement.{half_of}
use Rattle.page_table.specs.declared.Row.{Row}
use Rattle.page_table.specs.declared.Message.{Message}
use Rattle.page_table.specs.Messages.{message_count, messages, no_message, message_of, same, key_of}
use Rattle.page_table.specs.Table.{rows, row_at, has_kind, has_id, rows_of, head_row, first_at, kind_found, with_message, identifier_of, extended_of, length_of, big_of}
use Rattle.page_table.specs.Rules.{every}
use Rattle.page_table.proofs.Rules.{both_true, same_true, rows_length, every_at, every_so}
use Rattle.page_table.proofs.Firsts.{found_in, first_kind, none_kind, id_kind_lem, known}
use Rattle.page_table.proofs.Searches.{none_found}
use Rattle.page_table.proofs.Below.{all_below, below_at}

-- ---- the two rules, computed over the table

-- a row says of its message what the message says
abbrev pub agrees : Row → Bool
agrees r =
    let m = message_of r.kind in
    ltb r.kind message_count && eqb m.0 r.id && same m.1 r.extended && eqb m.2 r.bytes && same m.3 r.big

pub rows_agree : every agrees rows ≡ true
unfolding rows
rows_agree = refl

-- a message's first row is the first of its kind
abbrev found_at : ℕ → Option ℕ → Bool
found_at i (Some j) = eqb j i
found_at i None = false

all_placed : all_below (λ k. found_at (message_of k).4 (first_at (has_kind k) 0 rows)) message_count ≡ true
unfolding all_below rows first_at
all_placed = refl

-- ---- what they tell

pub record Agreed (r : Row) : Type 0 where
  pub kind : r.kind < message_count
  pub id : (message_of r.kind).0 ≡ r.id
  pub extended : (message_of r.kind).1 ≡ r.extended
  pub bytes : (message_of r.kind).2 ≡ r.bytes
  pub big : (message_of r.kind).3 ≡ r.big

pub agreed : (r : Row) → agrees r ≡ true → Agreed r
agreed r e =
    let m = message_of r.kind in
    let a = ltb r.kind message_count in
    let b = eqb m.0 r.id in
    let d = same m.1 r.extended in
    let f = eqb m.2 r.bytes in
    let t = both_true (a && b && d && f) (same m.3 r.big) e in
    let s = both_true (a && b && d) f t.0 in
    let u = both_true (a && b) d s.0 in
    let v = both_true a b u.0 in
    record {
      kind = ltb-true r.kind message_count v.0;
      id = eqb-true m.0 r.id v.1;
      extended = same_true m.1 r.extended u.1;
      bytes = eqb-true m.2 r.bytes s.1;
      big = same_true m.3 r.big t.1;
    }

pub first_place : (k : ℕ) → k < message_count → first_at (has_kind k) 0 rows ≡ Some (message_of k).4
first_place k h =
    go (first_at (has_kind k) 0 rows) (below_at (λ j. found_at (message_of j).4 (first_at (has_kind j) 0 rows)) message_count k all_placed h)
  where
    go : (f : Option ℕ) → found_at (message_of k).4 f ≡ true → f ≡ Some (message_of k).4
    go (Some j) e = ap Some (eqb-true j (message_of k).4 e)
    go None e = absurd (let z : ◌≡◌ {A = ℕ} 0 1 = cc in omega arith)

pub no_kind : (k : ℕ) → message_count ≤ k → first_at (has_kind k) 0 rows ≡ None
no_kind k h =
    none_found (has_kind k) 0 rows
    (every_so agrees (λ r. not (has_kind k r)) (λ r e. ap not (ne_eqb r.kind k (λ q. omega (arith, (agreed r e).kind)))) rows rows_agree)

-- ---- a kind

abbrev Says : ℕ → Type 0
Says k = ((message_of k).0 ≡ identifier_of k) × ((message_of k).1 ≡ extended_of k) × ((message_of k).2 ≡ length_of k) × ((message_of k).3 ≡ big_of k)

pub says : (k : ℕ) → Says k
unfolding identifier_of extended_of length_of big_of
says k = go (half_of message_count k)
  where
    go : (k < message_count) ⊎ (message_count ≤ k) → Says k
    go (inl h) =
        let e = first_place k h in
        let i = (message_of k).4 in
        let f = found_in (has_kind k) i e in
        let a = agreed (row_at i) (every_at agrees rows rows_agree i (rw rows_length f.0)) in
        let same_kind : k ≡ (row_at i).kind = sym (eqb-true (row_at i).kind k f.1) in
        let head = (first_kind k i e).2 in (
          ap (λ (j : ℕ). (message_of j).0) same_kind ∙ a.id ∙ ap (λ (r : Row). r.id) head,
          ap (λ (j : ℕ). (message_of j).1) same_kind ∙ a.extended ∙ ap (λ (r : Row). r.extended) head,
          ap (λ (j : ℕ). (message_of j).2) same_kind ∙ a.bytes ∙ ap (λ (r : Row). r.bytes) head,
          ap (λ (j : ℕ). (message_of j).3) same_kind ∙ a.big ∙ ap (λ (r : Row). r.big) head,
        )
    go (inr h) =
        let none : message_of k ≡ no_message = get_or-eq_default messages no_message h in
        let empty : [] ≡ rows_of k = sym (none_kind k (no_kind k h)) in (
          ap (λ (m : Message). m.0) none ∙ ap (λ (l : List Row). (head_row l).id) empty,
          ap (λ (m : Message). m.1) none ∙ ap (λ (l : List Row). (head_row l).extended) empty,
          ap (λ (m : Message). m.2) none ∙ ap (λ (l : List Row). (head_row l).bytes) empty,
          ap (λ (m : Message). m.3) none ∙ ap (λ (l : List Row). (head_row l).big) empty,
        )

-- ---- an identifier in its form

pub key_same : (i j : ℕ) (x y : Bool) → key_of i x ≡ key_of j y → (i ≡ j) × (x ≡ y)
key_same i j true true e = (omega arith, refl)
key_same i j false false e = (omega arith, refl)
key_same i j true false e = absurd (omega arith)
key_same i j false true e = absurd (omega arith)

-- that of kind k
abbrev pub kind_key : ℕ → ℕ
kind_key k = key_of (message_of k).0 (message_of k).1

-- it is that of kind k, whose first row is the first with the identifier
pub id_place : (m : ℕ) (x : Bool) (k : ℕ) → k < message_count → kind_key k ≡ key_of m x
    → (first_at (has_id m x) 0 rows ≡ Some (message_of k).4) × ((row_at (message_of k).4).kind ≡ k)
id_place m x k h e =
    let p = first_place k h in
    let n = known k (first_kind k (message_of k).4 p).3 in
    let i = n.0 in
    let t = key_same (message_of k).0 m (message_of k).1 x e in
    let s = says k in
    let place : Some (message_of k).4 ≡ Some i = sym p ∙ subst (λ (j : ℕ). first_at (has_kind j) 0 rows ≡ Some i) n.2 (id_kind_lem (identifier_of k) (extended_of k) i n.1) in
    let at : (message_of k).4 ≡ i = cc in
    let found : first_at (has_id m x) 0 rows ≡ Some i
    = ap₂ (λ (j : ℕ) (y : Bool). first_at (has_id j y) 0 rows) (sym t.0 ∙ s.0) (sym t.1 ∙ s.1) ∙ n.1 in
    (found ∙ ap Some (sym at), ap (λ (j : ℕ). (row_at j).kind) at ∙ n.2)

-- the message of a kind that was found is that of the row
pub kind_message : (k : ℕ) (f : Option ℕ) → kind_found f ≡ Some k → ((i : ℕ) → f ≡ Some i → first_at (has_kind (row_at i).kind) 0 rows ≡ Some i)
    → Some (k, (message_of k).4, (message_of k).2, (message_of k).3) ≡ with_message f
kind_message k (Some i) e first =
    let q : (row_at i).kind ≡ k = cc in
    let p : first_at (has_kind k) 0 rows ≡ Some i = subst (λ (j : ℕ). first_at (has_kind j) 0 rows ≡ Some i) q (first i refl) in
    let f = found_in (has_kind k) i p in
    let a = agreed (row_at i) (every_at agrees rows rows_agree i (rw rows_length f.0)) in
    let below : k < message_count = subst (λ (j : ℕ). j < message_count) q a.kind in
    let place : Some (message_of k).4 ≡ Some i = sym (first_place k below) ∙ p in
    let at : (message_of k).4 ≡ i = cc in
    ap₂ (λ (u v : ℕ). Some (u, v, (message_of k).2, (message_of k).3)) (sym q) at
    ∙ ap₂ (λ (u : ℕ) (v : Bool). Some ((row_at i).kind, i, u, v))
    (ap (λ (j : ℕ). (message_of j).2) (sym q) ∙ a.bytes) (ap (λ (j : ℕ). (message_of j).3) (sym q) ∙ a.big)
kind_message k None e first = absurd (let z : ◌≡◌ {A = ℕ} 0 1 = cc in omega arith)

pub kind_nothing : (f : Option ℕ) → kind_found f ≡ None → None ≡ with_message f
kind_nothing (Some i) e = absurd (let z : ◌≡◌ {A = ℕ} 0 1 = cc in omega arith)
kind_nothing None e = refl
