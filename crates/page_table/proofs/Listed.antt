-- What a search finds is what stands in the list: a message with its identifier (`found-listed`, `listed_found`, `none-listed`), and a kind's signal at its
-- start (`found-signal`, `signal-found`, `no-signal-at`).
-- Assumes nothing.
use Rattle.std.specs.Prelude.{Some, None, Option}
use mathlib.Core.Path.{◌≡◌, refl, sym, ap, ap₂, ◌∙◌}
use mathlib.Core.Bool.{Bool, true, false, cond, ◌&&◌}
use mathlib.Core.Logic.{inl, inr}
use mathlib.Core.List.{List, [], ◌∷◌}
use Prim.Native.Nat.{ℕ, zero, suc, ◌*◌, ◌<◌}
use native.Mathlib.Nat.{le_of_suc-le-suc, not-suc-le-zero}
use native.Mathlib.Omega.{arith}
use lib.Dec.{eqb}
use lib.ListN.{length, get_or}
use borrow.Author.Tests.{eqb-true, eq-eqb}
use Rattle.page_table.specs.declared.Row.{Row}
use Rattle.page_table.specs.Messages.{message_of, key_of}
use Rattle.page_table.specs.Table.{rows, no_row, row_at, has_kind, has_id, is_signal, keep, of_kind, rows_of, first_at, length_of}
use Rattle.page_table.specs.Listed.{Among, Listed, SignalAt}
use Rattle.page_table.proofs.Rules.{both_true, not_both, rows_length, every_at, id_true, ordered, row_among, among_start}
use Rattle.page_table.proofs.Firsts.{found_in}
use Rattle.page_table.proofs.Heads.{agrees, rows_agree, agreed, id_place}

pub at_among : (l : List Row) (j : ℕ) → j < length l → Among (get_or l j no_row) l
at_among [] j h = absurd (not-suc-le-zero h)
at_among (r ∷ rs) zero h = inl refl
at_among (r ∷ rs) (suc j) h = inr (at_among rs j (le_of_suc-le-suc h))

-- ---- messages

-- the row that is found says what the list says of its kind
pub record Told (m : ℕ) (x : Bool) (i : ℕ) : Type 0 where
  pub listed : Listed m x (row_at i).kind
  pub bytes : (message_of (row_at i).kind).2 ≡ (row_at i).bytes
  pub big : (message_of (row_at i).kind).3 ≡ (row_at i).big

pub found_listed : (m : ℕ) (x : Bool) (i : ℕ) → first_at (has_id m x) 0 rows ≡ Some i → Told m x i
found_listed m x i f =
    let c = found_in (has_id m x) i f in
    let a = agreed (row_at i) (every_at agrees rows rows_agree i (rw rows_length c.0)) in
    let w = id_true m x (row_at i) c.1 in
    record {
      listed = record { in_table = a.kind; identifier = a.id ∙ w.0; form = a.extended ∙ sym w.1 };
      bytes = a.bytes;
      big = a.big;
    }

pub listed_found : (m : ℕ) (x : Bool) (k : ℕ) → Listed m x k → (i : ℕ) × (first_at (has_id m x) 0 rows ≡ Some i) × ((row_at i).kind ≡ k)
listed_found m x k l =
    let p = id_place m x k l.in_table (ap₂ key_of l.identifier l.form) in
    ((message_of k).4, p.0, p.1)

pub none_listed : (m : ℕ) (x : Bool) → ((k : ℕ) → Listed m x k → ⊥) → first_at (has_id m x) 0 rows ≡ None
none_listed m x n = go (first_at (has_id m x) 0 rows) refl
  where
    go : (f : Option ℕ) → first_at (has_id m x) 0 rows ≡ f → f ≡ None
    go (Some i) e = absurd (n (row_at i).kind (found_listed m x i e).listed)
    go None e = refl

-- ---- signals

pub found_signal : (k s i : ℕ) → first_at (is_signal k s) 0 rows ≡ Some i → SignalAt k s (row_at i)
found_signal k s i f =
    let c = found_in (is_signal k s) i f in
    let p = both_true (has_kind k (row_at i)) (eqb (row_at i).start s) c.1 in
    record { is_signal = row_among k i c.0 (eqb-true (row_at i).kind k p.0); start = eqb-true (row_at i).start s p.1 }

-- a list without what is searched for
none_passes : (p : Row → Bool) (i : ℕ) (l : List Row) → first_at p i l ≡ None → (r : Row) → Among r l → p r ≡ false
unfolding first_at
none_passes p i [] e r m = absurd m
none_passes p i (q ∷ l) e r m = go (p q) refl e m (λ h a. none_passes p (suc i) l h r a)
  where
    go : (b : Bool) → p q ≡ b → cond b (Some i) (first_at p (suc i) l) ≡ None → Among r (q ∷ l) → (first_at p (suc i) l ≡ None → Among r l → p r ≡ false) → p r ≡ false
    go true t e m f = absurd (let z : ◌≡◌ {A = ℕ} 0 1 = cc in omega arith)
    go false t e (inl w) f = ap p w ∙ t
    go false t e (inr a) f = f e a

-- a row of a kind is one of the table's, and of that kind
of_among : (k : ℕ) (l : List Row) (r : Row) → Among r (of_kind k l) → Among r l × (has_kind k r ≡ true)
unfolding of_kind
of_among k [] r m = absurd m
of_among k (q ∷ l) r m = go (has_kind k q) refl m (of_among k l r)
  where
    go : (b : Bool) → has_kind k q ≡ b → Among r (keep b q (of_kind k l)) → (Among r (of_kind k l) → Among r l × (has_kind k r ≡ true)) → Among r (q ∷ l) × (has_kind k r ≡ true)
    go true t (inl w) f = (inl w, ap (has_kind k) w ∙ t)
    go true t (inr a) f = let c = f a in (inr c.0, c.1)
    go false t a f = let c = f a in (inr c.0, c.1)

pub signal_found : (k s : ℕ) (r : Row) → SignalAt k s r → (i : ℕ) × (first_at (is_signal k s) 0 rows ≡ Some i) × (row_at i ≡ r)
signal_found k s r t = go (first_at (is_signal k s) 0 rows) refl
  where
    go : (f : Option ℕ) → first_at (is_signal k s) 0 rows ≡ f → (i : ℕ) × (first_at (is_signal k s) 0 rows ≡ Some i) × (row_at i ≡ r)
    go (Some i) e =
        let c = found_signal k s i e in
        (i, e, among_start (8 * length_of k) 0 r (row_at i) (rows_of k) (ordered k) t.is_signal c.is_signal (t.start ∙ sym c.start))
    go None e =
        let o = of_among k rows r t.is_signal in
        let passes : is_signal k s r ≡ true = ap₂ (λ (a b : Bool). a && b) o.1 (eq-eqb r.start s t.start) in
        absurd (not_both (is_signal k s r) passes (none_passes (is_signal k s) 0 rows e r o.0))

pub no_signal_at : (k s : ℕ) → ((r : Row) → SignalAt k s r → ⊥) → first_at (is_signal k s) 0 rows ≡ None
no_signal_at k s n = go (first_at (is_signal k s) 0 rows) refl
  where
    go : (f : Option ℕ) → first_at (is_signal k s) 0 rows ≡ f → f ≡ None
    go (Some i) e = absurd (n (row_at i) (found_signal k s i e))
    go None e = refl
