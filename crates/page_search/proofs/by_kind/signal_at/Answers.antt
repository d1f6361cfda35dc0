-- `page_search::by_kind::signal_at` meets its contract: each row of the kind that has another start leaves the search to the rows behind it.
use Rattle.std.proofs.Common.{Some, None, ◌≡◌, ℕ, ◌+◌, Bool, true, false, ◌&&◌, List, [], ◌∷◌, drop, sym, ap, ◌∙◌, add-one, arith}
use mathlib.Core.Bool.{and-false}
use borrow.Author.Tests.{eq-eqb, ne_eqb}
use Rattle.page_rows.specs.page_table.specs.declared.Row.{Row}
use Rattle.page_rows.specs.page_table.specs.Table.{rows, block, first_at, has_kind, is_signal}
use Rattle.page_rows.specs.page_table.proofs.Searches.{kind_search, kind_nothing}
use Rattle.page_rows.specs.page_table.proofs.Walk.{block_in, block_out, block_end}
use Rattle.page_search.proofs.by_kind.signal_at.Goals as goal

no_kind : (k s : ℕ) (r : Row) → (r.kind ≡ k → ⊥) → is_signal k s r ≡ false
no_kind k s r h = rw (ne_eqb r.kind k h)

no_start : (k s : ℕ) (r : Row) → (r.start ≡ s → ⊥) → is_signal k s r ≡ false
no_start k s r h = ap (λ (b : Bool). has_kind k r && b) (ne_eqb r.start s h) ∙ and-false (has_kind k r)

the_signal : (k s : ℕ) (r : Row) → r.kind ≡ k → r.start ≡ s → is_signal k s r ≡ true
the_signal k s r h e = rw (eq-eqb r.kind k h, eq-eqb r.start s e)

-- one row of the kind, then the others
first_here : (p : Row → Bool) (i : ℕ) (r : Row) (l rs : List Row) → l ≡ r ∷ rs → p r ≡ true → Some i ≡ first_at p i l
unfolding first_at
first_here p i r l rs e t = rw (e, t)

first_later : (p : Row → Bool) (i : ℕ) (r : Row) (l rs : List Row) → l ≡ r ∷ rs → p r ≡ false → first_at p (i + 1) rs ≡ first_at p i l
unfolding first_at
first_later p i r l rs e t = rw (e, t, add-one i)

first_none : (p : Row → Bool) (i : ℕ) (l : List Row) → l ≡ [] → None ≡ first_at p i l
unfolding first_at
first_none p i l e = rw e

pub returns-in_err-i : goal.returns-in_err-i
returns-in_err-i c =
    let a = c.args in
    let nothing : None ≡ first_at (is_signal a.kind a.start) 0 rows
    = kind_nothing a.kind (is_signal a.kind a.start) (no_kind a.kind a.start) (sym c.first_of_kind.ensures ∙ c.in_err-i.was) in
    cc c.from_residual.ensures

pub rows-init : goal.rows-init
rows-init c =
    let a = c.args in
    kind_search a.kind (is_signal a.kind a.start) (no_kind a.kind a.start) _ (sym c.first_of_kind.ensures ∙ c.in_ok-i.was)

pub rows-preserved : goal.rows-preserved
rows-preserved c =
    let a = c.args in
    let i = c.rows.i in
    let r = c.row_at-r.result in
    first_later (is_signal a.kind a.start) i r (block a.kind (drop i rows)) (block a.kind (drop (i + 1) rows))
    (block_in a.kind i r (omega arith) c.row_at-r.ensures c.if-r-kind.false) (no_start a.kind a.start r c.if-r-start.false)
    ∙ c.rows.invariant

pub returns-then-i-ge-ROW_COUNT : goal.returns-then-i-ge-ROW_COUNT
returns-then-i-ge-ROW_COUNT c =
    let a = c.args in
    let i = c.rows.i in
    first_none (is_signal a.kind a.start) i (block a.kind (drop i rows)) (block_end a.kind i c.if-i-ge-ROW_COUNT.true) ∙ c.rows.invariant

pub returns-then-r-kind : goal.returns-then-r-kind
returns-then-r-kind c =
    let a = c.args in
    let i = c.rows.i in
    first_none (is_signal a.kind a.start) i (block a.kind (drop i rows))
    (block_out a.kind i c.row_at-r.result (omega arith) c.row_at-r.ensures c.if-r-kind.true)
    ∙ c.rows.invariant

pub returns-then-r-start : goal.returns-then-r-start
returns-then-r-start c =
    let a = c.args in
    let i = c.rows.i in
    let r = c.row_at-r.result in
    first_here (is_signal a.kind a.start) i r (block a.kind (drop i rows)) (block a.kind (drop (i + 1) rows))
    (block_in a.kind i r (omega arith) c.row_at-r.ensures c.if-r-kind.false) (the_signal a.kind a.start r c.if-r-kind.false c.if-r-start.true)
    ∙ c.rows.invariant
