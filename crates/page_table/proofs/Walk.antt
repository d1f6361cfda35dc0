-- The laws that every loop over a message's rows cites: what one more row does to what is left of the table, and to the rows of a kind.
use mathlib.Core.Path.{◌≡◌, ap, ◌∙◌}
use mathlib.Core.List.{[], ◌∷◌}
use Prim.Native.Nat.{ℕ, ◌+◌, ◌≤◌, ◌<◌}
use native.Mathlib.Numerals.{add-one}
use lib.ListN.{length, get_or, drop, drop_of_length-le}
use lib.Seq.{drop-cons}
use borrow.Author.Tests.{eq-eqb, ne_eqb}
use Rattle.page_table.specs.declared.Row.{Row}
use Rattle.page_table.specs.Table.{rows, no_row, row_count, block}
use Rattle.page_table.proofs.Rules.{rows_length}

-- ---- what is left of the table

pub row_next : (i : ℕ) (r : Row) → i < row_count → r ≡ get_or rows i no_row → drop i rows ≡ r ∷ drop (i + 1) rows
row_next i r h e = let k : i < length rows = rw rows_length h in rw (add-one i, e) (drop-cons rows i no_row k)

pub row_end : (i : ℕ) → row_count ≤ i → drop i rows ≡ []
row_end i h = let k : length rows ≤ i = rw rows_length h in drop_of_length-le rows k

-- ---- the rows of a kind that stand together from row i on

pub block_in : (k i : ℕ) (r : Row) → i < row_count → r ≡ get_or rows i no_row → r.kind ≡ k
    → block k (drop i rows) ≡ r ∷ block k (drop (i + 1) rows)
unfolding block
block_in k i r h e t = ap (block k) (row_next i r h e) ∙ rw (eq-eqb r.kind k t)

pub block_out : (k i : ℕ) (r : Row) → i < row_count → r ≡ get_or rows i no_row → (r.kind ≡ k → ⊥) → block k (drop i rows) ≡ []
unfolding block
block_out k i r h e t = ap (block k) (row_next i r h e) ∙ rw (ne_eqb r.kind k t)

pub block_end : (k i : ℕ) → row_count ≤ i → block k (drop i rows) ≡ []
unfolding block
block_end k i h = ap (block k) (row_end i h)
