-- One raw number of a kind by its place: the rows of a message stand together, so that the number at place p is that of the row p after the first.
use Rattle.std.proofs.Common.{◌≡◌, ℕ, zero, suc, ◌+◌, ◌<◌, ◌≤◌, ◌⊎◌, List, [], ◌∷◌, get_or, drop, ℤ, pos, refl, ap, ◌∙◌, inl, inr, le_of_suc-le-suc, not-suc-le-zero, arith}
use Rattle.signal.proofs.Complement.{half_of}
use Rattle.page_read.specs.page_table.specs.declared.Row.{Row}
use Rattle.page_read.specs.page_table.specs.Table.{rows, row_at, row_count, block}
use Rattle.page_write.specs.Raws.{whole_at, wholes_of, pad}
use Rattle.page_read.specs.page_table.proofs.Rules.{kind_is, kind_between}
use Rattle.page_read.specs.page_table.proofs.Walk.{block_in, block_out, block_end}

-- the number at a place among those of the rows of kind k that stand together from row i on
abbrev number_at : ℕ → ℕ → ℕ → ℕ → ℤ
number_at n k i p = get_or (wholes_of n (block k (drop i rows))) p (pos 0)

one_more_lem : (n k i p : ℕ) → i < row_count → (row_at i).kind ≡ k → number_at n k i (suc p) ≡ number_at n k (i + 1) p
unfolding wholes_of
one_more_lem n k i p h e = ap (λ (l : List Row). get_or (wholes_of n l) (suc p) (pos 0)) (block_in k i (row_at i) h refl e)

none_there : (n k i p : ℕ) → (row_count ≤ i) ⊎ ((row_at i).kind ≡ k → ⊥) → number_at n k i p ≡ pos 0
unfolding wholes_of
none_there n k i p (inl h) = ap (λ (l : List Row). get_or (wholes_of n l) p (pos 0)) (block_end k i h)
none_there n k i p (inr o) = go (half_of row_count i)
  where
    go : (i < row_count) ⊎ (row_count ≤ i) → number_at n k i p ≡ pos 0
    go (inl h) = ap (λ (l : List Row). get_or (wholes_of n l) p (pos 0)) (block_out k i (row_at i) h refl o)
    go (inr h) = ap (λ (l : List Row). get_or (wholes_of n l) p (pos 0)) (block_end k i h)

pub number_in : (n k p i : ℕ) → i + p < row_count → (row_at i).kind ≡ k → (row_at (i + p)).kind ≡ k → number_at n k i p ≡ whole_at n (row_at (i + p))
unfolding wholes_of
number_in n k zero i h e f =
    let s : i + 0 ≡ i = omega arith in
    rw s (ap (λ (l : List Row). get_or (wholes_of n l) 0 (pos 0)) (block_in k i (row_at i) (omega arith) refl e))
number_in n k (suc p) i h e f =
    let s : i + suc p ≡ i + 1 + p = omega arith in
    let next = kind_between k i (i + 1) (i + suc p) (omega arith) (omega arith) h e f in
    rw s (one_more_lem n k i p (omega arith) e ∙ number_in n k p (i + 1) (omega arith) next (rw s at f))

pub number_out : (n k p i : ℕ) → (row_count ≤ i + p) ⊎ ((row_at (i + p)).kind ≡ k → ⊥) → number_at n k i p ≡ pos 0
number_out n k zero i o =
    let s : i + 0 ≡ i = omega arith in
    none_there n k i 0 (rw s at o)
number_out n k (suc p) i o = go (half_of row_count i) (kind_is k (row_at i)) (number_out n k p (i + 1) (rw s at o))
  where
    s : i + suc p ≡ i + 1 + p
    s = omega arith

    go : (i < row_count) ⊎ (row_count ≤ i) → ((row_at i).kind ≡ k) ⊎ ((row_at i).kind ≡ k → ⊥) → number_at n k (i + 1) p ≡ pos 0
        → number_at n k i (suc p) ≡ pos 0
    go (inl h) (inl e) later = one_more_lem n k i p h e ∙ later
    go (inl h) (inr e) later = none_there n k i (suc p) (inr e)
    go (inr h) e later = none_there n k i (suc p) (inl h)

pub pad_at : (m p : ℕ) (zs : List ℤ) → p < m → get_or (pad m zs) p (pos 0) ≡ get_or zs p (pos 0)
unfolding pad
pad_at zero p zs h = absurd (not-suc-le-zero h)
pad_at (suc m) zero [] h = refl
pad_at (suc m) zero (z ∷ zs) h = refl
pad_at (suc m) (suc p) [] h = pad_at m p [] (le_of_suc-le-suc h)
pad_at (suc m) (suc p) (z ∷ zs) h = pad_at m p zs (le_of_suc-le-suc h)

pub pad_past : (m p : ℕ) (zs : List ℤ) → m ≤ p → get_or (pad m zs) p (pos 0) ≡ pos 0
unfolding pad
pad_past zero p zs h = refl
pad_past (suc m) zero zs h = absurd (not-suc-le-zero h)
pad_past (suc m) (suc p) [] h = pad_past m p [] (le_of_suc-le-suc h)
pad_past (suc m) (suc p) (z ∷ zs) h = pad_past m p zs (le_of_suc-le-suc h)

pub pad_none : (m p : ℕ) → get_or (pad m []) p (pos 0) ≡ pos 0
unfolding pad
pad_none zero p = refl
pad_none (suc m) zero = refl
pad_none (suc m) (suc p) = pad_none m p
