-- `page_read::labels::offence` meets its contract: each arm asks the rows of its kind that have labels, and the other kinds without gaps have none.
use Rattle.std.proofs.Common.{◌≡◌, ℕ, ◌<◌, ◌≤◌, Bool, true, false, ◌||◌, List, [], ◌∷◌, ◌++◌, cond, Option, Some, None, refl, sym, ap, ap₂, ◌∙◌, rules}
use Rattle.std.specs.Option.{option_or}
use mathlib.Core.Logic.{◌⊎◌, inl, inr}
use lib.Dec.{eqb}
use Rattle.signal.proofs.Complement.{half_of}
use Rattle.page_search.specs.page_table.specs.declared.Row.{Row}
use Rattle.page_search.specs.page_table.specs.Layout.{row_of}
use Rattle.page_search.specs.page_table.specs.Messages.{message_count}
use Rattle.page_search.specs.page_table.specs.Table.{rows, rows_of, of_kind, bits_at, takes}
use Rattle.page_search.specs.page_table.specs.Rules.{every}
use Rattle.page_search.specs.page_table.proofs.Rules.{both_true}
use Rattle.page_search.specs.page_table.proofs.Below.{all_below, below_at}
use Rattle.page_search.specs.page_table.proofs.Firsts.{none_kind}
use Rattle.page_search.specs.page_table.proofs.Heads.{no_kind}
use Rattle.page_read.specs.Steps.{offence_of, has_gaps}
use Rattle.page_read.proofs.labels.offence.Goals as goal

at_kind : (n : ℕ) {i : ℕ} (k : ℕ) → i ≡ k → offence_of n (rows_of k) ≡ offence_of n (rows_of i)
at_kind n k e = ap (λ (j : ℕ). offence_of n (rows_of j)) (sym e)

-- the first offence of some rows, or else of others
option_joined : (n : ℕ) (xs ys : List Row) → option_or (offence_of n xs) (offence_of n ys) ≡ offence_of n (xs ++ ys)
unfolding offence_of
option_joined n [] ys = refl
option_joined n (r ∷ xs) ys = go (takes r.labels (bits_at n r)) (option_joined n xs ys)
  where
    go : (b : Bool) → option_or (offence_of n xs) (offence_of n ys) ≡ offence_of n (xs ++ ys)
        → option_or (cond b (offence_of n xs) (Some r.start)) (offence_of n ys) ≡ cond b (offence_of n (xs ++ ys)) (Some r.start)
    go true i = i
    go false i = refl

joined : (n : ℕ) (xs ys : List Row) (a b o : Option ℕ) → a ≡ offence_of n xs → b ≡ offence_of n ys → o ≡ option_or a b → o ≡ offence_of n (xs ++ ys)
joined n xs ys a b o e f g = g ∙ ap₂ option_or e f ∙ option_joined n xs ys

-- the kinds that have an arm
abbrev asked : ℕ → Bool
asked k = eqb k 0 || eqb k 2 || eqb k 3 || eqb k 4 || eqb k 5 || eqb k 6 || eqb k 7 || eqb k 12 || eqb k 16 || eqb k 19 || eqb k 21 || eqb k 22 || eqb k 23 || eqb k 28 || eqb k 29 || eqb k 40 || eqb k 41

-- a row has no labels, and takes every number
abbrev bare : Row → Bool
bare r = eqb r.labels 0

all_bare : (n : ℕ) (rs : List Row) → every bare rs ≡ true → None ≡ offence_of n rs
unfolding offence_of
all_bare n [] e = refl
all_bare n (r ∷ rs) e = let p = both_true (bare r) (every bare rs) e in rw p.0 (all_bare n rs p.1)

seen : all_below (λ k. asked k || has_gaps k || every bare (rows_of k)) message_count ≡ true
unfolding all_below rows of_kind
seen = refl

quiet : (n k : ℕ) → asked k ≡ false → has_gaps k ≡ false → None ≡ offence_of n (rows_of k)
unfolding offence_of
quiet n k a g = go (half_of message_count k)
  where
    go : (k < message_count) ⊎ (message_count ≤ k) → None ≡ offence_of n (rows_of k)
    go (inl h) = all_bare n (rows_of k) (rw (a, g) at (below_at (λ j. asked j || has_gaps j || every bare (rows_of j)) message_count k seen h))
    go (inr h) = sym (ap (offence_of n) (none_kind k (no_kind k h)))

pub returns-in-0 : goal.returns-in-0
unfolding rows of_kind offence_of
returns-in-0 c = c.offence_at.ensures ∙ at_kind c.args.n 0 c.in-0.is

pub returns-in-2 : goal.returns-in-2
unfolding rows of_kind offence_of
returns-in-2 c = c.offence_at-in-2.ensures ∙ at_kind c.args.n 2 c.in-2.is

pub returns-in-4 : goal.returns-in-4
unfolding rows of_kind offence_of
returns-in-4 c = c.offence_at-in-4.ensures ∙ at_kind c.args.n 4 c.in-4.is

pub returns-in-6 : goal.returns-in-6
unfolding rows of_kind offence_of
returns-in-6 c = c.offence_at-in-6.ensures ∙ at_kind c.args.n 6 c.in-6.is

pub returns-in-7 : goal.returns-in-7
unfolding rows of_kind offence_of
returns-in-7 c = c.offence_at-in-7.ensures ∙ at_kind c.args.n 7 c.in-7.is

pub returns-in-12 : goal.returns-in-12
unfolding rows of_kind offence_of
returns-in-12 c = c.offence_at-in-12.ensures ∙ at_kind c.args.n 12 c.in-12.is

pub returns-in-19 : goal.returns-in-19
unfolding rows of_kind offence_of
returns-in-19 c = c.offence_at-in-19.ensures ∙ at_kind c.args.n 19 c.in-19.is

pub returns-in-21 : goal.returns-in-21
unfolding rows of_kind offence_of
returns-in-21 c = c.offence_at-in-21.ensures ∙ at_kind c.args.n 21 c.in-21.is

pub returns-in-22 : goal.returns-in-22
unfolding rows of_kind offence_of
returns-in-22 c = c.offence_at-in-22.ensures ∙ at_kind c.args.n 22 c.in-22.is

pub returns-in-23 : goal.returns-in-23
unfolding rows of_kind offence_of
returns-in-23 c = c.offence_at-in-23.ensures ∙ at_kind c.args.n 23 c.in-23.is

pub returns-in-28 : goal.returns-in-28
unfolding rows of_kind offence_of
returns-in-28 c = c.offence_at-in-28.ensures ∙ at_kind c.args.n 28 c.in-28.is

pub returns-in-40 : goal.returns-in-40
unfolding rows of_kind offence_of
returns-in-40 c = c.offence_at-in-40.ensures ∙ at_kind c.args.n 40 c.in-40.is

pub returns-in-3 : goal.returns-in-3
unfolding rows of_kind offence_of
returns-in-3 c =
    joined c.args.n (row_of (3, 0, 8, 0, false, 0b11111111) ∷ []) (row_of (3, 8, 8, 8, false, 0b11111) ∷ []) _ _ _ c.offence_at-in-3.ensures c.offence_at-in-3-2.ensures c.or.ensures
    ∙ at_kind c.args.n 3 c.in-3.is

pub returns-in-16 : goal.returns-in-16
unfolding rows of_kind offence_of
returns-in-16 c =
    joined c.args.n (row_of (16, 0, 8, 0, false, 0b11111111) ∷ []) (row_of (16, 8, 8, 8, false, 0b11111) ∷ []) _ _ _ c.offence_at-in-16.ensures c.offence_at-in-16-2.ensures c.or-in-16.ensures
    ∙ at_kind c.args.n 16 c.in-16.is

pub returns-in-29 : goal.returns-in-29
unfolding rows of_kind offence_of
returns-in-29 c =
    joined c.args.n (row_of (29, 0, 8, 0, false, 0b1111111111) ∷ []) (row_of (29, 8, 8, 8, false, 0b1111) ∷ []) _ _ _ c.offence_at-in-29.ensures c.offence_at-in-29-2.ensures c.or-in-29.ensures
    ∙ at_kind c.args.n 29 c.in-29.is

pub returns-in-41 : goal.returns-in-41
unfolding rows of_kind offence_of
returns-in-41 c =
    joined c.args.n (row_of (41, 0, 8, 0, false, 0b1111111111) ∷ []) (row_of (41, 8, 8, 8, false, 0b1111) ∷ []) _ _ _ c.offence_at-in-41.ensures c.offence_at-in-41-2.ensures c.or-in-41.ensures
    ∙ at_kind c.args.n 41 c.in-41.is

pub returns-in-5 : goal.returns-in-5
unfolding rows of_kind offence_of
returns-in-5 c =
    let n = c.args.n in
    let p = row_of (5, 48, 4, 48, false, 0b100010111) in
    let q = row_of (5, 53, 1, 53, false, 0b11) in
    let r = row_of (5, 54, 1, 54, false, 0b11) in
    let s = row_of (5, 55, 1, 55, false, 0b11) in
    joined n (p ∷ q ∷ r ∷ []) (s ∷ []) _ _ _
    (joined n (p ∷ q ∷ []) (r ∷ []) _ _ _ (joined n (p ∷ []) (q ∷ []) _ _ _ c.offence_at-in-5.ensures c.offence_at-in-5-2.ensures c.or-in-5.ensures)
    c.offence_at-in-5-3.ensures c.or-in-5-2.ensures)
    c.offence_at-in-5-4.ensures c.or-in-5-3.ensures
    ∙ at_kind n 5 c.in-5.is

pub returns-in_default : goal.returns-in_default
returns-in_default c = quiet c.args.n c.args.kind (search rules) c.requires
