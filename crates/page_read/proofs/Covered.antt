-- Every bit of a message without gaps is a signal's: clearing the signals of such a frame leaves nothing, so that 6 is none of its refusals.
-- Assumes nothing.
use mathlib.Core.Path.{◌≡◌, refl, ap, ◌∙◌, subst}
use mathlib.Core.Bool.{Bool, true, false, not, ◌||◌}
use Prim.Native.Nat.{ℕ, ◌*◌, ◌^◌, ◌<◌}
use borrow.Author.Tests.{eqb-true}
use Rattle.page_search.specs.page_table.specs.Messages.{message_count}
use Rattle.page_search.specs.page_table.specs.Table.{rows, rows_of, of_kind, length_of, covered}
use Rattle.page_read.specs.Steps.{cleared, has_gaps}
use Rattle.page_search.specs.page_table.proofs.Rules.{not_both, ordered}
use Rattle.page_search.specs.page_table.proofs.Below.{all_below, below_at}
use Rattle.page_read.proofs.Gaps.{stray_zero, cleared_test}

-- the rule, computed over the table
all_covered : all_below (λ k. has_gaps k || all_below (covered (rows_of k)) (8 * length_of k)) message_count ≡ true
unfolding all_below rows of_kind length_of covered
all_covered = refl

without : (a b : Bool) → a || b ≡ true → a ≡ false → b ≡ true
without a b e f = subst (λ (x : Bool). x || b ≡ true) f e

pub cleared_none : (k n : ℕ) → k < message_count → has_gaps k ≡ false → n < 2 ^ (8 * length_of k) → cleared (rows_of k) n ≡ 0
cleared_none k n h g l =
    let each = below_at (covered (rows_of k)) (8 * length_of k) in
    let whole = without (has_gaps k) (all_below (covered (rows_of k)) (8 * length_of k)) (below_at (λ j. has_gaps j || all_below (covered (rows_of j)) (8 * length_of j)) message_count k all_covered h) g in
    let none = stray_zero (8 * length_of k) n (rows_of k) (λ i b u. absurd (not_both (covered (rows_of k) i) (each i whole b) u)) in
    eqb-true (cleared (rows_of k) n) 0 (cleared_test (8 * length_of k) (rows_of k) n (ordered k) l ∙ ap not none)
