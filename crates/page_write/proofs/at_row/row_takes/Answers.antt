-- `page_write::at_row::row_takes` meets its contract: the sum tells whether the number fits, and the lowest bits are its label's.
use Rattle.std.proofs.Common.{◌≡◌, ℕ, ◌+◌, ◌*◌, ◌/◌, ◌%◌, ◌^◌, true, sym, ap, ◌∙◌, le-leb}
use borrow.Author.Tests.{lt-leb}
use Rattle.signal.specs.Raw.{fits_in}
use Rattle.page_read.specs.page_table.specs.Table.{takes}
use Rattle.page_write.proofs.AtRow.{low_row, sum_row}
use Rattle.page_write.proofs.Words.{below, below_fits}
use Rattle.page_write.proofs.at_row.row_takes.Goals as goal

-- the sum, with the sign as a number
abbrev sum : ℕ → ℕ → ℕ → ℕ
sum w m s = (w + s * (m / 2 + 1)) % 2 ^ 64

pub overflow_mul-from : goal.overflow_mul-from
overflow_mul-from c =
    let r = c.args.r in
    let p = c.requires.0 in
    record { fits = rw (c.from.ensures, below r.signed r.width c.ones-most.result p.0 c.ones-most.ensures) (below_fits r.signed r.width p.1) }

pub returns-else-w-from : goal.returns-else-w-from
returns-else-w-from c =
    let r = c.args.r in
    let w = c.cast_unsigned-w.result in
    let m = c.ones-most.result in
    let s = sum_row r c.requires.0 c.args.z c.ranges.z w m (sum w m c.from.result) c.cast_unsigned-w.ensures c.ones-most.ensures (ap (sum w m) c.from.ensures) in
    rw (sym s, lt-leb _ _ c.if-w-from.false)

pub returns-then-w-from : goal.returns-then-w-from
returns-then-w-from c =
    let r = c.args.r in
    let z = c.args.z in
    let w = c.cast_unsigned-w.result in
    let m = c.ones-most.result in
    let s = sum_row r c.requires.0 z c.ranges.z w m (sum w m c.from.result) c.cast_unsigned-w.ensures c.ones-most.ensures (ap (sum w m) c.from.ensures) in
    let f : fits_in r.signed r.width z ≡ true = sym s ∙ le-leb _ _ c.if-w-from.true in
    rw f (c.has_label.ensures ∙ ap (takes r.labels) (low_row r c.requires.0 z c.ranges.z w m c.cast_unsigned-w.ensures c.ones-most.ensures f))
