-- `page_write::signals::raw_after` meets its contract: the row `place` rows on is of the kind, or the kind has no number there.
use Rattle.std.proofs.Common.{sym, ap, ◌∙◌, inl, inr}
use Rattle.page_read.specs.page_table.specs.declared.Row.{Row}
use Rattle.page_write.specs.Raws.{whole_at}
use Rattle.page_read.specs.page_table.proofs.Rules.{fine_at}
use Rattle.page_write.proofs.Places.{number_in, number_out}
use Rattle.page_write.proofs.AtRow.{answer}
use Rattle.page_write.proofs.signals.raw_after.Goals as goal

pub returns-then-i-ge-ROW_COUNT : goal.returns-then-i-ge-ROW_COUNT
returns-then-i-ge-ROW_COUNT c = let a = c.args in sym (number_out a.n a.kind a.place a.at (inl c.if-i-ge-ROW_COUNT.true))

pub returns-then-r-kind : goal.returns-then-r-kind
returns-then-r-kind c =
    let a = c.args in
    sym (number_out a.n a.kind a.place a.at (inr (λ e. c.if-r-kind.true (ap (λ (r : Row). r.kind) c.row_at-r.ensures ∙ e))))

pub signal_whole-requires : goal.signal_whole-requires
signal_whole-requires c = fine_at _ _ c.if-i-ge-ROW_COUNT.false c.row_at-r.ensures

pub returns : goal.returns
returns c =
    let a = c.args in
    let e = c.row_at-r.ensures in
    answer c.signal_whole.type_inv c.signal_whole.ensures
    ∙ ap (whole_at a.n) e
    ∙ sym (number_in a.n a.kind a.place a.at c.if-i-ge-ROW_COUNT.false c.requires.2 (sym (ap (λ (r : Row). r.kind) e) ∙ c.if-r-kind.false))
