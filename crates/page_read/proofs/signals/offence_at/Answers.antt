-- `page_read::signals::offence_at` meets its contract: the row's label test at its own bits.
use Rattle.std.proofs.Common.{◌≡◌, Some, sym, ap, ◌∙◌, subst}
use Rattle.page_search.specs.page_table.specs.declared.Row.{Row}
use Rattle.page_search.specs.page_table.specs.Layout.{row_of}
use Rattle.page_search.specs.page_table.specs.Table.{Fine, bits_at, takes}
use Rattle.page_read.specs.Steps.{offence_of}
use Rattle.page_read.proofs.Starts.{start_row}
use Rattle.page_read.proofs.signals.offence_at.Goals as goal

pub returns-then-label_holds : goal.returns-then-label_holds
unfolding offence_of
returns-then-label_holds c =
    let a = c.args in
    let held : takes (row_of a.l).labels (bits_at a.n (row_of a.l)) ≡ c.label_holds.result
    = sym (c.label_holds.ensures ∙ ap (takes c.row_of-r.result.labels) c.signal_bits.ensures ∙ ap (λ (x : Row). takes x.labels (bits_at a.n x)) c.row_of-r.ensures) in
    rw (held, c.if-label_holds.true)

pub returns : goal.returns
unfolding offence_of
returns c =
    let a = c.args in
    let r = c.row_of-r.result in
    let fine : Fine r = subst Fine (sym c.row_of-r.ensures) c.requires in
    let held : takes (row_of a.l).labels (bits_at a.n (row_of a.l)) ≡ c.label_holds.result
    = sym (c.label_holds.ensures ∙ ap (takes r.labels) c.signal_bits.ensures ∙ ap (λ (x : Row). takes x.labels (bits_at a.n x)) c.row_of-r.ensures) in
    rw (held, c.if-label_holds.false) (ap Some (start_row r fine c.start_bit.result c.start_bit.ensures ∙ ap (λ (x : Row). x.start) c.row_of-r.ensures))
