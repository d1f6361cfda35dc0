-- `page_write::raw_of` meets its contract: a kind's numbers stand from its first row on.
use Rattle.std.proofs.Common.{List, get_or, pos, sym, ap, ◌∙◌, eqb-true}
use Rattle.page_read.specs.page_table.specs.declared.Row.{Row}
use Rattle.page_read.specs.page_table.specs.Table.{rows, no_row, rows_of, has_kind, signal_count}
use Rattle.page_write.specs.Raws.{wholes_of, pad, raws_of}
use Rattle.page_read.specs.page_table.proofs.Firsts.{first_kind, none_kind, found_in}
use Rattle.page_write.proofs.Places.{pad_at, pad_past, pad_none}
use Rattle.page_write.proofs.AtRow.{answer}
use Rattle.page_write.proofs.raw_of.Goals as goal

pub returns-in_default : goal.returns-in_default
unfolding raws_of wholes_of
returns-in_default c =
    let a = c.args in
    let e = none_kind a.kind (sym c.first_of_kind.ensures ∙ c.in_default.is) in
    sym (ap (λ (l : List Row). get_or (pad signal_count (wholes_of a.number l)) a.place (pos 0)) e ∙ pad_none signal_count a.place)

pub returns-then-place-ge-SIGNALS : goal.returns-then-place-ge-SIGNALS
unfolding raws_of
returns-then-place-ge-SIGNALS c =
    let a = c.args in
    sym (pad_past signal_count a.place (wholes_of a.number (rows_of a.kind)) c.if-place-ge-SIGNALS.true)

pub raw_after-requires : goal.raw_after-requires
raw_after-requires c =
    let kind = c.args.kind in
    let i = c.in-Some.i in
    let e = sym c.first_of_kind.ensures ∙ c.in-Some.is in
    ((first_kind kind i e).0, c.if-place-ge-SIGNALS.false, eqb-true (get_or rows i no_row).kind kind (found_in (has_kind kind) i e).1)

pub returns : goal.returns
unfolding raws_of
returns c =
    let a = c.args in
    let e = sym c.first_of_kind.ensures ∙ c.in-Some.is in
    answer c.raw_after.type_inv c.raw_after.ensures
    ∙ ap (λ (l : List Row). get_or (wholes_of a.number l) a.place (pos 0)) (first_kind a.kind _ e).1
    ∙ sym (pad_at signal_count a.place (wholes_of a.number (rows_of a.kind)) c.if-place-ge-SIGNALS.false)
