-- `page_write::raws_of` meets its contract: from its first row on stand a kind's rows, and a number that is no kind has none.
use Rattle.std.proofs.Common.{List, sym, ap, ◌∙◌}
use Rattle.page_read.specs.page_table.specs.declared.Row.{Row}
use Rattle.page_read.specs.page_table.specs.Table.{signal_count}
use Rattle.page_write.specs.Raws.{wholes_of, pad, raws_of}
use Rattle.page_read.specs.page_table.proofs.Firsts.{first_kind, none_kind}
use Rattle.page_write.proofs.raws_of.Goals as goal

pub returns-in_default : goal.returns-in_default
unfolding raws_of pad wholes_of
returns-in_default c =
    let a = c.args in
    ap (λ (l : List Row). pad signal_count (wholes_of a.number l)) (sym (none_kind a.kind (sym c.first_of_kind.ensures ∙ c.in_default.is)))

pub returns : goal.returns
unfolding raws_of
returns c =
    let a = c.args in
    c.unpack.ensures
    ∙ ap (λ (l : List Row). pad signal_count (wholes_of a.number l)) (first_kind a.kind _ (sym c.first_of_kind.ensures ∙ c.in-Some.is)).1
