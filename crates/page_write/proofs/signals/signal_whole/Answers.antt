-- `page_write::signals::signal_whole` meets its contract: a fine row's signal lies in the payload number, and its bits carry a number that an i64 holds.
use Rattle.std.proofs.Common.{ap, ◌∙◌}
use Rattle.signal.specs.Raw.{whole_of}
use Rattle.signal.proofs.Laws.{get_lt}
use Rattle.signal.proofs.RawLaws.{whole_in}
use Rattle.signal.proofs.Totals.{get_in}
use Rattle.page_read.specs.page_table.specs.Table.{lowest, bits_at}
use Rattle.page_write.proofs.AtRow.{answer}
use Rattle.page_write.proofs.signals.signal_whole.Goals as goal

pub returns : goal.returns
returns c =
    let r = c.args.r in
    let n = c.args.n in
    answer c.whole.type_inv c.whole.ensures
    ∙ ap (whole_of r.signed r.width) (c.get.ensures ∙ get_in n (lowest r) r.width c.requires.0 c.requires.2)
    ∙ whole_in r.signed r.width (bits_at n r) c.requires.0 c.requires.1 (get_lt n (lowest r) r.width)
