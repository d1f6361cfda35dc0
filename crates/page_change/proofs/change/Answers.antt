-- `page_change::change` meets its contract: it is the change on the newer interface.
use mathlib.Core.Path.{sym, ap, ◌∙◌}
use mir.Facts.{to_z-of_z}
use Rattle.page_write.specs.page_table.specs.declared.Interface.TheVariants.{Newer}
use Rattle.page_change.specs.Change.{change_on, bytes_after}
use Rattle.page_change.proofs.Changes.{newer_change}
use Rattle.page_change.proofs.change.Goals as goal

pub returns : goal.returns
returns c =
    let a = c.args in
    let same = ap (change_on Newer a.id a.extended a.bytes.now a.start) (to_z-of_z c.ranges.raw) ∙ sym (newer_change a.id a.extended a.bytes.now a.start a.raw) in
    (c.change_on.ensures.0 ∙ same, c.change_on.ensures.1 ∙ ap (bytes_after a.bytes.now) same)
