-- `older::change` meets its contract: it is the change on the older interface.
use mathlib.Core.Path.{◌≡◌, ap, ◌∙◌}
use mir.Facts.{to_z-of_z}
use Rattle.page_table.specs.declared.Interface.TheVariants.{Older}
use Rattle.page_change.specs.Change.{change_on, bytes_after}
use Rattle.older.proofs.change.Goals as goal

pub returns : goal.returns
returns c =
    let a = c.args in
    let same = ap (change_on Older a.id a.extended a.bytes.now a.start) (to_z-of_z c.ranges.raw) in
    (c.change_on.ensures.0 ∙ same, c.change_on.ensures.1 ∙ ap (bytes_after a.bytes.now) same)
