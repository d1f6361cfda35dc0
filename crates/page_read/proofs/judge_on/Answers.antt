-- `page_read::judge_on` meets its contract: 3 for an identifier of the other interface too.
use Rattle.std.proofs.Common.{◌∙◌}
use Rattle.page_read.proofs.Interfaces.{from_on}
use Rattle.page_read.proofs.judge_on.Goals as goal

pub returns : goal.returns
returns c = let a = c.args in c.judge_from.ensures ∙ from_on a.iface a.id a.extended a.bytes.now
