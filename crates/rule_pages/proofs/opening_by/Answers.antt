-- Both documents lay it out alike.
use Rattle.rule_pages.proofs.Alike.{opening_alike}
use Rattle.rule_pages.proofs.opening_by.Goals as goal

pub returns : goal.returns
returns c = cc (opening_alike c.args.kind c.args.number)
