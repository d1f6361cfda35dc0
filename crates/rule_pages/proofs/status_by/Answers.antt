-- Both documents lay it out alike.
use Rattle.rule_pages.proofs.Alike.{status_alike}
use Rattle.rule_pages.proofs.status_by.Goals as goal

pub returns : goal.returns
returns c = cc (status_alike c.args.kind c.args.number)
