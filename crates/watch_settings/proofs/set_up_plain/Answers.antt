-- Set up, or refused as `may_set_up` says; `set_both` has what that is to the steps.
use Rattle.std.proofs.Common.{rules}
use Rattle.watch_places.specs.watch_rules.proofs.Promises.{set_both}
use Rattle.watch_settings.proofs.set_up_plain.Goals as goal

pub returns-clause-by_record : goal.returns-clause-by_record
returns-clause-by_record c = search rules

pub returns-clause-by_history : goal.returns-clause-by_history
returns-clause-by_history c = (set_both c.args.t c.args.post c.args.channel c.args.limits (returns-clause-by_record c)).1

pub returns-in-Err-clause-by_record : goal.returns-in-Err-clause-by_record
returns-in-Err-clause-by_record c = search rules

pub returns-in-Err-clause-by_history : goal.returns-in-Err-clause-by_history
returns-in-Err-clause-by_history c = (set_both c.args.t c.args.post c.args.channel c.args.limits (returns-in-Err-clause-by_record c)).1
