-- By what the parts ensure; `record_both` has what that is to the history.
use Rattle.rules.specs.After.{post_record}
use Rattle.rules.proofs.Right.{record_both}
use Rattle.post_record.proofs.of_post.Goals as goal

pub returns-clause-by_record : goal.returns-clause-by_record
unfolding post_record
returns-clause-by_record c =
    rw (c.tallies_of.ensures, c.last_time.ensures, c.kept_of.ensures, c.part.ensures, c.from.ensures, c.messages_of.ensures)

pub returns-clause-by_history : goal.returns-clause-by_history
returns-clause-by_history c = (record_both c.args.p (returns-clause-by_record c)).1
