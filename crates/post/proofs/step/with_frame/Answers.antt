-- By what the frame is to the rules.
use Rattle.std.proofs.Common.{sym, ◌∙◌}
use Rattle.post_times.specs.rules.specs.After.{session_after, with_frame}
use Rattle.post.proofs.step.with_frame.Goals as goal

pub returns-in-Controller : goal.returns-in-Controller
unfolding with_frame session_after
returns-in-Controller c = rw (sym c.from.ensures ∙ c.in-Controller.is)

pub returns-in-Limits : goal.returns-in-Limits
unfolding with_frame session_after
returns-in-Limits c = rw (sym c.from.ensures ∙ c.in-Limits.is)

pub returns-in-Status : goal.returns-in-Status
unfolding with_frame session_after
returns-in-Status c = rw (sym c.from.ensures ∙ c.in-Status.is, c.kept_put.ensures)

pub returns-in-Command : goal.returns-in-Command
unfolding with_frame session_after
returns-in-Command c = rw (sym c.from.ensures ∙ c.in-Command.is, c.kept_put-in-Command.ensures)

pub returns-in-Opening : goal.returns-in-Opening
unfolding with_frame session_after
returns-in-Opening c = rw (sym c.from.ensures ∙ c.in-Opening.is, c.opened_by.ensures)

pub returns-in-Finished : goal.returns-in-Finished
unfolding with_frame session_after
returns-in-Finished c = rw (sym c.from.ensures ∙ c.in-Finished.is, c.no_session.ensures)

pub returns-in-Stop : goal.returns-in-Stop
unfolding with_frame session_after
returns-in-Stop c = rw (sym c.from.ensures ∙ c.in-Stop.is, c.kept_put-in-Stop.ensures)

pub returns-in-Other : goal.returns-in-Other
unfolding with_frame session_after
returns-in-Other c = rw (sym c.from.ensures ∙ c.in-Other.is)
