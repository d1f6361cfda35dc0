-- The head is aged, judged there, given the frame and counted; `frame_both` has what that is to the history.
use Rattle.post_times.specs.rules.specs.After.{after_frame, aged_to}
use Rattle.post_times.specs.rules.proofs.Right.{frame_both}
use Rattle.post.proofs.frame.Goals as goal

pub returns-clause-by_record : goal.returns-clause-by_record
unfolding after_frame aged_to
returns-clause-by_record c =
    rw (
      c.place_by.ensures,
      c.with_counts.ensures,
      c.with_frame-f.ensures,
      c.slot_at-slot.ensures,
      c.any_findings.ensures.0,
      c.message_findings.ensures.0,
      c.aged-g.ensures,
      c.stamp.ensures,
    )

pub returns-clause-by_history : goal.returns-clause-by_history
returns-clause-by_history c = (frame_both c.args.h c.args.time c.args.kind c.args.raw (returns-clause-by_record c)).1
