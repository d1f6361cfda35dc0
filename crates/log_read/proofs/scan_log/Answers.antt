-- `log_read::scan_log`: a turn goes on behind a record, and how the log ends decides.
use Rattle.std.proofs.Common.{rules}
use Rattle.log_read.proofs.Scans.{over_more, over_end, scan_more, scan_end}
use Rattle.log_read.proofs.scan_log.Goals as goal

pub overflow_add-records : goal.overflow_add-records
overflow_add-records c =
    let x = scan_more c.loop-e.invariant.1 (over_more c.loop-e.invariant.0 c.next.ensures.steps c.in-Some.is).0 in
    search (rules, x.few, x.within)

pub loop-e-preserved : goal.loop-e-preserved
loop-e-preserved c =
    let o = over_more c.loop-e.invariant.0 c.next.ensures.steps c.in-Some.is in
    (o.1, scan_more c.loop-e.invariant.1 o.0)

pub returns : goal.returns
returns c = rw c.ending_at.ensures (scan_end _ c.loop-e.invariant.1 (over_end c.loop-e.invariant.0 c.next.ensures.steps c.in-None.is))
