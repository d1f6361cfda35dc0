-- `compare_logs::place::mark_channels` meets its contract.
use Rattle.compare_logs.specs.Held.{Marked}
use Rattle.compare_logs.proofs.place.mark_channels.Given as goal

abbrev pub invariant-loop-i : goal.invariant-loop-i
invariant-loop-i l = Marked l.log.keys.now l.initial.seen l.seen l.i
