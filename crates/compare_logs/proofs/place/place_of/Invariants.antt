-- `compare_logs::place::place_of` meets its contract.
use Rattle.std.proofs.Common.{◌-◌, ◌+◌, ◌≤◌}
use Rattle.compare_rules.specs.Compare.{records_of}
use Rattle.compare_logs.proofs.Channels.{Placing}
use Rattle.compare_logs.proofs.place.place_of.Given as goal

abbrev pub invariant-loop-i : goal.invariant-loop-i
invariant-loop-i l = (l.x ≤ l.a.count) × (l.y ≤ l.b.count) × (l.k ≤ l.x + 1) × Placing l.c (records_of l.a.bytes.now) (records_of l.b.bytes.now) l.x l.y l.k

abbrev pub decreases-loop-i : goal.decreases-loop-i
decreases-loop-i l = l.a.count - l.x
