-- `i` places are passed, and the channel's place is `i` more than its place in the rest; the measure is how many posts are left.
use Rattle.std.proofs.Common.{◌≡◌, ◌+◌, ◌-◌, ◌≤◌, drop}
use Rattle.watch_rules.specs.Table.{post_count, place_of}
use Rattle.watch_places.proofs.place.Given as goal

abbrev pub invariant-loop-i : goal.invariant-loop-i
invariant-loop-i l = record {
  passed : l.i ≤ post_count;
  left : place_of l.t.posts l.channel ≡ l.i + place_of (drop l.i l.t.posts) l.channel;
}

abbrev pub decreases-loop-i : goal.decreases-loop-i
decreases-loop-i l = post_count - l.i
