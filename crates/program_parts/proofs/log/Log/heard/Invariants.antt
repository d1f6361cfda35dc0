-- `program_parts::log::Log::heard`: each turn goes on from a seam.
use Rattle.std.proofs.Common.{◌≡◌, false}
use Rattle.log_walk.specs.Walk.{is_short}
use Rattle.program_parts.proofs.log.Log.heard.Given as goal

abbrev pub invariant-loop : goal.invariant-loop
invariant-loop g l = is_short l.walk.stand ≡ false
