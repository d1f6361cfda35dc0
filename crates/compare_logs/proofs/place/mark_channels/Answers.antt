-- `compare_logs::place::mark_channels` meets its contract.
use Rattle.std.proofs.Common.{rules}
use Rattle.compare_logs.proofs.Channels.{mark_more, mark_skip}
use native.Mathlib.Omega.{arith}
use Rattle.compare_logs.proofs.place.mark_channels.Goals.{then-c-lt-CHANNELS, else-c-lt-CHANNELS}
use Rattle.compare_logs.proofs.place.mark_channels.Goals as goal

pub loop-i-init : goal.loop-i-init
loop-i-init c = (search rules, λ d lt z. (z, λ j h. absurd (omega arith)))

pub loop-i-preserved : goal.loop-i-preserved
loop-i-preserved c =
    elim c.if-c-lt-CHANNELS.branch [
      | then-c-lt-CHANNELS w ↦ rw w.seen-is (mark_more c.args.log.now.keys.now c.args.seen.now c.loop-i.seen c.loop-i.i _ c.channel_of-c.ensures w.if-c-lt-CHANNELS.true c.loop-i.invariant)
      | else-c-lt-CHANNELS w ↦ rw w.seen-is (mark_skip c.args.log.now.keys.now c.args.seen.now c.loop-i.seen c.loop-i.i (omega (arith, c.channel_of-c.ensures, w.if-c-lt-CHANNELS.false)) c.loop-i.invariant)
    ]

pub returns : goal.returns
returns c = (c.loop-i.invariant.0, λ d lt z. let o = c.loop-i.invariant.1 d lt z in (o.0, λ j h. o.1 j (omega (arith, c.loop-i-test.false))))
