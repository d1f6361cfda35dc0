-- Once some counts are passed, these have their bits, and `bits` is what is left of them.
use Rattle.std.proofs.Common.{◌≡◌, ◌+◌, ◌*◌}
use Rattle.post_counts.proofs.Bits.{halves, bits_up_to}
use Rattle.post_counts.proofs.count.Given as goal

abbrev pub invariant-loop-n : goal.invariant-loop-n
invariant-loop-n l = record {
  done : l.n-items ≡ bits_up_to l.n-index (1 + 2 * l.findings) l.fn.counts;
  left : l.bits ≡ halves l.n-index (1 + 2 * l.findings);
}
