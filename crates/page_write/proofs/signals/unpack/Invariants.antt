-- The numbers of the message's rows from row `i` on, stored in `raws` from their place on, make the answer.
use Rattle.std.proofs.Common.{◌≡◌, ◌-◌, length, drop}
use lib.Seq.{sets}
use Rattle.page_read.specs.page_table.specs.Table.{rows, signal_count, block}
use Rattle.page_write.specs.Raws.{wholes_of, pad}
use Rattle.page_write.proofs.signals.unpack.Given as goal

abbrev pub invariant-loop-i : goal.invariant-loop-i
invariant-loop-i l = record {
  long : length l.raws ≡ signal_count;
  stored : sets l.raws (l.i - l.at) (wholes_of l.n (block l.kind (drop l.i rows))) ≡ pad signal_count (wholes_of l.n (block l.kind (drop l.at rows)));
}
