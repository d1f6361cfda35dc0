-- The message's rows from row `i` on, with the numbers from their place on, packed onto `n`, make the answer.
use Rattle.std.proofs.Common.{◌≡◌, ◌-◌, drop}
use Rattle.page_read.specs.page_table.specs.Table.{rows, block}
use Rattle.page_write.specs.Steps.{pack_of}
use Rattle.page_write.proofs.Packing.{pack_from}
use Rattle.page_write.proofs.signals.pack.Given as goal

abbrev pub invariant-loop-i : goal.invariant-loop-i
invariant-loop-i l = pack_from l.n (block l.kind (drop l.i rows)) (drop (l.i - l.at) l.raws) ≡ pack_of (block l.kind (drop l.at rows)) l.raws
