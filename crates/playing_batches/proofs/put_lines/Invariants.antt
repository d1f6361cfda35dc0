-- `playing_batches::put_lines`: after each record the lines that are left, behind what was written, give the whole (`Turns.antt`).
use Rattle.std.proofs.Common.{ℕ}
use Rattle.std.specs.Iterator.Adapters.{zip_first, zip_second}
use Rattle.std.specs.Slice.Iter.{iter_rest}
use Rattle.log_read.proofs.Scans.{Over}
use Rattle.playing_batches.proofs.Turns.{PutSo}
use Rattle.playing_batches.proofs.put_lines.Given as goal

abbrev pub invariant-loop-word : goal.invariant-loop-word
invariant-loop-word l =
    (at : ℕ) × Over l.log at (zip_second l.word-iterator) × PutSo l.t.posts l.count l.log l.words l.fn.sheet l.sheet l.k at (iter_rest (zip_first l.word-iterator))
