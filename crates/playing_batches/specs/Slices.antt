-- A log fed by the batch: slices of it, one behind the other, each with buffers of its own.
use Rattle.std.specs.Prelude.{ℕ, ◌+◌, List, [], ◌∷◌, ◌++◌, length, take, Result, Ok, Err}
use Rattle.std.proofs.Math.Option.{Option, none, some}
use Rattle.log_records.specs.Pieces.{piece_of}
use Rattle.playing_nights.specs.declared.Replay.{Replay}
use Rattle.playing_batches.specs.declared.Lines.{Lines}
use Rattle.playing_batches.specs.declared.Unwritten.{Unwritten}
use Rattle.playing_batches.specs.Batched.{batched_of, lines_of}

-- so many bytes of the log, so many places for answers, and the buffer for lines as it was lent
abbrev pub Slice : Type 0
Slice = ℕ × ℕ × List ℕ

abbrev pub size_of : List Slice → ℕ
size_of [] = 0
size_of (c ∷ cs) = c.0 + size_of cs

abbrev pub behind : List ℕ → Option (List ℕ) → Option (List ℕ)
behind text (some more) = some (text ++ more)
behind text none = none

-- on from an answer: lines are the bytes that it tells of, at the front of the buffer
abbrev pub on_written : List ℕ → Option (List ℕ) → Result Lines Unwritten → Option (List ℕ)
on_written out more (Ok l) = behind (take l.bytes out) more
on_written out more (Err why) = none

-- the text of the slices' lines, from byte `at` of the log s on; none where one was refused
unfoldable pub in_slices : List Slice → Replay → List ℕ → ℕ → Option (List ℕ)
in_slices [] r s at = some []
in_slices (c ∷ cs) r s at =
    on_written (lines_of r (piece_of s at c.0) c.1 c.2) (in_slices cs (batched_of r (piece_of s at c.0) c.1 (length c.2)).replay s (at + c.0))
    (batched_of r (piece_of s at c.0) c.1 (length c.2)).answer
