-- The bytes are those in front of out up to i, with those of the digits that are left.
use Rattle.std.proofs.Common.{◌≡◌, ◌*◌, ◌++◌, take, drop}
use Rattle.text_bytes.specs.Hex.{bytes_of}
use Rattle.text_bytes.proofs.store.Given as goal

abbrev pub invariant-loop-i : goal.invariant-loop-i
invariant-loop-i l = bytes_of l.s ≡ take l.i l.out ++ bytes_of (drop (l.i * 2) l.s)
