-- What is still to be put is the digits of the bytes that are left.
use Rattle.std.proofs.Common.{◌≡◌, drop, map}
use Rattle.text_pen.specs.Pens.{with_words}
use Rattle.text_written.specs.Words.{two_digits, hex_words}
use Rattle.text_written.proofs.put_hex.Given as goal

abbrev pub invariant-loop-x : goal.invariant-loop-x
invariant-loop-x l = with_words l.sheet (map two_digits (drop l.x-index l.src)) ≡ with_words l.fn.sheet (hex_words l.src)
