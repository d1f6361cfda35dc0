-- The answer is what v, with the digits that are left after it, gives.
use Rattle.std.proofs.Common.{◌≡◌, ◌≤◌, drop}
use Rattle.text_numbers.specs.Numbers.{number_of}
use Rattle.text_numbers.proofs.Values.{after}
use Rattle.text_numbers.proofs.numbers.whole.Given as goal

abbrev pub invariant-loop-c : goal.invariant-loop-c
invariant-loop-c l = record { within : l.v ≤ l.most; value : number_of l.base l.most l.s ≡ after l.base l.most l.v (drop l.c-index l.s) }
