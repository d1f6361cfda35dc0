-- After each digit the numeral of what is left, with what stands in the room behind it, is the whole; i + 20 - at places are left for digits.
use Rattle.std.proofs.Common.{◌≡◌, ◌+◌, ◌-◌, ◌^◌, ◌<◌, ◌≤◌, ◌++◌, length, drop}
use Rattle.text_numbers.specs.Numbers.{numeral}
use Rattle.playing_answers.proofs.Line.put_digits.Given as goal

abbrev pub invariant-loop-rest : goal.invariant-loop-rest
invariant-loop-rest l =
    record {
      whole_room : length l.self-inside.room ≡ 86;
      enough : 20 ≤ l.initial.i;
      one_more : l.initial.i < l.i + 20;
      below : l.i ≤ l.initial.i;
      places : l.rest < 10 ^ (l.i + 20 - l.initial.i);
      text : numeral 10 l.rest ++ drop l.i l.self-inside.room ≡ numeral 10 l.n ++ l.fn.self;
    }

abbrev pub decreases-loop-rest : goal.decreases-loop-rest
decreases-loop-rest l = l.rest
