-- The numeral is that of rest, with what stands in t from at on after it.
use Rattle.std.proofs.Common.{◌≡◌, ◌≤◌, ◌<◌, ◌++◌, length, drop}
use Prim.Native.Nat.{◌^◌}
use Rattle.text_numbers.specs.Numbers.{numeral}
use Rattle.text_written.proofs.put_number.Given as goal

abbrev pub invariant-loop-rest : goal.invariant-loop-rest
invariant-loop-rest l =
    record {
      room_for_all : length l.t ≡ 20;
      one_more : 1 ≤ l.at;
      places : l.at ≤ 20;
      room : l.rest < 10 ^ l.at;
      spelt : numeral l.base l.n ≡ numeral l.base l.rest ++ drop l.at l.t;
    }

abbrev pub decreases-loop-rest : goal.decreases-loop-rest
decreases-loop-rest l = l.rest
