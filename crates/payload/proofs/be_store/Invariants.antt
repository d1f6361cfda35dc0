-- From i on stand the low bytes of n, the bytes before are as they were, and rest is n without those.
use Rattle.std.proofs.Common.{◌≡◌, ◌-◌, ◌*◌, ◌/◌, ◌^◌, ◌++◌, length, take}
use Rattle.payload.specs.Payload.{be_bytes}
use Rattle.payload.proofs.be_store.Given as goal

abbrev pub invariant-loop-i : goal.invariant-loop-i
invariant-loop-i l = record {
  rest : l.rest ≡ l.n / 2 ^ (8 * (length l.initial.buf - l.i));
  stored : l.buf ≡ take l.i l.initial.buf ++ be_bytes (length l.initial.buf - l.i) l.n;
}
