-- The first bytes of n stand in buf, the rest of buf is as it was, and rest is n without them.
use Rattle.std.proofs.Common.{◌≡◌, ◌*◌, ◌/◌, ◌^◌, ◌++◌, drop}
use Rattle.payload.specs.Payload.{le_bytes}
use Rattle.payload.proofs.le_store.Given as goal

abbrev pub invariant-loop-b : goal.invariant-loop-b
invariant-loop-b l = record {
  rest : l.rest ≡ l.n / 2 ^ (8 * l.b-index);
  stored : l.buf ≡ le_bytes l.b-index l.n ++ drop l.b-index l.initial.buf;
}
