-- `compare_logs::place::store_places` meets its contract: a channel that neither log has has no place, and every other is gone through.
use Rattle.compare_rules.specs.Compare.{records_of}
use Rattle.compare_logs.proofs.Channels.{Storing}
use Rattle.compare_logs.proofs.place.store_places.Given as goal

abbrev pub invariant-loop-c : goal.invariant-loop-c
invariant-loop-c l = Storing (records_of l.a.bytes.now) (records_of l.b.bytes.now) l.initial.places l.places l.c
