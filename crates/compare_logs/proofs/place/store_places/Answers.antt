-- `compare_logs::place::store_places`: a channel that neither log has has no place, and every other is gone through.
use Rattle.std.proofs.Common.{refl, sym, arith}
use Rattle.compare_rules.specs.Compare.{records_of}
use Rattle.compare_logs.proofs.Channels.{storing_more, storing_end}
use Rattle.compare_logs.proofs.place.store_places.Goals.{then-seen-c, else-seen-c}
use Rattle.compare_logs.proofs.place.store_places.Goals as goal

pub loop-c-init : goal.loop-c-init
loop-c-init c = (omega arith, refl, refl)

pub loop-c-preserved : goal.loop-c-preserved
loop-c-preserved c =
    let a = records_of c.args.a.now.bytes.now in
    let b = records_of c.args.b.now.bytes.now in
    elim c.if-seen-c.branch [
      | then-seen-c w ↦ rw w.place-is
          (storing_more a b c.args.places.now c.loop-c.places c.loop-c.c w.place_of.result w.place_of.ensures (omega arith) c.loop-c.invariant)
      | else-seen-c w ↦ rw w.place-is
          (storing_more a b c.args.places.now c.loop-c.places c.loop-c.c 0 (sym (c.requires c.loop-c.c (omega arith) w.if-seen-c.false)) (omega arith) c.loop-c.invariant)
    ]

pub returns : goal.returns
returns c =
    storing_end (records_of c.args.a.now.bytes.now) (records_of c.args.b.now.bytes.now) c.args.places.now c.loop-c.places c.loop-c.c (omega arith) c.loop-c.invariant
