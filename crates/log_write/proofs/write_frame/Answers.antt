-- `log_write::write_frame` meets its contract: each end is the one that the tests before it name.
use Prim.Native.Nat.{◌+◌}
use mathlib.Core.Path.{ap, ◌∙◌}
use native.Mathlib.Omega.{arith}
use lib.ListN.{length}
use lib.Seq.{sets}
use borrow.Author.Rules.{rules}
use Rattle.log_records.specs.Record.{frame}
use Rattle.log_write.proofs.Ends.{frame_channel, frame_above, frame_long, short, logged}
use Rattle.log_write.proofs.Stores.{head_le, frame_length, frame_bytes, body_stored}
use Rattle.log_write.proofs.write_frame.Goals as goal

pub returns-then-channel-gt-LAST_CHANNEL : goal.returns-then-channel-gt-LAST_CHANNEL
returns-then-channel-gt-LAST_CHANNEL c = let a = c.args in frame_channel a.time a.channel a.extended a.id a.payload.now a.out.now c.if-channel-gt-LAST_CHANNEL.true

pub returns-then-identifiers-id : goal.returns-then-identifiers-id
returns-then-identifiers-id c =
    let a = c.args in
    rw c.above.ensures (frame_above a.time a.channel a.extended a.id a.payload.now a.out.now (omega arith) (rw c.identifiers.ensures at c.if-identifiers-id.true))

pub returns-then-payload-gt8 : goal.returns-then-payload-gt8
returns-then-payload-gt8 c =
    let a = c.args in
    frame_long a.time a.channel a.extended a.id a.payload.now a.out.now (omega arith) (rw c.identifiers.ensures at c.if-identifiers-id.false) c.if-payload-gt8.true

pub part_of-p-requires : goal.part_of-p-requires
part_of-p-requires c =
    let a = c.args in
    rw c.identifiers.ensures at c.if-identifiers-id.false

pub overflow_add-size : goal.overflow_add-size
overflow_add-size c =
    let a = c.args in
    omega (arith, head_le a.time a.channel c.part_of-p.result (length a.payload.now))

pub returns-then-out-size : goal.returns-then-out-size
returns-then-out-size c =
    let a = c.args in
    let p = c.part_of-p in
    let n = c.head_size.result + length a.payload.now in
    short (frame a.time a.channel a.extended a.id a.payload.now) a.out.now n (search rules, omega arith, rw c.identifiers.ensures at c.if-identifiers-id.false, omega arith)
    (omega (arith, frame_length a.time a.channel p.result a.extended a.id a.payload.now p.ensures)) c.if-out-size.true

pub returns : goal.returns
returns c =
    let a = c.args in
    let p = c.part_of-p in
    let n = c.head_size.result + length a.payload.now in
    let h = c.store_head-at in
    let b = c.store_bytes in
    logged (frame a.time a.channel a.extended a.id a.payload.now) a.out.now n (search rules, omega arith, rw c.identifiers.ensures at c.if-identifiers-id.false, omega arith)
    (omega (arith, frame_length a.time a.channel p.result a.extended a.id a.payload.now p.ensures)) b.new.out c.if-out-size.false
    (body_stored a.out.now h.new.out b.new.out a.time a.channel p.result (length a.payload.now) h.result a.payload.now h.ensures b.ensures
    ∙ ap (sets a.out.now 0) (frame_bytes a.time a.channel p.result a.extended a.id a.payload.now p.ensures))
