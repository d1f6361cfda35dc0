-- `lent_frame::rokemaipu_frame` meets its contract: what is stored of the step of one head (`Posts.antt`, lent_heads) is the table's step (`frame_same`,
-- lent_step).
use Rattle.watch_hear.specs.watch_rules.specs.Table.{framing}
use Rattle.lent_heads.specs.lent_step.specs.Fed.{frame_word}
use Rattle.lent_heads.specs.lent_step.proofs.Same.{frame_same}
use Rattle.lent_heads.proofs.Posts.{slot_left, head_left, count_left}
use Rattle.lent_frame.proofs.rokemaipu_frame.Goals as goal

pub returns-then-at-lt-PLACES : goal.returns-then-at-lt-PLACES
returns-then-at-lt-PLACES c =
    let a = c.args in
    slot_left a.t.now a.channel a.time (framing a.id a.extended a.payload.now) (frame_word a.t.now a.channel a.time a.id a.extended a.payload.now)
    (frame_same a.t.now a.channel a.time a.id a.extended a.payload.now)
    c.indexed_place-i.result c.arrival_for-a.result c.heard_on-r.result c.indexed_place-i.ensures.0 c.arrival_for-a.ensures c.heard_on-r.ensures c.if-r.true c.if-at-lt-PLACES.true

pub returns-else-at-lt-PLACES : goal.returns-else-at-lt-PLACES
returns-else-at-lt-PLACES c =
    let a = c.args in
    head_left a.t.now a.channel a.time (framing a.id a.extended a.payload.now) (frame_word a.t.now a.channel a.time a.id a.extended a.payload.now)
    (frame_same a.t.now a.channel a.time a.id a.extended a.payload.now)
    c.indexed_place-i.result c.arrival_for-a.result c.heard_on-r.result c.indexed_place-i.ensures.0 c.arrival_for-a.ensures c.heard_on-r.ensures c.if-r.true c.if-at-lt-PLACES.false

pub returns-else-r : goal.returns-else-r
returns-else-r c =
    let a = c.args in
    count_left a.t.now a.channel a.time (framing a.id a.extended a.payload.now) (frame_word a.t.now a.channel a.time a.id a.extended a.payload.now)
    (frame_same a.t.now a.channel a.time a.id a.extended a.payload.now)
    c.indexed_place-i.result c.arrival_for-a.result c.heard_on-r.result c.indexed_place-i.ensures.0 c.arrival_for-a.ensures c.heard_on-r.ensures c.if-r.false
