-- `lent_tick::rokemaipu_tick` meets its contract: what is stored of the step of one head (`Posts.antt`, lent_heads) is the table's step
-- (`tick_same`, lent_step).
use mathlib.Core.Path.{refl}
use Rattle.watch_places.specs.watch_rules.specs.declared.Arrival.TheVariants.{Tick}
use Rattle.watch_places.specs.watch_rules.specs.Table.{ticking}
use Rattle.lent_heads.specs.lent_step.specs.Fed.{tick_word}
use Rattle.lent_heads.specs.lent_step.proofs.Same.{tick_same}
use Rattle.lent_heads.proofs.Posts.{slot_left, head_left, count_left}
use Rattle.lent_tick.proofs.rokemaipu_tick.Goals as goal

pub returns-then-at-lt-PLACES : goal.returns-then-at-lt-PLACES
returns-then-at-lt-PLACES c =
    let a = c.args in
    slot_left a.t.now a.channel a.time ticking (tick_word a.t.now a.channel a.time) (tick_same a.t.now a.channel a.time)
    c.indexed_place-i.result Tick c.heard_on-r.result c.indexed_place-i.ensures.0 refl c.heard_on-r.ensures c.if-r.true c.if-at-lt-PLACES.true

pub returns-else-at-lt-PLACES : goal.returns-else-at-lt-PLACES
returns-else-at-lt-PLACES c =
    let a = c.args in
    head_left a.t.now a.channel a.time ticking (tick_word a.t.now a.channel a.time) (tick_same a.t.now a.channel a.time)
    c.indexed_place-i.result Tick c.heard_on-r.result c.indexed_place-i.ensures.0 refl c.heard_on-r.ensures c.if-r.true c.if-at-lt-PLACES.false

pub returns-else-r : goal.returns-else-r
returns-else-r c =
    let a = c.args in
    count_left a.t.now a.channel a.time ticking (tick_word a.t.now a.channel a.time) (tick_same a.t.now a.channel a.time)
    c.indexed_place-i.result Tick c.heard_on-r.result c.indexed_place-i.ensures.0 refl c.heard_on-r.ensures c.if-r.false
