-- `log_write::write_tick` meets its contract: each end is the one that the tests before it name.
use mathlib.Core.Path.{◌∙◌, ap}
use native.Mathlib.Omega.{arith}
use lib.Seq.{sets}
use borrow.Author.Rules.{rules}
use Rattle.log_records.specs.Record.{tick}
use Rattle.log_write.proofs.Ends.{tick_channel, short, logged}
use Rattle.log_write.proofs.Stores.{tick_length, tick_bytes}
use Rattle.log_write.proofs.write_tick.Goals as goal

pub returns-then-channel-gt-LAST_CHANNEL : goal.returns-then-channel-gt-LAST_CHANNEL
returns-then-channel-gt-LAST_CHANNEL c = let a = c.args in tick_channel a.time a.channel a.out.now c.if-channel-gt-LAST_CHANNEL.true

pub returns-then-out-size : goal.returns-then-out-size
returns-then-out-size c =
    let a = c.args in
    short (tick a.time a.channel) a.out.now c.head_size-size.result (search rules, omega arith)
    (omega (arith, tick_length a.time a.channel)) c.if-out-size.true

pub returns : goal.returns
returns c =
    let a = c.args in
    logged (tick a.time a.channel) a.out.now c.head_size-size.result (search rules, omega arith)
    (omega (arith, tick_length a.time a.channel)) c.store_head.new.out c.if-out-size.false
    (c.store_head.ensures.1 ∙ ap (sets a.out.now 0) (tick_bytes a.time a.channel))
