-- `log_read::stage::record_from`: part by part, and where one is refused or cut nothing follows.
use Rattle.std.proofs.Common.{◌∙◌, sym, ap, Err}
use Rattle.refusals.specs.declared.Refusal.{Refusal}
use Rattle.log_records.specs.declared.RecordError.TheVariants.{Bad}
use Rattle.std.proofs.lemmas.Result.{err_from_is_err_and}
use Rattle.log_records.specs.Reading.{length_part, identifier_part, channel_part, time_part}
use Rattle.log_read.proofs.Stages.{part_ok, part_err, at_time, behind_time, no_channel, behind_channel, no_identifier, behind_identifier}
use Rattle.log_read.proofs.stage.record_from.Goals as goal

pub returns-in_err-time : goal.returns-in_err-time
returns-in_err-time c =
    let s = c.args.s.now in
    let p = err_from_is_err_and c.from_residual.result c.from_residual.ensures.1 in
    rw (p.1, p.2) (sym (at_time s c.args.at ∙ part_err s c.args.at (time_part s) c.part_at.ensures.part c.in_err-time.was))

pub returns-in_err-channel : goal.returns-in_err-channel
returns-in_err-channel c =
    let s = c.args.s.now in
    let p = err_from_is_err_and c.from_residual-in_err-channel.result c.from_residual-in_err-channel.ensures.1 in
    rw (p.1, p.2)
    (sym (behind_time s c.args.at c.part_at.ensures.part c.in_ok-time.was
    ∙ part_err s c.in_ok-time.at (channel_part s c.in_ok-time.time) c.part_at-2.ensures.part c.in_err-channel.was))

pub returns-then-channel-gt-LAST_CHANNEL : goal.returns-then-channel-gt-LAST_CHANNEL
returns-then-channel-gt-LAST_CHANNEL c =
    let s = c.args.s.now in
    sym (behind_time s c.args.at c.part_at.ensures.part c.in_ok-time.was
    ∙ no_channel s c.in_ok-time.time c.in_ok-time.at c.part_at-2.ensures.part c.in_ok-channel.was c.if-channel-gt-LAST_CHANNEL.true)

pub returns-in_err-p : goal.returns-in_err-p
returns-in_err-p c =
    let s = c.args.s.now in
    let t = c.in_ok-time.time in
    let p = err_from_is_err_and c.from_residual-in_err-p.result c.from_residual-in_err-p.ensures.1 in
    rw (p.1, p.2)
    (sym (behind_time s c.args.at c.part_at.ensures.part c.in_ok-time.was
    ∙ behind_channel s t c.in_ok-time.at c.part_at-2.ensures.part c.in_ok-channel.was c.if-channel-gt-LAST_CHANNEL.false
    ∙ part_err s c.in_ok-channel.at (identifier_part s t c.in_ok-channel.channel) c.part_at-3.ensures.part c.in_err-p.was))

pub returns-then-identifiers-p : goal.returns-then-identifiers-p
returns-then-identifiers-p c =
    let s = c.args.s.now in
    let t = c.in_ok-time.time in
    ap (λ (w : Refusal). Err (Bad w)) c.above.ensures
    ∙ sym (behind_time s c.args.at c.part_at.ensures.part c.in_ok-time.was
    ∙ behind_channel s t c.in_ok-time.at c.part_at-2.ensures.part c.in_ok-channel.was c.if-channel-gt-LAST_CHANNEL.false
    ∙ no_identifier s t c.in_ok-channel.channel c.in_ok-channel.at c.part_at-3.ensures.part c.in_ok-p.was (rw c.identifiers.ensures at c.if-identifiers-p.true))

pub returns-in_err-n : goal.returns-in_err-n
returns-in_err-n c =
    let s = c.args.s.now in
    let t = c.in_ok-time.time in
    let h = c.in_ok-channel.channel in
    let p = err_from_is_err_and c.from_residual-in_err-n.result c.from_residual-in_err-n.ensures.1 in
    rw (p.1, p.2)
    (sym (behind_time s c.args.at c.part_at.ensures.part c.in_ok-time.was
    ∙ behind_channel s t c.in_ok-time.at c.part_at-2.ensures.part c.in_ok-channel.was c.if-channel-gt-LAST_CHANNEL.false
    ∙ behind_identifier s t h c.in_ok-channel.at c.part_at-3.ensures.part c.in_ok-p.was (rw c.identifiers.ensures at c.if-identifiers-p.false)
    ∙ part_err s c.in_ok-p.at (length_part s t h c.in_ok-p.p) c.part_at-4.ensures.part c.in_err-n.was))

pub returns : goal.returns
returns c =
    let s = c.args.s.now in
    let t = c.in_ok-time.time in
    let h = c.in_ok-channel.channel in
    c.entry_of.ensures
    ∙ sym (behind_time s c.args.at c.part_at.ensures.part c.in_ok-time.was
    ∙ behind_channel s t c.in_ok-time.at c.part_at-2.ensures.part c.in_ok-channel.was c.if-channel-gt-LAST_CHANNEL.false
    ∙ behind_identifier s t h c.in_ok-channel.at c.part_at-3.ensures.part c.in_ok-p.was (rw c.identifiers.ensures at c.if-identifiers-p.false)
    ∙ part_ok s c.in_ok-p.at (length_part s t h c.in_ok-p.p) c.part_at-4.ensures.part c.in_ok-n.was)
