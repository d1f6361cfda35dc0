-- The laws of batches on a night: post 0 is set up on channel 4; a batch opens a session, ticks, and hears a tick on a channel that nobody holds; a
-- second one ends in a cut record and is refused; then a tick comes singly.
use Prim.Native.Nat.{ℕ, ◌+◌, min}
use native.Mathlib.Omega.{arith}
use mathlib.Core.Path.{◌≡◌, refl, ap, sym, ◌∙◌}
use mathlib.Core.Bool.{true}
use mathlib.Core.List.{List, [], ◌∷◌}
use lib.ListN.{length, get_or, take, replicate, length-replicate}
use Rattle.refusals.specs.Refusals.{number_of}
use Rattle.refusals.specs.declared.Refusal.TheVariants.{BatchBytes, BatchRecord, BatchAnswers}
use Rattle.page_table.specs.Table.{rows, of_kind, first_at, covered}
use Rattle.page_read.specs.Judge.{unlabelled, stray_below, judged_number, judge_on}
use Rattle.page_interfaces.specs.Foreign.{is_foreign, judge_for}
use Rattle.page_write.specs.Raws.{wholes_of, pad, raws_of}
use Rattle.signal.specs.Signal.{get_bits}
use Rattle.signal.specs.Twos.{to_signed}
use Rattle.payload.specs.Payload.{le_number}
use Rattle.message_parts.specs.Parts.{status_in, parameters_in, session_in, control_in}
use Rattle.rule_pages.specs.Roles.{role_of}
use Rattle.rule_pages.specs.Said.{status_by, limits_by, opening_by, command_by}
use Rattle.rule_limits.specs.declared.PlainLimits.{PlainLimits}
use Rattle.rule_limits.specs.Limits.{limits_fit}
use Rattle.rule_asks.specs.Judgements.{lowers_badly, outside, leaking, bad_insulation, differs}
use Rattle.rules.specs.History.{since_finished, opening, in_session}
use Rattle.rules.specs.Times.{earlier_in}
use Rattle.rules.specs.Rules.{session_status, session_control, session_stop, limit_of, f1, f2, f3, f4, f5, f6, f7, f8, f9, f10, f11, f12, findings01}
use Rattle.rules.specs.Counts.{largest}
use Rattle.log_numbers.specs.Number.{groups, read_groups}
use Rattle.log_records.specs.Record.{Rec, AllLoggable, record_bytes, log_bytes}
use Rattle.log_records.specs.Record as rec
use Rattle.log_records.specs.Reading.{length_part, identifier_part, channel_part, time_part, record_at, read_from, log_of, records_in}
use Rattle.watch_rules.specs.declared.Table.{Table}
use Rattle.watch_rules.specs.Table.{look_up_of}
use Rattle.watch_rules.specs.Steps.{standing, find_from, holder, other_holds, feed01, set_up01, look_up01, feed_steps, set_up_steps}
use Rattle.watch_rules.specs.Run.{Request, setUp, frame, tick, run, reply01, accepted, handed_in, refused_ever, accepted_ever}
use Rattle.watch_rules.proofs.Demand.{every_record}
use Rattle.lent_runs.specs.Runs.{lent_by, word_of}
use Rattle.batch_rules.specs.Batch.{is_whole, why_batch, called_with, table_after, words_of, batch_of, answers_after}
use Rattle.batch_rules.specs.Cases.{Broken}
use Rattle.batch_rules.specs.Runs.{Asked, single, batch, asked_run, with_records, flat, words01}
use Rattle.batch_rules.proofs.Laws.{refused_22, refused_23, refused_24, refused_nothing, word_at, written_batch}
use Rattle.batch_rules.proofs.Flat.{flat_run, flat_words, flat_answer}
use Rattle.batch_rules.proofs.Counted.{flat_handed, asked_refused, asked_handed}

abbrev limits : PlainLimits
limits = record { voltage = 5000; charge = 1000; discharge = 500; silence = 500; sensor = 0; interface = 0 }

-- the records, and their bytes: New_Charge_Session at 0, a tick at 500, a tick at 7 on channel 9
abbrev three : List Rec
three = rec.frame 0 4 true 0x6b001 (2 ∷ 1 ∷ []) ∷ rec.tick 500 4 ∷ rec.tick 7 9 ∷ []

abbrev bytes : List ℕ
bytes = 0x00 ∷ 0x04 ∷ 0x83 ∷ 0xc0 ∷ 0x35 ∷ 0x02 ∷ 0x02 ∷ 0x01 ∷ 0xf4 ∷ 0x03 ∷ 0x04 ∷ 0x00 ∷ 0x09 ∷ 0x07 ∷ 0x09 ∷ 0x00 ∷ 0x09 ∷ []

-- a tick at 600, and the first bytes of another
abbrev cut : List ℕ
cut = 0xd8 ∷ 0x04 ∷ 0x04 ∷ 0x00 ∷ 0x09 ∷ 0xd8 ∷ 0x04 ∷ []

-- newest first
abbrev before : List Asked
before = single (setUp 0 4 limits) ∷ []

abbrev night : List Asked
night = batch cut 8 ∷ batch bytes 8 ∷ before

-- without batches: the records one by one, and nothing of the refused one
abbrev alone : List Request
alone = tick 9 7 ∷ tick 4 500 ∷ frame 4 0 0x6b001 true (2 ∷ 1 ∷ []) ∷ setUp 0 4 limits ∷ []

written : log_bytes three ≡ bytes
unfolding log_bytes record_bytes groups
written = refl

reads : records_in (log_of bytes) ≡ three
unfolding records_in read_from record_at time_part channel_part identifier_part length_part read_groups
reads = refl

pub night_flat : flat night ≡ alone
unfolding flat with_records why_batch is_whole records_in read_from record_at time_part channel_part identifier_part length_part read_groups
night_flat = refl

-- what 01's rules give there
computed : (words01 (setUp 0 4 limits ∷ []) three ≡ 0 ∷ 0 ∷ 65537 ∷ []) × (word_of (reply01 (accepted alone) (tick 4 501)) ≡ 1)
unfolding words01 standing find_from holder other_holds feed01 set_up01 look_up01 feed_steps set_up_steps limits_fit accepted since_finished opening in_session earlier_in lowers_badly outside leaking bad_insulation differs session_status session_control session_stop limit_of f1 f2 f3 f4 f5 f6 f7 f8 f9 f10 f11 f12 findings01 rows of_kind first_at covered unlabelled stray_below judged_number judge_on is_foreign judge_for wholes_of pad raws_of get_bits le_number to_signed role_of status_by limits_by opening_by command_by status_in parameters_in session_in control_in
computed = (refl, refl)

counted : (min (refused_ever alone) largest ≡ 1) × (accepted_ever alone ≡ 2) × (refused_ever alone ≡ 1)
unfolding standing find_from holder other_holds feed01 set_up01 look_up01 feed_steps set_up_steps limits_fit accepted since_finished opening in_session earlier_in lowers_badly outside leaking bad_insulation differs session_status session_control session_stop limit_of f1 f2 f3 f4 f5 f6 f7 f8 f9 f10 f11 f12 findings01 rows of_kind first_at covered unlabelled stray_below judged_number judge_on is_foreign judge_for wholes_of pad raws_of get_bits le_number to_signed role_of status_by limits_by opening_by command_by status_in parameters_in session_in control_in
counted = (refl, refl, refl)

-- 02, Req 11: posts 0 and 1 read the pages of one interface each; on channel 5, of the older one, the newer New_Charge_Session gets 29
abbrev older_limits : PlainLimits
older_limits = record { voltage = 5000; charge = 1000; discharge = 500; silence = 500; sensor = 0; interface = 1 }

abbrev both : List Asked
both = single (setUp 1 5 older_limits) ∷ before

abbrev either : List Rec
either = rec.frame 0 5 true 0x6b001 (2 ∷ 1 ∷ []) ∷ rec.frame 0 5 true 0x68001 (2 ∷ 1 ∷ 0 ∷ 0 ∷ 0 ∷ 0 ∷ 0 ∷ 0 ∷ []) ∷ rec.frame 0 4 true 0x6b001 (2 ∷ 1 ∷ []) ∷ []

computed_either : words01 (setUp 1 5 older_limits ∷ setUp 0 4 limits ∷ []) either ≡ 65565 ∷ 0 ∷ 0 ∷ []
unfolding words01 standing find_from holder other_holds feed01 set_up01 look_up01 feed_steps set_up_steps limits_fit accepted since_finished opening in_session earlier_in lowers_badly outside leaking bad_insulation differs session_status session_control session_stop limit_of f1 f2 f3 f4 f5 f6 f7 f8 f9 f10 f11 f12 findings01 rows of_kind first_at covered unlabelled stray_below judged_number judge_on is_foreign judge_for wholes_of pad raws_of get_bits le_number to_signed role_of status_by limits_by opening_by command_by status_in parameters_in session_in control_in
computed_either = refl

module _ (t : Table) where
  -- the first batch answers nothing found, nothing found, and 1 for the channel that nobody holds
  pub night_words : words_of (asked_run t before) (records_in (log_of bytes)) ≡ 0 ∷ 0 ∷ 65537 ∷ []
  unfolding flat
  night_words = ap (words_of (asked_run t before)) reads ∙ flat_words t before three ∙ computed.0

  -- a batch over posts of either interface answers by each post's own pages
  pub either_words : words_of (asked_run t both) either ≡ 65565 ∷ 0 ∷ 0 ∷ []
  unfolding flat
  either_words = flat_words t both either ∙ computed_either

  -- the tick at 501 ms finds F1, by the session that the batch opened
  pub night_tick : (lent_by (asked_run t night) (tick 4 501)).answer ≡ 1
  night_tick = flat_answer t night (tick 4 501) ∙ ap (λ (rs : List Request). word_of (reply01 (accepted rs) (tick 4 501))) night_flat ∙ computed.1

  -- and demand 3 has the post's record
  pub night_record : look_up_of (asked_run t night) 0 ≡ look_up01 (accepted alone) 0
  night_record = ap (λ (u : Table). look_up_of u 0) (flat_run t night) ∙ ap (λ (rs : List Request). look_up_of (run rs) 0) night_flat ∙ every_record alone 0

  -- 02, Req 08: the tick on channel 9 was refused and is counted, and the refused batch handed in nothing
  pub night_refused : (asked_run t night).refused ≡ 1
  night_refused = asked_refused t night ∙ ap (λ (rs : List Request). min (refused_ever rs) largest) night_flat ∙ counted.0

  pub night_handed : 2 + (asked_run t night).refused ≡ 3
  night_handed =
      ap (λ (n : ℕ). n + (asked_run t night).refused) (sym counted.1 ∙ ap accepted_ever (sym night_flat))
      ∙ asked_handed t night (omega (arith, ap refused_ever night_flat, counted.2))
      ∙ sym (flat_handed night) ∙ ap handed_in night_flat

-- ---- the premises of the other laws hold there

broken : Broken cut 8
unfolding is_whole read_from record_at time_part channel_part identifier_part length_part read_groups
broken = (omega arith, refl)

sound : is_whole (log_of bytes) ≡ true
unfolding is_whole read_from record_at time_part channel_part identifier_part length_part read_groups
sound = refl

loggable : AllLoggable three
loggable = ((omega arith, omega arith, omega arith, omega arith), ((omega arith, omega arith), ((omega arith, omega arith), tt)))

module _ (t : Table) where
  -- eight places that hold 7
  abbrev places : List ℕ
  places = replicate 8 7

  pub night_22 : (batch_of t (replicate 4097 0) 8).answer ≡ 65536 + number_of BatchBytes
  night_22 = (refused_22 (replicate 4097 0) 8 t).1 (omega (arith, length-replicate {A = ℕ} 4097 0))

  pub night_23 : (batch_of t cut 8).answer ≡ 65536 + number_of BatchRecord
  night_23 = (refused_23 cut 8 t).1 broken

  pub night_24 : (batch_of t bytes 2).answer ≡ 65536 + number_of BatchAnswers
  night_24 = (refused_24 bytes 2 t).1 (omega arith, sound, omega (arith, ap length reads))

  pub night_kept : ((batch_of t cut 8).table ≡ t) × (answers_after t cut places ≡ places)
  night_kept = refused_nothing t cut places (omega (arith, night_23))

  pub night_written : batch_of t (log_bytes three) 8 ≡ record { table = table_after t three; answer = 3 }
  night_written = (written_batch three loggable t places (omega (arith, ap length written)) (omega arith)).0

  -- the word of the third record is that of its single call behind the two before it
  pub night_third : get_or (words_of t three) 2 0 ≡ (called_with (table_after t (take 2 three)) (rec.tick 7 9)).answer
  night_third = word_at t three 2 (rec.tick 7 9) (omega arith)
