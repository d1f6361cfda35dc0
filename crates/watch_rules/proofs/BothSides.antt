-- The readings from both sides of each edge, of the operations that `by_record` promises, one after the other from the empty table:
-- the very cases that hold by looking back (specs/Readings.antt), closed by computing.
use Rattle.std.specs.Prelude as std
use Prim.Native.Nat.{ℕ}
use mathlib.Core.Path.{◌≡◌, refl}
use mathlib.Core.List.{List, [], ◌∷◌}
use lib.ListN.{get_or}
use Rattle.signal.specs.Signal.{get_bits}
use Rattle.signal.specs.Twos.{to_signed}
use Rattle.payload.specs.Payload.{le_number, be_number}
use Rattle.page_table.specs.Table.{rows, of_kind, first_at, covered}
use Rattle.page_read.specs.Judge.{unlabelled, offender, stray_below, judged_number, judge_on}
use Rattle.page_interfaces.specs.Foreign.{is_foreign, judge_for}
use Rattle.rules.specs.older_build.specs.Built as olderBuilt
use Rattle.rule_pages.specs.Roles.{role_of}
use Rattle.rule_pages.specs.Said.{status_by, opening_by, limits_in, limits_by, command_by}
use Rattle.rule_pages.specs.Places.{place_by}
use Rattle.rules.specs.Record.{dated_at}
use Rattle.page_write.specs.Raws.{wholes_of, pad, raws_of}
use Rattle.message_parts.specs.Parts.{status_in, parameters_in, session_in, control_in}
use Rattle.messages.specs.message_build.specs.Built.{message_of, built_of}
use Rattle.rule_limits.specs.Limits.{limits_fit}
use Rattle.rule_asks.specs.Judgements.{lowers_badly, outside, leaking, bad_insulation, differs}
use Rattle.rules.specs.declared.Dated.{Dated}
use Rattle.rules.specs.After.{session_after, stamp_in, aged_to, with_frame, silent_in, late_after, any_findings, unready_in, carrying_in, stopped_in, control_findings, status_findings, opening_findings, finished_findings, message_findings, counted, with_counts, after_tick, after_frame, post_record}
use Rattle.watch_rules.specs.Table.{place_of, place_named, some_place, place_in, heard_of, one_more, feed_at, feed_of, empty_table, is_other, set_up_of, release_of, look_up_of}
use Rattle.watch_rules.specs.Run.{Request, run_from, replies_from}
use Rattle.watch_rules.specs.Readings.{Case, codec, answers, shows, senses, reads-by, in-session, keeps, dates, counts, turns-away, names, is_dated, e8to13}

abbrev latest_run : List Request → ℕ → ℕ → std.Option Dated
latest_run asked post kind = get_or (look_up_of (run_from empty_table asked) post).shown.latest kind std.None

abbrev pub Runs : Case → Type 0
Runs (codec c) = Unit {0}
Runs (answers asked replies) = replies_from empty_table asked ≡ replies
Runs (shows asked post shown) = look_up_of (run_from empty_table asked) post ≡ shown
Runs (senses asked post sensor) = (look_up_of (run_from empty_table asked) post).shown.limits.sensor ≡ sensor
Runs (reads-by asked post iface) = (look_up_of (run_from empty_table asked) post).shown.limits.interface ≡ iface
Runs (in-session asked post session ks) =
    ((look_up_of (run_from empty_table asked) post).shown.session ≡ session) × ((look_up_of (run_from empty_table asked) post).shown.kept ≡ ks)
Runs (keeps asked post kind latest) = latest_run asked post kind ≡ latest
Runs (dates asked post kind d) = is_dated (latest_run asked post kind) d
Runs (counts asked post accepted tallies) =
    ((look_up_of (run_from empty_table asked) post).shown.accepted ≡ accepted) × ((look_up_of (run_from empty_table asked) post).shown.tallies ≡ tallies)
Runs (turns-away asked n) = (run_from empty_table asked).refused ≡ n
Runs (names asked c entry) = get_or (run_from empty_table asked).index c 0 ≡ entry

abbrev pub AllRun : List Case → Type 0
AllRun [] = Unit {0}
AllRun (c ∷ cs) = Runs c × AllRun cs

pub both_sides : AllRun e8to13
unfolding place_of place_named some_place place_in heard_of one_more counted with_counts feed_at feed_of is_other set_up_of release_of look_up_of post_record limits_fit session_after stamp_in aged_to with_frame silent_in late_after any_findings unready_in carrying_in stopped_in control_findings status_findings opening_findings finished_findings message_findings after_tick after_frame lowers_badly outside leaking bad_insulation differs message_of built_of status_in parameters_in session_in control_in rows of_kind first_at covered unlabelled offender stray_below judged_number judge_on is_foreign judge_for role_of status_by opening_by limits_in limits_by command_by place_by dated_at olderBuilt.message_of olderBuilt.built_of wholes_of pad raws_of get_bits le_number be_number to_signed
both_sides = (refl, (refl, (refl, (refl, (refl, (refl, (refl, (refl, (refl, (refl, (refl, ((refl, refl), (refl, (refl, (refl, (refl, ((refl, refl), ((refl, refl), (refl, (refl, (refl, (refl, (refl, (refl, (refl, (refl, (refl, (refl, (refl, (refl, (refl, (refl, (refl, (refl, (refl, (refl, (refl, (refl, (refl, (refl, (refl, (refl, (refl, (refl, (refl, (refl, (refl, (refl, (refl, ((refl, refl), ((refl, refl), ((refl, refl), ((refl, refl), (refl, (refl, (refl, (refl, (refl, (refl, (refl, (refl, (refl, (refl, (refl, (refl, (refl, (refl, ((refl, refl), (refl, (refl, (refl, (refl, (refl, (refl, ((refl, refl), ((refl, refl), ((refl, refl), ((refl, refl), (refl, ((refl, refl), (refl, (refl, (refl, (refl, (refl, (refl, (refl, tt)))))))))))))))))))))))))))))))))))))))))))))))))))))))))))))))))))))))))))))))))))))))
