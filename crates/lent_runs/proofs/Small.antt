-- How large a reply can be, whatever the table holds: the findings of any step are at most 4,095 (`found_small`), and the start that a refusal
-- carries is one of a payload's 64 bits (`reply_within`).
use Rattle.std.specs.Prelude.{Ok, Err}
use Prim.Native.Nat.{ℕ, ◌+◌, ◌≤◌}
use native.Mathlib.Omega.{arith}
use mathlib.Core.List.{List}
use mathlib.Core.Bool.{Bool, true, false, not, ◌&&◌}
use lib.Dec.{ltb}
use Rattle.refusals.specs.declared.Refusal.TheVariants.{ChannelFree, Earlier, CountFull}
use Rattle.page_read.specs.Judged.{Judged}
use Rattle.page_table.specs.declared.Interface.{Interface}
use Rattle.page_read.specs.Judge.{judge_on}
use Rattle.page_interfaces.specs.Foreign.{is_foreign, judge_for}
use Rattle.page_bounds.proofs.Bounds.{SmallBelow, kinds_on, judge_small_on}
use Rattle.rule_limits.specs.declared.PlainLimits.{PlainLimits}
use Rattle.rule_limits.specs.Limits.{limits_fit}
use Rattle.watch_rules.specs.rules.specs.declared.Head.{Head}
use Rattle.message_types.specs.declared.DcPowerControl.{DcPowerControl}
use Rattle.message_types.specs.declared.PowerModulesStatus.{PowerModulesStatus}
use Rattle.message_types.specs.declared.NewChargeSession.{NewChargeSession}
use Rattle.page_table.specs.Interfaces.{interface_of}
use Rattle.rule_limits.specs.Sensor.{sensor_of}
use Rattle.rule_asks.specs.Judgements.{is_close, is_powered, is_off, lowers_badly, outside, bad_insulation, differs, is_set, bit}
use Rattle.message_parts.specs.Parts.{session_in}
use Rattle.rule_pages.specs.declared.Role.{Role}
use Rattle.rule_pages.specs.declared.Role.TheVariants.{Other, Status, Limits, Controller, Opening, Command, Finished, Stop}
use Rattle.rule_pages.specs.Roles.{role_of}
use Rattle.rule_pages.specs.Said.{status_by, opening_by, command_by}
use Rattle.watch_rules.specs.rules.specs.After.{silent_in, late_after, limit_in, unready_in, stopped_in, carrying_in, any_findings, control_findings, status_findings, opening_findings, finished_findings, findings_by, message_findings, is_full_in, after_tick, after_frame, aged_to, stamp_in, is_early}
use Rattle.watch_rules.specs.declared.Table.{Table}
use Rattle.watch_rules.specs.Answer.{Answer, Fed}
use Rattle.watch_rules.specs.Setting.{Settled}
use Rattle.watch_rules.specs.declared.Heard.{Heard}
use Rattle.watch_rules.specs.declared.Arrival.{Arrival}
use Rattle.watch_rules.specs.declared.Arrival.TheVariants.{Tick, Frame, Unread}
use Rattle.watch_rules.specs.Table.{post_count, is_channel, holds, place_of, place_in, post_in, arrival_of, Arriving, framing, ticking, judged_of, heard_of, feed_at, feed_of, is_other, is_post, set_up_of, release_of}
use Rattle.watch_rules.specs.Run.{Request, setUp, release, frame, tick, reply}
use Rattle.plain_words.specs.Words.{Within}
use Rattle.plain_words.proofs.WordLaws.{either}
use Rattle.lent_step.specs.lent_words.specs.Words.{answer_outcome, setting_outcome}
use Rattle.lent_runs.specs.Runs.{outcome_of, most_of}

bit_le : (b : Bool) (w : ℕ) → bit b w ≤ w
bit_le true w = omega arith
bit_le false w = omega arith

two_le : (a b : Bool) (v w : ℕ) → bit a v + bit b w ≤ v + w
two_le a b v w = omega (arith, bit_le a v, bit_le b w)

-- those of DC_Power_Control
six_le : (a b c d e f : Bool) → bit a 4 + bit b 8 + bit c 16 + bit d 32 + bit e 64 + bit f 2048 ≤ 2172
six_le a b c d e f = omega (arith, bit_le a 4, bit_le b 8, bit_le c 16, bit_le d 32, bit_le e 64, bit_le f 2048)

under : {n : ℕ} (m : ℕ) → n ≤ m → m ≤ 2172 → n ≤ 2172
under m l h = omega arith

-- ---- any head

module _ (p : Head) where
  any_small : any_findings p ≤ 3
  unfolding any_findings
  any_small = two_le (silent_in p.session p.limits.silence p.time) (late_after p.controller p.time) 1 2

  abbrev Small : ℕ → Type 0
  Small n = n ≤ 2172

  zero-small : Small 0
  zero-small = omega arith

  status-small : (s : PowerModulesStatus) → Small (status_findings p s)
  unfolding status_findings
  status-small s =
      under 384
      (two_le
      (is_set p.session.opened && outside s.current (limit_in p.limits.charge (λ q. q.charge) p.parameters) (limit_in p.limits.discharge (λ q. q.discharge) p.parameters))
      (carrying_in p.session && bad_insulation (sensor_of p.limits.sensor) s)
      128 256)
      (omega arith)

  control-small : (d : DcPowerControl) → Small (control_findings p d)
  unfolding control_findings
  control-small d =
      (six_le
      (is_close d.contactors && not (is_set p.session.opened))
      (is_powered d.function && not (is_set p.session.opened))
      (is_powered d.function && unready_in p.session)
      (lowers_badly d)
      (not (is_off d.function) && ltb (limit_in p.limits.voltage (λ q. q.voltage) p.parameters) d.target)
      (is_powered d.function && stopped_in p.session))

  opening-small : (n : NewChargeSession) → Small (opening_findings p.session n)
  unfolding opening_findings
  opening-small n = under 512 (bit_le (is_set p.session.opened && differs (session_in p.session.first) n) 512) (omega arith)

  finished-small : Small (finished_findings p.session)
  unfolding finished_findings
  finished-small = under 1024 (bit_le (not (is_set p.session.opened)) 1024) (omega arith)

  role-small : (r : Role) (k raw : ℕ) → Small (findings_by r p k raw)
  role-small Status k raw = status-small (status_by k raw)
  role-small Opening k raw = opening-small (opening_by k raw)
  role-small Command k raw = control-small (command_by k raw)
  role-small Finished k raw = finished-small
  role-small Limits k raw = zero-small
  role-small Controller k raw = zero-small
  role-small Stop k raw = zero-small
  role-small Other k raw = zero-small

  message-small : (k raw : ℕ) → Small (message_findings p k raw)
  unfolding message_findings
  message-small k raw = role-small (role_of k) k raw

-- ---- any table

abbrev pub Found : Answer → Type 0
Found (Ok n) = n ≤ 4095
Found (Err w) = Unit {0}

tick_small : (p : Head) (t : ℕ) → (after_tick p t).findings ≤ 4095
unfolding after_tick
tick_small p t = omega (arith, any_small (aged_to p (stamp_in p t)))

frame_small : (p : Head) (t k n : ℕ) → (after_frame p t k n).findings ≤ 4095
unfolding after_frame
frame_small p t k n = omega (arith, any_small (aged_to p (stamp_in p t)), message-small (aged_to p (stamp_in p t)) k n)

-- an arrival that is not read is refused with what P holds of
abbrev pub Reads : (Answer → Type 0) → Arrival → Type 0
Reads P Tick = Unit {0}
Reads P (Frame k n) = Unit {0}
Reads P (Unread w) = P (Err w)

-- what holds of 25, of any findings up to 4,095 and of what is not read holds of a head's answer
judged_says : (P : Answer → Type 0) → P (Err CountFull) → ((n : ℕ) → n ≤ 4095 → P (Ok n)) → (p : Head) (t : ℕ) (a : Arrival) → Reads P a
    → P (judged_of p t a).answer
judged_says P full found p t Tick l = either (λ (r : Heard). P r.answer) (is_full_in p) full (found _ (tick_small p t))
judged_says P full found p t (Frame k n) l = either (λ (r : Heard). P r.answer) (is_full_in p) full (found _ (frame_small p t k n))
judged_says P full found p t (Unread w) l = l

-- what holds of 1, of 2 and of whatever a head answers holds of the table's answer
feed_says : (P : Answer → Type 0) (t : Table) (c time : ℕ) (a : Arriving) → P (Err ChannelFree) → P (Err Earlier)
    → ((p : Head) → P (judged_of p time (a p.limits)).answer) → P (feed_of t c time a).answer
unfolding feed_of feed_at heard_of
feed_says P t c time a free early heard =
    let p = (post_in t (place_in t c)).head in
    either (λ (r : Fed). P r.answer) (is_channel c && ltb (place_in t c) post_count)
    (either (λ (r : Heard). P r.answer) (is_channel c && holds p c)
    (either (λ (r : Heard). P r.answer) (is_early p time) early (heard p))
    free)
    free

any_reads : (a : Arrival) → Reads Found a
any_reads Tick = tt
any_reads (Frame k n) = tt
any_reads (Unread w) = tt

pub found_small : (t : Table) (c time : ℕ) (a : Arriving) → Found (feed_of t c time a).answer
found_small t c time a = feed_says Found t c time a tt tt (λ p. judged_says Found tt (λ n l. l) p time (a p.limits) (any_reads (a p.limits)))

-- ---- what comes to a word, of any table

abbrev FedWithin : Answer → Type 0
FedWithin r = Within 4095 (answer_outcome r)

-- an arrival that is not read is refused with the start of a row, or with none
frame_readable : (b : ℕ) (j : Judged) → SmallBelow b j → Reads FedWithin (arrival_of j)
frame_readable b (Ok (k, n)) l = tt
frame_readable b (Err w) l = l

post_readable : (iface : Interface) (m : ℕ) (x : Bool) (bs : List ℕ) → Reads FedWithin (arrival_of (judge_for iface m x bs))
unfolding judge_for
post_readable iface m x bs =
    either (λ (j : Judged). Reads FedWithin (arrival_of j)) (is_foreign iface m x) (omega arith)
    (frame_readable (kinds_on iface) (judge_on iface m x bs) (judge_small_on iface m x bs))

fed_within : (t : Table) (c time : ℕ) (a : Arriving) → ((lim : PlainLimits) → Reads FedWithin (a lim)) → FedWithin (feed_of t c time a).answer
fed_within t c time a l =
    feed_says FedWithin t c time a (omega arith) (omega arith) (λ p. judged_says FedWithin (omega arith) (λ n m. m) p time (a p.limits) (l p.limits))

abbrev SetWithin : Settled → Type 0
SetWithin r = Within 0 (setting_outcome r.answer)

pub reply_within : (t : Table) (a : Request) → Within (most_of a) (outcome_of (reply t a))
unfolding set_up_of release_of
reply_within t (setUp i c lim) =
    either SetWithin (is_post i)
    (either SetWithin (is_channel c)
    (either SetWithin (is_other (place_of t.posts c) i) (omega arith) (either SetWithin (limits_fit lim) (omega arith) (omega arith)))
    (omega arith))
    (omega arith)
reply_within t (release i) = either SetWithin (is_post i) (either SetWithin (is_set (post_in t i).head.used) (omega arith) (omega arith)) (omega arith)
reply_within t (frame c time m x bs) = fed_within t c time (framing m x bs) (λ lim. post_readable (interface_of lim.interface) m x bs)
reply_within t (tick c time) = fed_within t c time ticking (λ lim. tt)
