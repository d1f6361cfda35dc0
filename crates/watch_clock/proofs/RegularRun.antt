-- 02, Req 09: the same over the public operations: no regular tick is refused while the post's count has room, whatever rounds its clock makes.
use Rattle.std.specs.Prelude.{Ok}
use Prim.Native.Nat.{ℕ, zero, suc, ◌+◌, ◌<◌, ◌≤◌}
use native.Mathlib.Omega.{arith}
use mathlib.Core.Path.{◌≡◌, ap, ◌∙◌, subst}
use mathlib.Core.List.{List, ◌∷◌}
use mathlib.Core.Bool.{false}
use lib.ListN.{length}
use borrow.Author.Tests.{lt-ltb, lt-leb}
use Rattle.rule_limits.specs.declared.PlainLimits.{PlainLimits}
use Rattle.rule_asks.specs.Judgements.{bit}
use Rattle.rules.specs.History.{Event, tick, History, time_of, newest, controller_of, opening}
use Rattle.rules.specs.Times.{received_of, Unrolled}
use Rattle.rules.specs.Rules.{is_open}
use Rattle.rules.specs.Counts.{largest, is_full}
use Rattle.rules.specs.Record.{record_of}
use Rattle.watch_rules.specs.Table.{post_count, look_up_of}
use Rattle.watch_rules.specs.Steps.{held, standing, look_up01, InTime}
use Rattle.watch_rules.specs.Run.{Request, fed, reply, run, accepted}
use Rattle.watch_rules.proofs.Demand.{own_tick, counted_tick, every_record, run_kept}
use Rattle.watch_clock.specs.Regular.{tick_time, ticked, tick_after, ticked_on}
use Rattle.watch_clock.proofs.Regular.{length_ticked, tick_in_time, tick_stands, findings_ticked}

-- of a post whose latest event is e, with more ms between ticks than W and 200
module _ (every : ℕ) (half : every < 2147483648) (e : Event) (h : History) (rs : List Request) (i c : ℕ) (lim : PlainLimits)
    (low : i < post_count) (own : standing i (accepted rs) ≡ held c lim (e ∷ h)) (silent : lim.silence < every) (late : 200 < every) where
  un : Unrolled (e ∷ h)
  un = subst InTime own ((run_kept rs).times i low)

  abbrev ticks_after : ℕ → History
  ticks_after n = ticked every (time_of e) n (e ∷ h)

  abbrev bits : ℕ
  bits = bit (is_open (opening (e ∷ h))) 1 + bit (is_open (newest controller_of (e ∷ h))) 2

  room_for : (n : ℕ) → n + length (e ∷ h) < largest → is_full (ticks_after n) ≡ false
  room_for n room = lt-leb largest (length (ticks_after n)) (omega (arith, room, length_ticked every (time_of e) (e ∷ h) n))

  reply-next : (n : ℕ) → n + length (e ∷ h) < largest → standing i (accepted (ticked_on c every (time_of e) n rs)) ≡ held c lim (ticks_after n)
      → reply (run (ticked_on c every (time_of e) n rs)) (tick_after c every (time_of e) n) ≡ fed (Ok bits)
  reply-next n room stands =
      own_tick (ticked_on c every (time_of e) n rs) i c lim (ticks_after n) low stands (received_of (tick_time every (time_of e) (suc n)))
      ∙ rw (tick_in_time every half e h un n, room_for n room, tick_stands every half e h un n, findings_ticked every half e h un lim silent late n)

  -- the post's history is that with all the ticks
  pub standing_ticked : (n : ℕ) → n + length (e ∷ h) ≤ largest → standing i (accepted (ticked_on c every (time_of e) n rs)) ≡ held c lim (ticks_after n)
  standing_ticked zero room = own
  standing_ticked (suc n) room =
      let before : standing i (accepted (ticked_on c every (time_of e) n rs)) ≡ held c lim (ticks_after n) = standing_ticked n (omega (arith, room)) in
      counted_tick (ticked_on c every (time_of e) n rs) i c lim (ticks_after n) before (received_of (tick_time every (time_of e) (suc n))) bits
      (reply-next n (omega (arith, room)) before)
      ∙ ap (λ (t : ℕ). held c lim (tick t ∷ ticks_after n)) (tick_stands every half e h un n)

  -- none is refused while the post's count has room, and each has the findings
  pub reply_ticked : (n : ℕ) → n + length (e ∷ h) < largest
      → reply (run (ticked_on c every (time_of e) n rs)) (tick_after c every (time_of e) n) ≡ fed (Ok bits)
  reply_ticked n room = reply-next n room (standing_ticked n (omega (arith, room)))

  pub record_ticked : (n : ℕ) → n + length (e ∷ h) ≤ largest
      → look_up_of (run (ticked_on c every (time_of e) n rs)) i ≡ record { answer = Ok tt; shown = record_of c lim (ticks_after n) }
  unfolding look_up01
  record_ticked n room =
      every_record (ticked_on c every (time_of e) n rs) i ∙ rw (lt-ltb i post_count low, standing_ticked n room)
