-- 02, Req 09: requests in which each channel's clock is moved by a number of its own get the same replies,
-- and look-ups show the same but for times as received.
use Prim.Native.Nat.{ℕ}
use mathlib.Core.Path.{◌≡◌, refl, sym, ap, ap₂, ◌∙◌}
use mathlib.Core.List.{List, [], ◌∷◌}
use Rattle.watch_rules.specs.Table.{empty_table, look_up_of}
use Rattle.watch_rules.specs.Run.{Request, setUp, release, frame, tick, reply, run, accepted, is_arrival, replies_from, replies01_from}
use Rattle.watch_rules.proofs.Standings.{standing_none}
use Rattle.watch_rules.proofs.Handed.{next_refused}
use Rattle.watch_rules.proofs.Demand.{run_kept, every_answer, every_record, replies_in_order}
use Rattle.watch_clock.specs.Moved.{moved_request, moved_requests, still_shown}
use Rattle.watch_clock.proofs.MovedSteps.{Moves, same_reply, next_moves, same_look_up}

module _ (by : ℕ → ℕ) where
  -- each post stands as it did, with its history by its channel's moved clock
  pub standing_moved : (rs : List Request) → Moves by (accepted rs) (accepted (moved_requests by rs))
  unfolding accepted
  standing_moved [] = λ i low. rw (standing_none i)
  standing_moved (a ∷ rs) = next_moves by (accepted rs) (accepted (moved_requests by rs)) (standing_moved rs) (run_kept rs).apart (run_kept rs).times a

  pub reply_moved : (rs : List Request) (a : Request) → reply (run (moved_requests by rs)) (moved_request by a) ≡ reply (run rs) a
  reply_moved rs a =
      every_answer (moved_requests by rs) (moved_request by a)
      ∙ same_reply by (accepted rs) (accepted (moved_requests by rs)) (standing_moved rs) (run_kept rs).apart (run_kept rs).times a
      ∙ sym (every_answer rs a)

  pub look_up_moved : (rs : List Request) (i : ℕ) → still_shown (look_up_of (run (moved_requests by rs)) i) ≡ still_shown (look_up_of (run rs) i)
  look_up_moved rs i =
      ap still_shown (every_record (moved_requests by rs) i)
      ∙ same_look_up by (accepted rs) (accepted (moved_requests by rs)) (standing_moved rs) (run_kept rs).apart (run_kept rs).times i
      ∙ sym (ap still_shown (every_record rs i))

  -- nor does the table's count of refused frames and ticks change
  is-arrival : (a : Request) → is_arrival (moved_request by a) ≡ is_arrival a
  is-arrival (setUp i c lim) = refl
  is-arrival (release i) = refl
  is-arrival (frame c t m x bs) = refl
  is-arrival (tick c t) = refl

  pub refused_moved : (rs : List Request) → (run (moved_requests by rs)).refused ≡ (run rs).refused
  unfolding run
  refused_moved [] = refl
  refused_moved (a ∷ rs) =
      next_refused (run (moved_requests by rs)) (moved_request by a)
      ∙ rw (is-arrival a, reply_moved rs a, refused_moved rs) (sym (next_refused (run rs) a))

  -- ---- the same in the order in which requests come

  replies_on : (later rs : List Request) → replies01_from (accepted (moved_requests by rs)) (moved_requests by later) ≡ replies01_from (accepted rs) later
  unfolding accepted
  replies_on [] rs = refl
  replies_on (a ∷ later) rs =
      ap₂ ◌∷◌ (same_reply by (accepted rs) (accepted (moved_requests by rs)) (standing_moved rs) (run_kept rs).apart (run_kept rs).times a) (replies_on later (a ∷ rs))

  pub replies_moved : (asked : List Request) → replies_from empty_table (moved_requests by asked) ≡ replies_from empty_table asked
  unfolding accepted
  replies_moved asked = replies_in_order (moved_requests by asked) ∙ replies_on asked [] ∙ sym (replies_in_order asked)
