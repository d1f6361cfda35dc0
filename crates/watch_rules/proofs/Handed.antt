-- 02, Req 08: "The table keeps one more, of frames and ticks refused since it was made", and "Accepted ever plus refused equals handed in".
use Rattle.std.specs.Prelude.{Ok, Err}
use Prim.Native.Nat.{ℕ, ◌+◌, ◌≤◌, min}
use native.Mathlib.Nat.{zero-add}
use native.Mathlib.Omega.{arith}
use mathlib.Core.Path.{◌≡◌, refl, sym, ap, ◌∙◌}
use mathlib.Core.List.{List, [], ◌∷◌}
use mathlib.Core.Bool.{Bool, true, false, not, cond, ◌&&◌}
use borrow.Author.Tests.{ltb-true, ltb-false}
use lib.Dec.{ltb}
use Rattle.rule_limits.specs.declared.PlainLimits.{PlainLimits}
use Rattle.rule_limits.specs.Limits.{limits_fit}
use Rattle.rule_asks.specs.Judgements.{bit}
use Rattle.rules.specs.Counts.{largest}
use Rattle.rules.specs.Record.{is_set}
use Rattle.watch_rules.specs.declared.Table.{Table}
use Rattle.watch_rules.specs.Answer.{Answer}
use Rattle.watch_rules.specs.Setting.{Settled}
use Rattle.watch_rules.specs.Table.{post_count, is_channel, place_of, place_in, post_in, Arriving, framing, ticking, one_more, refused_after, feed_at, feed_of, is_other, is_post, set_up_of, release_of}
use Rattle.watch_rules.specs.Run.{Request, setUp, release, frame, tick, fed, reply, next, run, reply01, accepted, is_refusal, is_arrival, handed_in, refused_ever, accepted_ever}
use Rattle.watch_rules.proofs.Demand.{every_answer}

-- ---- one request to any table

module _ (t : Table) where
  fed-counts : (c time : ℕ) (a : Arriving) → (feed_of t c time a).table.refused ≡ refused_after t.refused (feed_of t c time a).answer
  unfolding feed_of feed_at
  fed-counts c time a = go (is_channel c && ltb (place_in t c) post_count) refl
    where
      go : (b : Bool) → (is_channel c && ltb (place_in t c) post_count) ≡ b → (feed_of t c time a).table.refused ≡ refused_after t.refused (feed_of t c time a).answer
      go true e = rw e
      go false e = rw e

  either : (b : Bool) (x y : Settled) → x.table.refused ≡ t.refused → y.table.refused ≡ t.refused → (cond b x y).table.refused ≡ t.refused
  either true x y p q = p
  either false x y p q = q

  setUp-counts : (i c : ℕ) (lim : PlainLimits) → (set_up_of t i c lim).table.refused ≡ t.refused
  unfolding set_up_of
  setUp-counts i c lim =
      either (is_post i) _ _ (either (is_channel c) _ _ (either (is_other (place_of t.posts c) i) _ _ refl (either (limits_fit lim) _ _ refl refl)) refl) refl

  release-counts : (i : ℕ) → (release_of t i).table.refused ≡ t.refused
  unfolding release_of
  release-counts i = either (is_post i) _ _ (either (is_set (post_in t i).head.used) _ _ refl refl) refl

  after-answer : (w : Answer) → refused_after t.refused w ≡ cond (is_refusal (fed w)) (one_more t.refused) t.refused
  after-answer (Ok n) = refl
  after-answer (Err w) = refl

  -- a set-up and a release leave the count, and so does an accepted frame or tick; a refused one is counted
  pub next_refused : (a : Request) → (next t a).refused ≡ cond (is_arrival a && is_refusal (reply t a)) (one_more t.refused) t.refused
  next_refused (setUp i c lim) = setUp-counts i c lim
  next_refused (release i) = release-counts i
  next_refused (frame c time m x bs) = fed-counts c time (framing m x bs) ∙ after-answer (feed_of t c time (framing m x bs)).answer
  next_refused (tick c time) = fed-counts c time ticking ∙ after-answer (feed_of t c time ticking).answer

-- ---- any requests

one_more_lem : (n k : ℕ) → n ≡ min k largest → one_more n ≡ min (1 + k) largest
unfolding one_more
one_more_lem n k e = go (ltb n largest) refl
  where
    go : (b : Bool) → ltb n largest ≡ b → cond b (n + 1) n ≡ min (1 + k) largest
    go true q = omega (arith, e, ltb-true n largest q)
    go false q = omega (arith, e, ltb-false n largest q)

counted_by : (b : Bool) (n k : ℕ) → n ≡ min k largest → cond b (one_more n) n ≡ min (bit b 1 + k) largest
counted_by true n k e = one_more_lem n k e
counted_by false n k e = e ∙ ap (λ (x : ℕ). min x largest) (sym (zero-add k))

-- the count is that of the requests, up to the largest
pub refused_counted : (rs : List Request) → (run rs).refused ≡ min (refused_ever rs) largest
unfolding run
refused_counted [] = refl
refused_counted (a ∷ rs) =
    next_refused (run rs) a
    ∙ ap (λ (r : Bool). cond (is_arrival a && r) (one_more (run rs).refused) (run rs).refused) (ap is_refusal (every_answer rs a))
    ∙ counted_by (is_arrival a && is_refusal (reply01 (accepted rs) a)) (run rs).refused (refused_ever rs) (refused_counted rs)

either_way : (a r : Bool) → bit (a && not r) 1 + bit (a && r) 1 ≡ bit a 1
either_way true true = refl
either_way true false = refl
either_way false r = refl

-- each frame and tick was accepted or refused
pub all_handed : (rs : List Request) → accepted_ever rs + refused_ever rs ≡ handed_in rs
all_handed [] = refl
all_handed (a ∷ rs) = omega (arith, either_way (is_arrival a) (is_refusal (reply01 (accepted rs) a)), all_handed rs)

-- "the sum holds until a refusal finds it there"
pub handed_in_lem : (rs : List Request) → refused_ever rs ≤ largest → accepted_ever rs + (run rs).refused ≡ handed_in rs
handed_in_lem rs few = omega (arith, refused_counted rs, all_handed rs, few)
