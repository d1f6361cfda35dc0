-- A refused request leaves every table, and the accepted steps, as they were, but that the table counts a refused frame or tick.
use Rattle.std.specs.Prelude.{Ok, Err}
use Prim.Native.Nat.{ℕ}
use mathlib.Core.Path.{◌≡◌, refl, ap, sym}
use mathlib.Core.List.{List}
use mathlib.Core.Bool.{Bool, true, false, cond, ◌&&◌, true≢false}
use lib.Dec.{ltb}
use lib.Seq.{set-get_or}
use Rattle.refusals.specs.declared.Refusal.{Refusal}
use Rattle.refusals.specs.declared.Refusal.TheVariants.{ChannelFree, Earlier, CountFull}
use Rattle.rule_limits.specs.declared.PlainLimits.{PlainLimits}
use Rattle.rules.specs.declared.Post.{Post}
use Rattle.rules.specs.Record.{is_set}
use Rattle.rules.specs.After.{is_early, is_full_in}
use Rattle.watch_rules.specs.declared.Table.{Table}
use Rattle.watch_rules.specs.Answer.{Answer, Fed}
use Rattle.watch_rules.specs.declared.Heard.{Heard}
use Rattle.watch_rules.specs.Setting.{Setting, Settled}
use Rattle.watch_rules.specs.declared.Arrival.{Arrival}
use Rattle.watch_rules.specs.declared.Arrival.TheVariants.{Tick, Frame, Unread}
use Rattle.watch_rules.specs.Table.{post_count, is_channel, holds, place_of, place_in, no_post, post_in, Arriving, framing, ticking, turned_away, judged_of, heard_of, one_more, one_refused, fed_by, feed_at, feed_of, is_other, is_post, set_up_of, release_of}
use Rattle.rule_limits.specs.Limits.{limits_fit}
use Rattle.watch_rules.specs.Steps.{Step, Steps, if_found, if_done, feed01, set_up01, release01, feed_steps, set_up_steps, release_steps}
use Rattle.watch_rules.specs.Run.{Request, setUp, release, frame, tick, set, fed, reply, next, reply01, steps01, after_refusal, is_refusal}

either : {A : Type 0} (P : A → Type 0) (b : Bool) {x y : A} → P x → P y → P (cond b x y)
either P true p q = p
either P false p q = q

never : {A : Type 0} → false ≡ true → A
never q = absurd (true≢false (sym q))

module _ (t : Table) where
  -- ---- frames and ticks

  abbrev FedStays : Fed → Type 0
  FedStays r = is_refusal (fed r.answer) ≡ true → r.table ≡ one_refused t

  module _ (i : ℕ) where
    -- what is turned away is stored back as it was
    pub put_same : (w : Refusal) → (fed_by t i (turned_away (post_in t i).head w)).table ≡ one_refused t
    put_same w = ap (λ (l : List Post). record { posts = l; index = t.index; refused = one_more t.refused }) (set-get_or t.posts i no_post)

    full-stays : (r : Heard) → FedStays (fed_by t i r) → FedStays (fed_by t i (cond (is_full_in (post_in t i).head) (turned_away (post_in t i).head CountFull) r))
    full-stays r stays = either (λ (h : Heard). FedStays (fed_by t i h)) (is_full_in (post_in t i).head) (λ q. put_same CountFull) stays

    heard-stays : (time : ℕ) (a : Arrival) → FedStays (fed_by t i (judged_of (post_in t i).head time a))
    heard-stays time Tick = full-stays _ never
    heard-stays time (Frame k n) = full-stays _ never
    heard-stays time (Unread w) = λ q. put_same w

    feedAt-stays : (c time : ℕ) (a : Arriving) → FedStays (feed_at t i c time a)
    unfolding feed_at heard_of
    feedAt-stays c time a =
        either (λ (h : Heard). FedStays (fed_by t i h)) (is_channel c && holds (post_in t i).head c)
        (either (λ (h : Heard). FedStays (fed_by t i h)) (is_early (post_in t i).head time) (λ q. put_same Earlier) (heard-stays time (a (post_in t i).head.limits)))
        (λ q. put_same ChannelFree)

  feed-stays : (c time : ℕ) (a : Arriving) → FedStays (feed_of t c time a)
  unfolding feed_of
  feed-stays c time a = either FedStays (is_channel c && ltb (place_in t c) post_count) (feedAt-stays (place_in t c) c time a) (λ q. refl)

  -- ---- set-ups and releases

  abbrev SettledStays : Settled → Type 0
  SettledStays r = is_refusal (set r.answer) ≡ true → r.table ≡ t

  setUp-stays : (i c : ℕ) (lim : PlainLimits) → SettledStays (set_up_of t i c lim)
  unfolding set_up_of
  setUp-stays i c lim =
      either SettledStays (is_post i)
      (either SettledStays (is_channel c)
      (either SettledStays (is_other (place_of t.posts c) i) (λ q. refl)
      (either SettledStays (limits_fit lim) never
      (λ q. refl)))
      (λ q. refl))
      (λ q. refl)

  release-stays : (i : ℕ) → SettledStays (release_of t i)
  unfolding release_of
  release-stays i = either SettledStays (is_post i) (either SettledStays (is_set (post_in t i).head.used) never (λ q. refl)) (λ q. refl)

  -- 01: "A refusal carries its number only; table, record .. stay as they were."
  -- 02, Req 08: "that count is now the only thing a refused one changes"
  pub refused_table : (a : Request) → is_refusal (reply t a) ≡ true → next t a ≡ after_refusal t a
  refused_table (setUp i c lim) = setUp-stays i c lim
  refused_table (release i) = release-stays i
  refused_table (frame c time m x bs) = feed-stays c time (framing m x bs)
  refused_table (tick c time) = feed-stays c time ticking

  -- so that every post is as it was
  pub refused_posts : (a : Request) → is_refusal (reply t a) ≡ true → (next t a).posts ≡ t.posts
  refused_posts (setUp i c lim) q = ap (λ (u : Table). u.posts) (refused_table (setUp i c lim) q)
  refused_posts (release i) q = ap (λ (u : Table). u.posts) (refused_table (release i) q)
  refused_posts (frame c time m x bs) q = ap (λ (u : Table). u.posts) (refused_table (frame c time m x bs) q)
  refused_posts (tick c time) q = ap (λ (u : Table). u.posts) (refused_table (tick c time) q)

-- ---- the steps

found_stays : (r : Answer) (x : Step) (s : Steps) → is_refusal (fed r) ≡ true → if_found r x s ≡ s
found_stays (Ok n) x s = never
found_stays (Err w) x s = λ q. refl

done_stays : (r : Setting) (x : Step) (s : Steps) → is_refusal (set r) ≡ true → if_done r x s ≡ s
done_stays (Ok tt) x s = never
done_stays (Err w) x s = λ q. refl

-- 01: "A refused frame is part of no history"
pub refused_steps : (s : Steps) (a : Request) → is_refusal (reply01 s a) ≡ true → steps01 s a ≡ s
unfolding set_up_steps release_steps feed_steps
refused_steps s (setUp i c lim) = done_stays (set_up01 s i c lim) _ s
refused_steps s (release i) = done_stays (release01 s i) _ s
refused_steps s (frame c time m x bs) = found_stays (feed01 s c time (framing m x bs)) _ s
refused_steps s (tick c time) = found_stays (feed01 s c time ticking) _ s
