-- Demand 3, over any requests from the empty table, refused ones among them, newest first.
use Rattle.std.specs.Prelude.{Ok, Err}
use Prim.Native.Nat.{ℕ, ◌<◌}
use mathlib.Core.Path.{◌≡◌, refl, ap, ap₂, sym, subst, ◌∙◌}
use mathlib.Core.List.{List, [], ◌∷◌, reverse, reverse_aux}
use mathlib.Core.Bool.{Bool, true, false, cond, ◌&&◌, true≢false}
use lib.Dec.{ltb}
use lib.ListN.{get_or}
use borrow.Author.Tests.{eqb-true, eq-eqb, ltb-true, lt-ltb}
use Rattle.refusals.specs.declared.Refusal.{Refusal}
use Rattle.refusals.specs.declared.Refusal.TheVariants.{ChannelFree, Earlier, CountFull}
use Rattle.page_interfaces.specs.Foreign.{judge_for}
use Rattle.rule_limits.specs.declared.PlainLimits.{PlainLimits}
use Rattle.page_table.specs.Interfaces.{interface_of}
use Rattle.rules.specs.declared.Head.{Head}
use Rattle.rules.specs.declared.Post.{Post}
use Rattle.rules.specs.Record.{is_set}
use Rattle.rules.specs.History.{Event, History}
use Rattle.rules.specs.Times.{earlier_in}
use Rattle.rules.specs.Right.{tick_at, frame_at}
use Rattle.rules.specs.Rules.{findings01}
use Rattle.rules.specs.Counts.{is_full}
use Rattle.watch_rules.specs.declared.Table.{Table}
use Rattle.watch_rules.specs.Answer.{Answer}
use Rattle.watch_rules.specs.Setting.{Setting}
use Rattle.watch_rules.specs.Table.{post_count, is_channel, holds, no_post, post_in, Arriving, framing, ticking, one_refused, empty_table, is_post, look_up_of}
use Rattle.watch_rules.specs.Steps as step
use Rattle.watch_rules.specs.Steps.{event, Step, Steps, Standing, free, held, standing, holds_in, holder, other_holds, answer_in, feed01, set_up01, release01, look_up01, if_found, feed_steps, if_done, set_up_steps, release_steps, Apart, InRange, Kept}
use Rattle.watch_rules.specs.Run.{Request, setUp, release, frame, tick, set, fed, reply, next, run, reply01, steps01, accepted, after_refusal, is_refusal, concerns, Unheld, arrives_on, run_from, replies_from, accepted_from, replies01_from}
use Rattle.watch_rules.proofs.Standings.{standing_none, standing_set_up, standing_set_up_other, standing_release, standing_release_other, standing_event, standing_event_other, over_set_up, over_release, over_event, held_on, holder_holds, holder_is, others_alike}
use Rattle.watch_rules.proofs.Placed.{holds_look, post_at}
use Rattle.watch_rules.proofs.Right.{feed_right, set_up_right, release_right, look_up_right, empty_kept}
use Rattle.watch_rules.proofs.Refusing.{refused_table, refused_steps}

-- ---- one request

module _ (t : Table) (s : Steps) (kept : Kept t s) where
  next-kept : (a : Request) → Kept (next t a) (steps01 s a)
  next-kept (setUp i c lim) = (set_up_right t s i c lim kept).kept
  next-kept (release i) = (release_right t s i kept).kept
  next-kept (frame c time m x bs) = (feed_right t s c time (framing m x bs) kept).kept
  next-kept (tick c time) = (feed_right t s c time ticking kept).kept

  reply-right : (a : Request) → reply t a ≡ reply01 s a
  reply-right (setUp i c lim) = ap set (set_up_right t s i c lim kept).answer
  reply-right (release i) = ap set (release_right t s i kept).answer
  reply-right (frame c time m x bs) = ap fed (feed_right t s c time (framing m x bs) kept).answer
  reply-right (tick c time) = ap fed (feed_right t s c time ticking kept).answer

-- ---- any requests

-- 01: "A table is always the empty one or one that these operations left": it stands for the accepted requests
pub run_kept : (rs : List Request) → Kept (run rs) (accepted rs)
unfolding run accepted
run_kept [] = empty_kept
run_kept (a ∷ rs) = next-kept (run rs) (accepted rs) (run_kept rs) a

-- "each accepted event's findings .. are what 01's rules give when read afresh", and so is each other reply
pub every_answer : (rs : List Request) (a : Request) → reply (run rs) a ≡ reply01 (accepted rs) a
every_answer rs a = reply-right (run rs) (accepted rs) (run_kept rs) a

-- "and each post's record"
pub every_record : (rs : List Request) (i : ℕ) → look_up_of (run rs) i ≡ look_up01 (accepted rs) i
every_record rs i = look_up_right (run rs) (accepted rs) i (run_kept rs)

module _ (rs : List Request) (i c : ℕ) (lim : PlainLimits) (h : History) (low : i < post_count) (own : standing i (accepted rs) ≡ held c lim h) where
  pub feed_own : (t : ℕ) (a : Arriving) → feed01 (accepted rs) c t a ≡ answer_in (held c lim h) t a
  unfolding feed01
  feed_own t a =
      let has : holds_in (standing i (accepted rs)) c ≡ true = ap (λ (x : Standing). holds_in x c) own ∙ eq-eqb c c refl in
      let range : InRange (held c lim h) = subst InRange own ((run_kept rs).ranges i low) in
      rw (holder_is (accepted rs) (run_kept rs).apart i c low has, lt-ltb i post_count low, own, range.0)

  -- The same for the post that holds the channel, over its limits and its own history:
  -- 2 where the time is earlier than its latest, else the findings of 01's rules for the event where its time puts it,
  -- and 25 where the history has no room for one event more.
  pub own_tick : (t : ℕ) → reply (run rs) (tick c t) ≡ fed (cond (earlier_in h t) (Err Earlier) (cond (is_full h) (Err CountFull) (Ok (findings01 lim h (tick_at t h)))))
  own_tick t = every_answer rs (tick c t) ∙ ap fed (feed_own t ticking)

  pub own_frame : (t m : ℕ) (x : Bool) (bs : List ℕ) (k n : ℕ) → judge_for (interface_of lim.interface) m x bs ≡ Ok (k, n)
      → reply (run rs) (frame c t m x bs) ≡ fed (cond (earlier_in h t) (Err Earlier) (cond (is_full h) (Err CountFull) (Ok (findings01 lim h (frame_at t k n h)))))
  own_frame t m x bs k n e = every_answer rs (frame c t m x bs) ∙ ap fed (feed_own t (framing m x bs) ∙ rw e)

  -- and for a frame that its reader refuses
  pub own_unread : (t m : ℕ) (x : Bool) (bs : List ℕ) (w : Refusal) → judge_for (interface_of lim.interface) m x bs ≡ Err w
      → reply (run rs) (frame c t m x bs) ≡ fed (cond (earlier_in h t) (Err Earlier) (Err w))
  own_unread t m x bs w e = every_answer rs (frame c t m x bs) ∙ ap fed (feed_own t (framing m x bs) ∙ rw e)

  -- 02, Req 08: in time and readable, it gets 25 where its post's count is the largest, and the history does not grow (`refused_nothing`)
  pub full_tick : (t : ℕ) → earlier_in h t ≡ false → is_full h ≡ true → reply (run rs) (tick c t) ≡ fed (Err CountFull)
  full_tick t late full = own_tick t ∙ rw (late, full)

  pub full_frame : (t m : ℕ) (x : Bool) (bs : List ℕ) (k n : ℕ) → judge_for (interface_of lim.interface) m x bs ≡ Ok (k, n) → earlier_in h t ≡ false → is_full h ≡ true
      → reply (run rs) (frame c t m x bs) ≡ fed (Err CountFull)
  full_frame t m x bs k n e late full = own_frame t m x bs k n e ∙ rw (late, full)

-- ---- a refused request

-- 01: "A refusal carries its number only; table, record .. stay as they were. A refused frame is part of no history"
-- 02, Req 08: the table counts a refused frame or tick
pub refused_nothing : (rs : List Request) (a : Request) → is_refusal (reply (run rs) a) ≡ true → (run (a ∷ rs) ≡ after_refusal (run rs) a) × (accepted (a ∷ rs) ≡ accepted rs)
unfolding run accepted
refused_nothing rs a q = (refused_table (run rs) a q, refused_steps (accepted rs) a (sym (ap is_refusal (every_answer rs a)) ∙ q))

-- ---- only a post of the table is ever set up

abbrev InTable : ℕ → Standing → Type 0
InTable i free = Unit {0}
InTable i (held c lim h) = i < post_count

module _ (s : Steps) (i : ℕ) (was : InTable i (standing i s)) where
  low-set : (k c : ℕ) (lim : PlainLimits) → InTable i (standing i (set_up_steps s k c lim))
  unfolding set_up_steps set_up01
  low-set k c lim = go (is_post k) refl
    where
      done : is_post k ≡ true → (r : Setting) → InTable i (standing i (if_done r (step.setUp k c lim) s))
      done post (Ok tt) = over_set_up s (InTable i) i k c lim (λ e. subst (λ (j : ℕ). j < post_count) e (ltb-true k post_count post)) (λ ne. was)
      done post (Err w) = was

      go : (b : Bool) → is_post k ≡ b → InTable i (standing i (set_up_steps s k c lim))
      go true e = done e (set_up01 s k c lim)
      go false e = rw e was

  low-done : (r : Setting) (k : ℕ) → InTable i (standing i (if_done r (step.release k) s))
  low-done (Ok tt) k = over_release s (InTable i) i k tt was
  low-done (Err w) k = was

  low-found : (r : Answer) (c : ℕ) (e : Event) → InTable i (standing i (if_found r (event c e) s))
  low-found (Ok n) c e = over_event s (InTable i) i c e (λ lim h low. low) was
  low-found (Err w) c e = was

  low-next : (a : Request) → InTable i (standing i (steps01 s a))
  unfolding release_steps feed_steps
  low-next (setUp k c lim) = low-set k c lim
  low-next (release k) = low-done (release01 s k) k
  low-next (frame c time m x bs) = low-found (feed01 s c time (framing m x bs)) c _
  low-next (tick c time) = low-found (feed01 s c time ticking) c _

in_table : (rs : List Request) (i : ℕ) → InTable i (standing i (accepted rs))
unfolding accepted
in_table [] i = rw (standing_none i) tt
in_table (a ∷ rs) i = low-next (accepted rs) i (in_table rs i) a

-- so its post is the one that is found by its channel
holder_own : (rs : List Request) (i c : ℕ) (lim : PlainLimits) (h : History) → standing i (accepted rs) ≡ held c lim h → holder (accepted rs) c ≡ i
holder_own rs i c lim h own =
    holder_is (accepted rs) (run_kept rs).apart i c (subst (InTable i) own (in_table rs i)) (ap (λ (x : Standing). holds_in x c) own ∙ eq-eqb c c refl)

-- ---- a post's standing, request by request: a refused one adds nothing, one about another post neither (`others_standing`),
-- and an accepted one of its own this

-- 01: "The table starts with no post set up."
pub counted_none : (i : ℕ) → standing i (accepted []) ≡ free
unfolding accepted
counted_none i = standing_none i

module _ (rs : List Request) (i : ℕ) where
  -- 01: "Setting up a post again .. starts an empty history."
  pub counted_set_up : (c : ℕ) (lim : PlainLimits) → reply (run rs) (setUp i c lim) ≡ set (Ok tt) → standing i (accepted (setUp i c lim ∷ rs)) ≡ held c lim []
  unfolding accepted set_up_steps
  counted_set_up c lim q =
      let z : set_up01 (accepted rs) i c lim ≡ Ok tt = cc (every_answer rs (setUp i c lim)) in
      rw z (standing_set_up (accepted rs) i c lim)

  -- 01: "Release frees the channel and drops the record."
  pub counted_release : reply (run rs) (release i) ≡ set (Ok tt) → standing i (accepted (release i ∷ rs)) ≡ free
  unfolding accepted release_steps
  counted_release q =
      let z : release01 (accepted rs) i ≡ Ok tt = cc (every_answer rs (release i)) in
      rw z (standing_release (accepted rs) i)

  module _ (c : ℕ) (lim : PlainLimits) (h : History) (own : standing i (accepted rs) ≡ held c lim h) (t found : ℕ) where
    pub counted_tick : reply (run rs) (tick c t) ≡ fed (Ok found) → standing i (accepted (tick c t ∷ rs)) ≡ held c lim (tick_at t h ∷ h)
    unfolding accepted feed_steps
    counted_tick q =
        let z : feed01 (accepted rs) c t ticking ≡ Ok found = cc (every_answer rs (tick c t)) in
        rw (z, holder_own rs i c lim h own, own) (standing_event (accepted rs) i c lim h (tick_at t h) own)

    pub counted_frame : (m : ℕ) (x : Bool) (bs : List ℕ) (k n : ℕ) → judge_for (interface_of lim.interface) m x bs ≡ Ok (k, n) → reply (run rs) (frame c t m x bs) ≡ fed (Ok found)
        → standing i (accepted (frame c t m x bs ∷ rs)) ≡ held c lim (frame_at t k n h ∷ h)
    unfolding accepted feed_steps
    counted_frame m x bs k n e q =
        let z : feed01 (accepted rs) c t (framing m x bs) ≡ Ok found = cc (every_answer rs (frame c t m x bs)) in
        rw (z, holder_own rs i c lim h own, own, e) (standing_event (accepted rs) i c lim h (frame_at t k n h) own)

-- ---- a request about another post

module _ (s : Steps) (j : ℕ) where
  done-other : (r : Setting) (x : Step) → standing j (x ∷ s) ≡ standing j s → standing j (if_done r x s) ≡ standing j s
  done-other (Ok tt) x q = q
  done-other (Err w) x q = refl

  found-other : (r : Answer) (x : Step) → standing j (x ∷ s) ≡ standing j s → standing j (if_found r x s) ≡ standing j s
  found-other (Ok n) x q = q
  found-other (Err w) x q = refl

  steps-other : (a : Request) → concerns s a j ≡ false → standing j (steps01 s a) ≡ standing j s
  unfolding set_up_steps release_steps feed_steps
  steps-other (setUp i c lim) q = done-other (set_up01 s i c lim) _ (standing_set_up_other s i c lim j q)
  steps-other (release i) q = done-other (release01 s i) _ (standing_release_other s i j q)
  steps-other (frame c time m x bs) q = found-other (feed01 s c time (framing m x bs)) _ (standing_event_other s c _ j q)
  steps-other (tick c time) q = found-other (feed01 s c time ticking) _ (standing_event_other s c _ j q)

-- no request about one post changes another's history, channel or limits
pub others_standing : (rs : List Request) (a : Request) (j : ℕ) → concerns (accepted rs) a j ≡ false → standing j (accepted (a ∷ rs)) ≡ standing j (accepted rs)
unfolding accepted
others_standing rs a j q = steps-other (accepted rs) j a q

look_up_alike : (s z : Steps) (i : ℕ) → standing i s ≡ standing i z → look_up01 s i ≡ look_up01 z i
unfolding look_up01
look_up_alike s z i same = rw same

-- "No step on one post changes another's record"
pub others_record : (rs : List Request) (a : Request) (j : ℕ) → concerns (accepted rs) a j ≡ false → look_up_of (run (a ∷ rs)) j ≡ look_up_of (run rs) j
others_record rs a j q = every_record (a ∷ rs) j ∙ look_up_alike (accepted (a ∷ rs)) (accepted rs) j (others_standing rs a j q) ∙ sym (every_record rs j)

-- ---- a channel that nobody holds

-- nobody holds a channel above 31
pub no_channel : (rs : List Request) (c : ℕ) → is_channel c ≡ false → Unheld (accepted rs) c
no_channel rs c q i h = go (holds_in (standing i (accepted rs)) c) refl
  where
    go : (b : Bool) → holds_in (standing i (accepted rs)) c ≡ b → b ≡ false
    go false e = refl
    go true e =
        let o = held_on (standing i (accepted rs)) c e in
        let range : InRange (held c o.0 o.1) = subst InRange o.2 ((run_kept rs).ranges i h) in
        absurd (true≢false (sym range.0 ∙ q))

free_answer : (s : Steps) (c : ℕ) → Unheld s c → (t : ℕ) (a : Arriving) → feed01 s c t a ≡ Err ChannelFree
unfolding feed01
free_answer s c unheld t a = go (is_channel c) (ltb (holder s c) post_count) refl
  where
    go : (p q : Bool) → ltb (holder s c) post_count ≡ q → cond (p && q) (answer_in (standing (holder s c) s) t a) (Err ChannelFree) ≡ Err ChannelFree
    go false q e = refl
    go true false e = refl
    go true true e =
        let h : holder s c < post_count = ltb-true (holder s c) post_count e in
        absurd (true≢false (sym (holder_holds s c h) ∙ unheld (holder s c) h))

-- A frame or tick on a channel that nobody holds is refused with 1 and changes nothing but the count of those refused.
-- 01: "channel above 31, or held by no post"
pub nobody_holds : (rs : List Request) (c : ℕ) → Unheld (accepted rs) c → (a : Request) → arrives_on c a ≡ true
    → (reply (run rs) a ≡ fed (Err ChannelFree)) × (run (a ∷ rs) ≡ one_refused (run rs))
nobody_holds rs c unheld a q =
    let z : reply (run rs) a ≡ fed (Err ChannelFree) = every_answer rs a ∙ free a q in
    (z, (refused_nothing rs a (ap is_refusal z)).0 ∙ counts a q)
  where
    counts : (x : Request) → arrives_on c x ≡ true → after_refusal (run rs) x ≡ one_refused (run rs)
    counts (setUp i d lim) e = absurd (true≢false (sym e))
    counts (release i) e = absurd (true≢false (sym e))
    counts (frame d time m x bs) e = refl
    counts (tick d time) e = refl

    free : (x : Request) → arrives_on c x ≡ true → reply01 (accepted rs) x ≡ fed (Err ChannelFree)
    free (setUp i d lim) e = absurd (true≢false (sym e))
    free (release i) e = absurd (true≢false (sym e))
    free (frame d time m x bs) e = rw (eqb-true d c e) (ap fed (free_answer (accepted rs) c unheld time (framing m x bs)))
    free (tick d time) e = rw (eqb-true d c e) (ap fed (free_answer (accepted rs) c unheld time ticking))

-- ---- no channel is held twice

-- 01: "No channel is ever held by two posts."
pub one_holder : (rs : List Request) → Apart (accepted rs)
one_holder rs = (run_kept rs).apart

used_holds : (p : Head) (c : ℕ) → is_set p.used ≡ true → p.channel ≡ c → holds p c ≡ true
used_holds p c used on = rw (used, eq-eqb p.channel c on)

holding : (rs : List Request) (i c : ℕ) → i < post_count → is_set (post_in (run rs) i).head.used ≡ true → (post_in (run rs) i).head.channel ≡ c → holds_in (standing i (accepted rs)) c ≡ true
holding rs i c h used on =
    sym (holds_look (standing i (accepted rs)) c)
    ∙ ap (λ (p : Post). holds p.head c) (sym (ap (λ (ps : List Post). get_or ps i no_post) (run_kept rs).posts ∙ post_at (accepted rs) i h))
    ∙ used_holds (post_in (run rs) i).head c used on

-- the same of the table itself
pub one_place : (rs : List Request) (i j : ℕ) → i < post_count → j < post_count → is_set (post_in (run rs) i).head.used ≡ true → is_set (post_in (run rs) j).head.used ≡ true
    → (post_in (run rs) i).head.channel ≡ (post_in (run rs) j).head.channel → i ≡ j
unfolding Apart
one_place rs i j hi hj used used' same =
    one_holder rs i j (post_in (run rs) j).head.channel hi hj (holding rs i (post_in (run rs) j).head.channel hi used same) (holding rs j (post_in (run rs) j).head.channel hj used' refl)

-- ---- independence: "Of the answers about a post only a set-up's refusal may depend on other posts, and only on the channels they hold"

release_alike : (s z : Steps) (i : ℕ) → standing i s ≡ standing i z → release01 s i ≡ release01 z i
unfolding release01
release_alike s z i same = rw same

both : (rs qs : List Request) (a : Request) → reply01 (accepted rs) a ≡ reply01 (accepted qs) a → reply (run rs) a ≡ reply (run qs) a
both rs qs a e = every_answer rs a ∙ e ∙ sym (every_answer qs a)

-- after two runs in which post i has the same channel, limits and history
module _ (rs qs : List Request) (i : ℕ) (same : standing i (accepted rs) ≡ standing i (accepted qs)) where
  pub alike_record : look_up_of (run rs) i ≡ look_up_of (run qs) i
  alike_record = every_record rs i ∙ look_up_alike (accepted rs) (accepted qs) i same ∙ sym (every_record qs i)

  pub alike_release : reply (run rs) (release i) ≡ reply (run qs) (release i)
  alike_release = both rs qs (release i) (ap set (release_alike (accepted rs) (accepted qs) i same))

  pub alike_arrival : i < post_count → (c : ℕ) → holds_in (standing i (accepted rs)) c ≡ true → (a : Request) → arrives_on c a ≡ true → reply (run rs) a ≡ reply (run qs) a
  alike_arrival low c q a e = go (held_on (standing i (accepted rs)) c q) a e
    where
      answers : (o : (lim : PlainLimits) × (h : History) × (standing i (accepted rs) ≡ held c lim h)) (t : ℕ) (x : Arriving)
          → feed01 (accepted rs) c t x ≡ feed01 (accepted qs) c t x
      answers o t x = feed_own rs i c o.0 o.1 low o.2 t x ∙ sym (feed_own qs i c o.0 o.1 low (sym same ∙ o.2) t x)

      go : (lim : PlainLimits) × (h : History) × (standing i (accepted rs) ≡ held c lim h) → (x : Request) → arrives_on c x ≡ true → reply (run rs) x ≡ reply (run qs) x
      go o (setUp k d lim) e' = absurd (true≢false (sym e'))
      go o (release k) e' = absurd (true≢false (sym e'))
      go o (frame d time m x bs) e' =
          rw (eqb-true d c e') (both rs qs (frame c time m x bs) (ap fed (answers o time (framing m x bs))))
      go o (tick d time) e' =
          rw (eqb-true d c e') (both rs qs (tick c time) (ap fed (answers o time ticking)))

set_up_alike : (s z : Steps) (i c : ℕ) (lim : PlainLimits) → other_holds s i c 0 post_count ≡ other_holds z i c 0 post_count → set_up01 s i c lim ≡ set_up01 z i c lim
unfolding set_up01
set_up_alike s z i c lim same = rw same

module _ (rs qs : List Request) (i c : ℕ) where
  pub alike_set_up : other_holds (accepted rs) i c 0 post_count ≡ other_holds (accepted qs) i c 0 post_count
      → (lim : PlainLimits) → reply (run rs) (setUp i c lim) ≡ reply (run qs) (setUp i c lim)
  alike_set_up same lim = both rs qs (setUp i c lim) (ap set (set_up_alike (accepted rs) (accepted qs) i c lim same))

  -- so that it suffices that each other post holds the channel after both runs or after neither
  pub alike_channels : ((j : ℕ) → j < post_count → (j ≡ i → ⊥) → holds_in (standing j (accepted rs)) c ≡ holds_in (standing j (accepted qs)) c)
      → (lim : PlainLimits) → reply (run rs) (setUp i c lim) ≡ reply (run qs) (setUp i c lim)
  alike_channels agree lim = alike_set_up (others_alike (accepted rs) (accepted qs) i c agree) lim

-- ---- the same in the order in which requests come, oldest first

run_on : (later rs : List Request) → run_from (run rs) later ≡ run (reverse_aux later rs)
unfolding run
run_on [] rs = refl
run_on (a ∷ later) rs = run_on later (a ∷ rs)

accepted_on : (later rs : List Request) → accepted_from (accepted rs) later ≡ accepted (reverse_aux later rs)
unfolding accepted
accepted_on [] rs = refl
accepted_on (a ∷ later) rs = accepted_on later (a ∷ rs)

replies_on : (later : List Request) (t : Table) (s : Steps) → Kept t s → replies_from t later ≡ replies01_from s later
replies_on [] t s kept = refl
replies_on (a ∷ later) t s kept = ap₂ ◌∷◌ (reply-right t s kept a) (replies_on later (next t a) (steps01 s a) (next-kept t s kept a))

-- the table
pub in_order : (asked : List Request) → run_from empty_table asked ≡ run (reverse asked)
unfolding run
in_order asked = run_on asked []

-- the accepted requests
pub accepted_in_order : (asked : List Request) → accepted_from [] asked ≡ accepted (reverse asked)
unfolding accepted
accepted_in_order asked = accepted_on asked []

-- each reply in its turn, and each record at the end
pub replies_in_order : (asked : List Request) → replies_from empty_table asked ≡ replies01_from [] asked
replies_in_order asked = replies_on asked empty_table [] empty_kept

pub records_in_order : (asked : List Request) (i : ℕ) → look_up_of (run_from empty_table asked) i ≡ look_up01 (accepted_from [] asked) i
records_in_order asked i = rw (in_order asked, accepted_in_order asked) (every_record (reverse asked) i)
