-- One request to posts whose clocks are moved, each channel's by a number of its own.
use Rattle.std.specs.Prelude.{Ok, Err}
use Prim.Native.Nat.{ℕ, ◌<◌}
use mathlib.Core.Path.{◌≡◌, refl, sym, ap, subst, ◌∙◌}
use mathlib.Core.List.{◌∷◌}
use mathlib.Core.Bool.{Bool, true, false}
use lib.Dec.{eqb, ltb}
use borrow.Author.Tests.{eqb-true, eqb-false, eq-eqb, ltb-true}
use Rattle.rule_limits.specs.declared.PlainLimits.{PlainLimits}
use Rattle.rules.specs.History.{Event, History}
use Rattle.rules.specs.Times.{Unrolled}
use Rattle.watch_rules.specs.Answer.{Answer}
use Rattle.watch_rules.specs.Setting.{Setting}
use Rattle.watch_rules.specs.Table.{post_count, is_channel, Arriving, framing, ticking, is_post}
use Rattle.watch_rules.specs.Steps as step
use Rattle.watch_rules.specs.Steps.{event, Steps, Standing, free, held, standing, holds_in, find_from, holder, answer_in, feed01, set_up01, is_held, release01, shown_in, look_up01, event_in, event_on, if_found, feed_steps, if_done, set_up_steps, release_steps, Apart, InTime}
use Rattle.watch_rules.specs.Run.{Request, setUp, release, frame, tick, set, fed, reply01, steps01}
use Rattle.watch_rules.proofs.Standings.{standing_set_up, standing_set_up_other, standing_release, standing_release_other, standing_event, standing_event_other, held_on, holder_holds, others_alike, find_same, alone}
use Rattle.watch_clock.specs.Moved.{on_clock, moved, moved_standing, moved_request, still_shown}
use Rattle.watch_clock.proofs.Moved.{moved_event, record_moved}
use Rattle.watch_clock.proofs.MovedAnswer.{event_moved, answer_moved}

module _ (by : ℕ → ℕ) where
  holds-moved : (x : Standing) (c : ℕ) → holds_in (moved_standing by x) c ≡ holds_in x c
  holds-moved free c = refl
  holds-moved (held d lim h) c = refl

  is-held-moved : (x : Standing) → is_held (moved_standing by x) ≡ is_held x
  is-held-moved free = refl
  is-held-moved (held c lim h) = refl

  -- the steps z are s by the moved clocks
  abbrev pub Moves : Steps → Steps → Type 0
  Moves s z = (i : ℕ) → i < post_count → standing i z ≡ moved_standing by (standing i s)

  module _ (s z : Steps) (moves : Moves s z) where
    same-holds : (c i : ℕ) → i < post_count → holds_in (standing i z) c ≡ holds_in (standing i s) c
    same-holds c i low = ap (λ (x : Standing). holds_in x c) (moves i low) ∙ holds-moved (standing i s) c

    same-holder : (c : ℕ) → holder z c ≡ holder s c
    unfolding holder
    same-holder c = find_same (λ i. holds_in (standing i z) c) (λ i. holds_in (standing i s) c) 0 post_count (λ i low high. same-holds c i high)

    same-setUp : (i c : ℕ) (lim : PlainLimits) → set_up01 z i c lim ≡ set_up01 s i c lim
    unfolding set_up01
    same-setUp i c lim = rw (others_alike z s i c (λ j low ne. same-holds c j low))

    same-release : (i : ℕ) → release01 z i ≡ release01 s i
    unfolding release01
    same-release i = go (is_post i) refl
      where
        go : (b : Bool) → is_post i ≡ b → release01 z i ≡ release01 s i
        go true e = rw (moves i (ltb-true i post_count e), is-held-moved (standing i s))
        go false e = rw e

    -- ---- after one step more

    after-setUp : (i c : ℕ) (lim : PlainLimits) → Moves (step.setUp i c lim ∷ s) (step.setUp i c lim ∷ z)
    after-setUp i c lim j low = go (eqb i j) refl
      where
        go : (b : Bool) → eqb i j ≡ b → standing j (step.setUp i c lim ∷ z) ≡ moved_standing by (standing j (step.setUp i c lim ∷ s))
        go true e = rw (eqb-true i j e, standing_set_up z j c lim, standing_set_up s j c lim)
        go false e = rw (standing_set_up_other z i c lim j e, standing_set_up_other s i c lim j e) (moves j low)

    after-release : (i : ℕ) → Moves (step.release i ∷ s) (step.release i ∷ z)
    after-release i j low = go (eqb i j) refl
      where
        go : (b : Bool) → eqb i j ≡ b → standing j (step.release i ∷ z) ≡ moved_standing by (standing j (step.release i ∷ s))
        go true e = rw (eqb-true i j e, standing_release z j, standing_release s j)
        go false e = rw (standing_release_other z i j e, standing_release_other s i j e) (moves j low)

    done-setUp : (i c : ℕ) (lim : PlainLimits) (r : Setting) → Moves (if_done r (step.setUp i c lim) s) (if_done r (step.setUp i c lim) z)
    done-setUp i c lim (Ok tt) = after-setUp i c lim
    done-setUp i c lim (Err w) = moves

    done-release : (i : ℕ) (r : Setting) → Moves (if_done r (step.release i) s) (if_done r (step.release i) z)
    done-release i (Ok tt) = after-release i
    done-release i (Err w) = moves

    module _ (apart : Apart s) (times : (i : ℕ) → i < post_count → InTime (standing i s)) where
      module _ (k c : ℕ) (lim : PlainLimits) (h : History) (low : k < post_count) (own : standing k s ≡ held c lim h) where
        own-moved : standing k z ≡ held c lim (moved (by c) h)
        own-moved = moves k low ∙ ap (moved_standing by) own

        after-event : (e : Event) → Moves (event c e ∷ s) (event c (moved_event (by c) h e) ∷ z)
        after-event e j lowj = go (eqb j k) refl
          where
            go : (b : Bool) → eqb j k ≡ b → standing j (event c (moved_event (by c) h e) ∷ z) ≡ moved_standing by (standing j (event c e ∷ s))
            go true q =
                rw (eqb-true j k q, standing_event z k c lim (moved (by c) h) (moved_event (by c) h e) own-moved, standing_event s k c lim h e own)
            go false q =
                let not-here : holds_in (standing j s) c ≡ false =
                alone s apart k j c low lowj (ap (λ (x : Standing). holds_in x c) own ∙ eq-eqb c c refl) (eqb-false j k q) in
                standing_event_other z c (moved_event (by c) h e) j (same-holds c j lowj ∙ not-here)
                ∙ moves j lowj
                ∙ ap (moved_standing by) (sym (standing_event_other s c e j not-here))

        found-event : (e : Event) (r : Answer) → Moves (if_found r (event c e) s) (if_found r (event c (moved_event (by c) h e)) z)
        found-event e (Ok n) = after-event e
        found-event e (Err w) = moves

        un-held : Unrolled h
        un-held = subst InTime own (times k low)

        heard-moved : (t : ℕ) (a : Arriving)
            → Moves (if_found (answer_in (held c lim h) t a) (event c (event_in h t (a lim))) s)
            (if_found (answer_in (held c lim (moved (by c) h)) (on_clock (by c) t) a) (event c (event_in (moved (by c) h) (on_clock (by c) t) (a lim))) z)
        heard-moved t a =
            rw (answer_moved (by c) h un-held c lim t a, event_moved (by c) h t (a lim))
            (found-event (event_in h t (a lim)) (answer_in (held c lim h) t a))

      -- an arrival's answer, and what is accepted of it
      module _ (c t : ℕ) (a : Arriving) where
        same-feed : feed01 z c (on_clock (by c) t) a ≡ feed01 s c t a
        unfolding feed01
        same-feed = go (is_channel c) (ltb (holder s c) post_count) refl refl
          where
            at_held : (lim : PlainLimits) (h : History) → holder s c < post_count → standing (holder s c) s ≡ held c lim h
                → answer_in (standing (holder s c) z) (on_clock (by c) t) a ≡ answer_in (standing (holder s c) s) t a
            at_held lim h low own = rw (own-moved (holder s c) c lim h low own, own) (answer_moved (by c) h (un-held (holder s c) c lim h low own) c lim t a)

            at-holder : holder s c < post_count → answer_in (standing (holder s c) z) (on_clock (by c) t) a ≡ answer_in (standing (holder s c) s) t a
            at-holder low = let o = held_on (standing (holder s c) s) c (holder_holds s c low) in at_held o.0 o.1 low o.2

            go : (p q : Bool) → is_channel c ≡ p → ltb (holder s c) post_count ≡ q → feed01 z c (on_clock (by c) t) a ≡ feed01 s c t a
            go false q e f = rw e
            go true false e f = rw (e, same-holder c, f)
            go true true e f = rw (e, same-holder c, f) (at-holder (ltb-true (holder s c) post_count f))

        -- what is accepted of it by the post i
        abbrev HeardMoves : ℕ → Type 0
        HeardMoves i =
            Moves (if_found (answer_in (standing i s) t a) (event c (event_on (standing i s) t a)) s)
            (if_found (answer_in (standing i z) (on_clock (by c) t) a) (event c (event_on (standing i z) (on_clock (by c) t) a)) z)

        feed-moves : Moves (feed_steps s c t a) (feed_steps z c (on_clock (by c) t) a)
        unfolding feed01 feed_steps
        feed-moves = go (is_channel c) (ltb (holder s c) post_count) refl refl
          where
            at_held : (lim : PlainLimits) (h : History) → holder s c < post_count → standing (holder s c) s ≡ held c lim h → HeardMoves (holder s c)
            at_held lim h low own = rw (own-moved (holder s c) c lim h low own, own) (heard-moved (holder s c) c lim h low own t a)

            at-holder : holder s c < post_count → HeardMoves (holder s c)
            at-holder low = let o = held_on (standing (holder s c) s) c (holder_holds s c low) in at_held o.0 o.1 low o.2

            go : (p q : Bool) → is_channel c ≡ p → ltb (holder s c) post_count ≡ q → Moves (feed_steps s c t a) (feed_steps z c (on_clock (by c) t) a)
            go false q e f = rw e moves
            go true false e f = rw (e, same-holder c, f) moves
            go true true e f = rw (e, same-holder c, f) (at-holder (ltb-true (holder s c) post_count f))

      pub same_reply : (a : Request) → reply01 z (moved_request by a) ≡ reply01 s a
      same_reply (setUp i c lim) = ap set (same-setUp i c lim)
      same_reply (release i) = ap set (same-release i)
      same_reply (frame c t m x bs) = ap fed (same-feed c t (framing m x bs))
      same_reply (tick c t) = ap fed (same-feed c t ticking)

      pub next_moves : (a : Request) → Moves (steps01 s a) (steps01 z (moved_request by a))
      unfolding set_up_steps release_steps
      next_moves (setUp i c lim) = rw (same-setUp i c lim) (done-setUp i c lim (set_up01 s i c lim))
      next_moves (release i) = rw (same-release i) (done-release i (release01 s i))
      next_moves (frame c t m x bs) = feed-moves c t (framing m x bs)
      next_moves (tick c t) = feed-moves c t ticking

      same-shown : (x : Standing) → InTime x → still_shown (shown_in (moved_standing by x)) ≡ still_shown (shown_in x)
      same-shown free un = refl
      same-shown (held c lim h) un = ap (λ (r : _). record { answer = Ok tt; shown = r }) (record_moved (by c) c lim h un)

      pub same_look_up : (i : ℕ) → still_shown (look_up01 z i) ≡ still_shown (look_up01 s i)
      unfolding look_up01
      same_look_up i = go (is_post i) refl
        where
          go : (b : Bool) → is_post i ≡ b → still_shown (look_up01 z i) ≡ still_shown (look_up01 s i)
          go true e =
              let low : i < post_count = ltb-true i post_count e in
              rw (e, moves i low) (same-shown (standing i s) (times i low))
          go false e = rw e
