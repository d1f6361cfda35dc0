-- A post's step and its record, each with its second promise: it follows from the first by looking back.
use Prim.Native.Nat.{ℕ}
use mathlib.Core.Path.{◌≡◌, refl, ap, sym, subst, ◌∙◌}
use mathlib.Core.Bool.{false}
use Rattle.rule_limits.specs.declared.PlainLimits.{PlainLimits}
use Rattle.rules.specs.declared.Head.{Head}
use Rattle.rules.specs.declared.Post.{Post}
use Rattle.rules.specs.declared.AfterEvent.{AfterEvent}
use Rattle.rules.specs.declared.Record.{Record}
use Rattle.rules.specs.History.{History}
use Rattle.rules.specs.Times.{stamp_of, Unrolled}
use Rattle.rules.specs.Counts.{is_full}
use Rattle.rules.specs.Record.{head_of}
use Rattle.rules.specs.After.{after_tick, after_frame, post_record}
use Rattle.rules.specs.Right.{tick_at, frame_at, After01, AfterRight, RecordRight}
use Rattle.rules.proofs.Look.{tick_look, frame_look, stored_tick, stored_frame, record_look}

module _ (c : ℕ) (lim : PlainLimits) (h : History) (un : Unrolled h) (room : is_full h ≡ false) where
  tick-steps : (t : ℕ) → After01 c lim h (tick_at t h) (after_tick (head_of c lim h) t)
  tick-steps t = rw (tick_look c lim h t un room) (record { findings = refl; head = refl; post = stored_tick c lim h (stamp_of h t) })

  frame-steps : (t k raw : ℕ) → After01 c lim h (frame_at t k raw h) (after_frame (head_of c lim h) t k raw)
  frame-steps t k raw = rw (frame_look c lim h t k raw un room) (record { findings = refl; head = refl; post = stored_frame c lim h (stamp_of h t) k raw })

module _ (p : Head) (t : ℕ) {r : AfterEvent} where
  pub tick_both : r ≡ after_tick p t → (r ≡ after_tick p t) × AfterRight p (tick_at t) r
  tick_both e = (e, λ c lim h q un room. subst (After01 c lim h (tick_at t h)) (sym (e ∙ ap (λ (d : Head). after_tick d t) q)) (tick-steps c lim h un room t))

  pub frame_both : (k raw : ℕ) → r ≡ after_frame p t k raw → (r ≡ after_frame p t k raw) × AfterRight p (frame_at t k raw) r
  frame_both k raw e = (e, λ c lim h q un room. subst (After01 c lim h (frame_at t k raw h)) (sym (e ∙ ap (λ (d : Head). after_frame d t k raw) q)) (frame-steps c lim h un room t k raw))

pub record_both : (p : Post) {r : Record} → r ≡ post_record p → (r ≡ post_record p) × RecordRight p r
record_both p e = (e, λ c lim h q. e ∙ ap post_record q ∙ record_look c lim h)
