-- Ticks put in, and nothing else changed: every kept event has the findings that it has without them, and the counts are more by what those ticks found.
-- Over any rules that read frames alone.
use Prim.Native.Nat.{◌+◌}
use native.Mathlib.Omega.{arith}
use mathlib.Core.Path.{◌≡◌, refl, sym, ap, ap₂, ◌∙◌}
use mathlib.Core.List.{List, [], ◌∷◌}
use mathlib.Core.Bool.{Bool}
use lib.ListN.{length}
use Rattle.rule_limits.specs.declared.PlainLimits.{PlainLimits}
use Rattle.rule_asks.specs.Judgements.{bit}
use Rattle.rules.specs.History.{Event, frame, tick, History}
use Rattle.rules.specs.Rules.{Rule, found}
use Rattle.rules.specs.Counts.{times_found}
use Rattle.watch_ticks.specs.Marks.{Mark, kept, extra, whole, without, extras, extras_found, kept_of, found_of, frames, ReadsFrames, Every}

pub same_frames : (m : List Mark) → frames (whole m) ≡ frames (without m)
same_frames [] = refl
same_frames (kept (frame t k raw) ∷ m) = rw (same_frames m)
same_frames (kept (tick t) ∷ m) = same_frames m
same_frames (extra t ∷ m) = same_frames m

module _ (lim : PlainLimits) where
  rule-without : (f : Rule) → ReadsFrames f → (m : List Mark) (e : Event) → f lim (whole m) e ≡ f lim (without m) e
  rule-without f reads m e = sym (reads lim (whole m) e) ∙ ap (λ (h : History). f lim h e) (same_frames m) ∙ reads lim (without m) e

  found-without : (rs : List Rule) → Every ReadsFrames rs → (m : List Mark) (e : Event) → found rs lim (whole m) e ≡ found rs lim (without m) e
  found-without [] reads m e = refl
  found-without (f ∷ rs) reads m e = ap₂ ◌∷◌ (rule-without f reads.0 m e) (found-without rs reads.1 m e)

  -- each kept event keeps what it has
  pub kept_found : (rs : List Rule) → Every ReadsFrames rs → (m : List Mark) → kept_of m (found_of rs lim (whole m)) ≡ found_of rs lim (without m)
  kept_found rs reads [] = refl
  kept_found rs reads (kept e ∷ m) = ap₂ ◌∷◌ (found-without rs reads m e) (kept_found rs reads m)
  kept_found rs reads (extra t ∷ m) = kept_found rs reads m

  -- a tally is more by the put-in ticks of which its rule finds something
  pub times_put : (f : Rule) → ReadsFrames f → (m : List Mark) → times_found f lim (whole m) ≡ times_found f lim (without m) + extras_found f lim m
  times_put f reads [] = refl
  times_put f reads (kept e ∷ m) =
      let here : bit (f lim (whole m) e) 1 ≡ bit (f lim (without m) e) 1 = ap (λ (b : Bool). bit b 1) (rule-without f reads m e) in
      omega (arith, here, times_put f reads m)
  times_put f reads (extra t ∷ m) = omega (arith, times_put f reads m)

-- and the count of what was accepted by their number
pub length_put : (m : List Mark) → length (whole m) ≡ length (without m) + extras m
length_put [] = refl
length_put (kept e ∷ m) = omega (arith, length_put m)
length_put (extra t ∷ m) = omega (arith, length_put m)
