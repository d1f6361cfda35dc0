-- 02, Req 12: ticks put in or taken out, with the same unrolled gaps between the kept events: every kept event keeps its findings, and the counts
-- differ by what those ticks were and found. Over any rules that read frames alone and find the same where all is as much later.
use Prim.Native.Nat.{ℕ, ◌+◌}
use native.Mathlib.Omega.{arith}
use mathlib.Core.Path.{◌≡◌, refl, sym, ap, ap₂, ◌∙◌}
use mathlib.Core.List.{List, [], ◌∷◌, map}
use lib.ListN.{length, length-map}
use Rattle.rule_limits.specs.declared.PlainLimits.{PlainLimits}
use Rattle.rules.specs.History.{History}
use Rattle.rules.specs.Times.{latest_time}
use Rattle.rules.specs.Rules.{Rule, rules01, bits_from, findings01}
use Rattle.rules.specs.Counts.{times_found, tallies_by, tallies_of}
use Rattle.watch_clock.specs.Later.{delay, delayed, Steady, AllSteady}
use Rattle.watch_clock.proofs.Delayed.{steady01, found_delayed, tallies_delayed}
use Rattle.watch_ticks.specs.Marks.{Mark, kept, extra, whole, without, extras, extras_found, extras_by, kept_of, found_of, judged, ReadsFrames, Every}
use Rattle.watch_ticks.specs.Gaps.{Alike}
use Rattle.watch_ticks.specs.Unticked.{plus}
use Rattle.watch_ticks.proofs.Frames.{read_frames}
use Rattle.watch_ticks.proofs.Marked.{kept_found, times_put, length_put}
use Rattle.watch_ticks.proofs.Gaps.{alike_delayed}

-- ---- 01's findings are what its rules find, as a number

judged_found : (lim : PlainLimits) (h : History) → judged lim h ≡ map (bits_from 1) (found_of rules01 lim h)
unfolding findings01
judged_found lim [] = refl
judged_found lim (e ∷ h) = ap (◌∷◌ (findings01 lim h e)) (judged_found lim h)

pub kept_map : {A B : Type 0} (f : A → B) (m : List Mark) (l : List A) → kept_of m (map f l) ≡ map f (kept_of m l)
kept_map f [] l = refl
kept_map f (kept e ∷ m) [] = refl
kept_map f (kept e ∷ m) (x ∷ l) = ap (◌∷◌ (f x)) (kept_map f m l)
kept_map f (extra t ∷ m) [] = refl
kept_map f (extra t ∷ m) (x ∷ l) = kept_map f m l

-- ---- two marked lists

module _ (lim : PlainLimits) where
  all-delayed : (d : ℕ) (rs : List Rule) → AllSteady rs → (h : History) → found_of rs lim (delayed d h) ≡ found_of rs lim h
  all-delayed d rs steady [] = refl
  all-delayed d rs steady (e ∷ h) = ap₂ ◌∷◌ (found_delayed d lim rs steady h e) (all-delayed d rs steady h)

  module _ (m n : List Mark) (alike : Alike m n) where
    -- what holds of a history however much later it is, holds of the one list's kept events as of the other's
    either : {A : Type 0} (f : History → A) → ((d : ℕ) (h : History) → f (delayed d h) ≡ f h) → f (without m) ≡ f (without n)
    either f same = sym (same (latest_time (without n)) (without m)) ∙ ap f (alike_delayed m n alike) ∙ same (latest_time (without m)) (without n)

    pub found_alike : (rs : List Rule) → Every ReadsFrames rs → AllSteady rs → kept_of m (found_of rs lim (whole m)) ≡ kept_of n (found_of rs lim (whole n))
    found_alike rs reads steady =
        kept_found lim rs reads m ∙ either (found_of rs lim) (λ d h. all-delayed d rs steady h) ∙ sym (kept_found lim rs reads n)

    -- "Every other event keeps its findings"
    pub kept_findings : kept_of m (judged lim (whole m)) ≡ kept_of n (judged lim (whole n))
    kept_findings = numbers m ∙ ap (map (bits_from 1)) (found_alike rules01 read_frames steady01) ∙ sym (numbers n)
      where
        numbers : (x : List Mark) → kept_of x (judged lim (whole x)) ≡ map (bits_from 1) (kept_of x (found_of rules01 lim (whole x)))
        numbers x = ap (kept_of x) (judged_found lim (whole x)) ∙ kept_map (bits_from 1) x (found_of rules01 lim (whole x))

    -- a rule finds something of as many kept events, and of what was put in besides
    pub times_alike : (f : Rule) → ReadsFrames f → Steady f → times_found f lim (whole m) + extras_found f lim n ≡ times_found f lim (whole n) + extras_found f lim m
    times_alike f reads steady =
        omega (arith, times_put lim f reads m, times_put lim f reads n, either (times_found f lim) (λ d h. ap head (tallies_delayed d lim (f ∷ []) (steady, tt) h)))
      where
        head : List ℕ → ℕ
        head [] = 0
        head (x ∷ l) = x

    tallies-by : (rs : List Rule) → Every ReadsFrames rs → AllSteady rs
        → plus (tallies_by rs lim (whole m)) (extras_by rs lim n) ≡ plus (tallies_by rs lim (whole n)) (extras_by rs lim m)
    tallies-by [] reads steady = refl
    tallies-by (f ∷ rs) reads steady = ap₂ ◌∷◌ (times_alike f reads.0 steady.0) (tallies-by rs reads.1 steady.1)

    -- "and tallies": finding by finding
    pub tallies_alike : plus (tallies_of lim (whole m)) (extras_by rules01 lim n) ≡ plus (tallies_of lim (whole n)) (extras_by rules01 lim m)
    unfolding tallies_of
    tallies_alike = tallies-by rules01 read_frames steady01

    -- and of what was accepted
    pub accepted_alike : length (whole m) + extras n ≡ length (whole n) + extras m
    accepted_alike = omega (arith, length_put m, length_put n, either length (λ d h. length-map h (delay d)))
