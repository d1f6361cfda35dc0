-- 02, Req 12, of the operations' own answers: of two runs of requests in which a post's accepted events differ in ticks alone, and of a run in which a post
-- ticks often enough.
use Rattle.std.specs.Prelude.{Ok}
use Prim.Native.Nat.{ℕ, ◌+◌, ◌%◌, ◌<◌}
use native.Mathlib.Omega.{arith}
use mathlib.Core.Path.{◌≡◌, refl, sym, ap, subst, ◌∙◌}
use mathlib.Core.List.{List, [], ◌∷◌, map}
use mathlib.Core.Bool.{Bool, true, false}
use borrow.Author.Tests.{lt-ltb}
use Rattle.rule_limits.specs.declared.PlainLimits.{PlainLimits}
use Rattle.rules.specs.History.{Event, History, Said}
use Rattle.rules.specs.Times.{Unrolled}
use Rattle.rules.specs.Rules.{rules01, f1, f2, f3, f4, f5, f6, f7, f8, f9, f10, f11, f12, found, bits_from, findings01}
use Rattle.rules.specs.Record.{record_as_of, record_of}
use Rattle.watch_rules.specs.Answer.{Answer}
use Rattle.watch_rules.specs.Table.{post_count, look_up_of}
use Rattle.watch_rules.specs.Steps.{held, standing, InTime, look_up01}
use Rattle.watch_rules.specs.Run.{Request, run, accepted}
use Rattle.watch_rules.proofs.Demand.{run_kept, every_record}
use Rattle.watch_clock.specs.Differences.{said}
use Rattle.watch_ticks.specs.Marks.{Mark, whole, without, extras, extras_by, kept_of, judged}
use Rattle.watch_ticks.specs.Gaps.{gaps, as_received, Alike}
use Rattle.watch_ticks.specs.Unticked.{unticked, plus}
use Rattle.watch_ticks.specs.Silence.{Silent, Told, Some}
use Rattle.watch_ticks.specs.Silence as some
use Rattle.watch_ticks.specs.Answers.{answers_to, SomeAnswer, here, there, HasF1}
use Rattle.watch_ticks.proofs.Alike.{kept_map, kept_findings, tallies_alike, accepted_alike}
use Rattle.watch_ticks.proofs.Unticked.{record_alike}
use Rattle.watch_ticks.proofs.Silence.{silence_told}
use Rattle.watch_ticks.proofs.Answers.{answers_judged}

module _ (rs : List Request) (i c : ℕ) (lim : PlainLimits) (h : History) (low : i < post_count) (own : standing i (accepted rs) ≡ held c lim h) where
  -- a post's history was accepted whole, and its record is read off it
  in_time : Unrolled h
  in_time = subst InTime own ((run_kept rs).times i low)

  shown : look_up_of (run rs) i ≡ record { answer = Ok tt; shown = record_of c lim h }
  unfolding look_up01
  shown = every_record rs i ∙ rw (lt-ltb i post_count low, own)

-- ---- ticks put in or taken out

module _ (rs qs : List Request) (i c : ℕ) (lim : PlainLimits) (m n : List Mark) (low : i < post_count)
    (one : standing i (accepted rs) ≡ held c lim (whole m)) (other : standing i (accepted qs) ≡ held c lim (whole n)) where
  module _ (same : said (without m) ≡ said (without n)) (between : gaps (without m) ≡ gaps (without n)) where
    alike : Alike m n
    alike = record { one = in_time rs i c lim (whole m) low one; other = in_time qs i c lim (whole n) low other; same = same; between = between }

    -- the kept events got the same answers
    pub answers_alike : kept_of m (answers_to i rs) ≡ kept_of n (answers_to i qs)
    answers_alike = side rs m one ∙ ap (map Ok) (kept_findings lim m n alike) ∙ sym (side qs n other)
      where
        side : (ps : List Request) (x : List Mark) → standing i (accepted ps) ≡ held c lim (whole x) → kept_of x (answers_to i ps) ≡ map Ok (kept_of x (judged lim (whole x)))
        side ps x own = ap (kept_of x) (answers_judged ps i c lim (whole x) low own) ∙ kept_map Ok x (judged lim (whole x))

    -- the record counts what was put in, and what was found of it
    pub counts_alike : ((look_up_of (run rs) i).shown.accepted + extras n ≡ (look_up_of (run qs) i).shown.accepted + extras m)
        × (plus (look_up_of (run rs) i).shown.tallies (extras_by rules01 lim n) ≡ plus (look_up_of (run qs) i).shown.tallies (extras_by rules01 lim m))
    unfolding record_as_of
    counts_alike = rw (shown rs i c lim (whole m) low one, shown qs i c lim (whole n) low other) (accepted_alike lim m n alike, tallies_alike lim m n alike)

  -- and the rest of the record is the same, where the kept events have the same times as they were received
  pub shown_alike : map as_received (without m) ≡ map as_received (without n)
      → ((look_up_of (run rs) i).answer ≡ (look_up_of (run qs) i).answer) × (unticked (look_up_of (run rs) i).shown ≡ unticked (look_up_of (run qs) i).shown)
  shown_alike same = rw (shown rs i c lim (whole m) low one, shown qs i c lim (whole n) low other) (refl, record_alike m n same c lim)

-- ---- a silence

even : (w : ℕ) (bs : List Bool) → bits_from (w + w) bs % 2 ≡ 0
even w [] = refl
even w (true ∷ bs) = omega (arith, even (w + w) bs)
even w (false ∷ bs) = omega (arith, even (w + w) bs)

f1_bit : (lim : PlainLimits) (h : History) (e : Event) → f1 lim h e ≡ true → findings01 lim h e % 2 ≡ 1
unfolding findings01
f1_bit lim h e q = rw q (omega (arith, even 1 (found (f2 ∷ f3 ∷ f4 ∷ f5 ∷ f6 ∷ f7 ∷ f8 ∷ f9 ∷ f10 ∷ f11 ∷ f12 ∷ []) lim h e)))

module _ (lim : PlainLimits) (o : Said) (b : ℕ) where
  abbrev TellsOf : History → Event → Answer → Type 0
  TellsOf h e w = Told lim o b h e × HasF1 w

  told-answered : (h : History) → Some (Told lim o b) h → SomeAnswer TellsOf h (map Ok (judged lim h))
  told-answered [] x' = elim x' [ ]
  told-answered (e ∷ h) (some.here t) = here (t, f1_bit lim h e t.finds)
  told-answered (e ∷ h) (some.there more) = there (told-answered h more)

  pub silence_answered : (rs : List Request) (i c : ℕ) (h : History) → i < post_count → standing i (accepted rs) ≡ held c lim h → Some (Silent lim o b) h
      → SomeAnswer (λ k e w. Told lim o b k e × HasF1 w) h (answers_to i rs)
  silence_answered rs i c h low own silent =
      subst (SomeAnswer TellsOf h) (sym (answers_judged rs i c lim h low own)) (told-answered h (silence_told lim o b h (in_time rs i c lim h low own) silent))
