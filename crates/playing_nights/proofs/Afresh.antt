-- Each line is what 01's rules give when read afresh over the accepted steps.
use Rattle.std.specs.Prelude.{Ok, Err}
use Prim.Native.Nat.{ℕ, ◌+◌, ◌^◌, ◌≤◌, ◌<◌}
use mathlib.Core.Path.{◌≡◌, refl, ap, ap₂, subst, ◌∙◌}
use mathlib.Core.List.{List, [], ◌∷◌}
use lib.ListN.{length}
use Rattle.log_records.specs.Record.{Rec}
use Rattle.log_records.specs.Reading.{Log, log_of, records_in}
use Rattle.watch_rules.specs.declared.Table.{Table}
use Rattle.watch_rules.specs.Answer.{Answer}
use Rattle.watch_rules.specs.Setting.{Setting}
use Rattle.watch_rules.specs.Table.{place_of, empty_table, set_up_of}
use Rattle.watch_rules.specs.Steps.{Steps, feed_steps, set_up_steps, Kept}
use Rattle.watch_rules.proofs.Placed.{place_look}
use Rattle.rules.specs.declared.Post.{Post}
use Rattle.watch_rules.proofs.Right.{feed_right, set_up_right, empty_kept}
use Rattle.playing_line.specs.Lines.{line_room, line_of}
use Rattle.playing_nights.specs.Fed.{time_of, channel_of, arrival_in, fed_with, line_for, lines_from, line01, lines01_from}
use Rattle.playing_nights.specs.Night.{Wanted, Ready, ready, stopped, on_setting, prepared_from, prepared01, ending_of, night_of, night01, stop, run_of}
use Rattle.playing_nights.specs.declared.Played.TheVariants.{SetUp}
use Rattle.refusals.specs.declared.Refusal.{Refusal}
use Rattle.playing_nights.proofs.Nights.{lines}

-- ---- records

module _ (t : Table) (s : Steps) (kept : Kept t s) where
  -- the table t stands for the accepted steps s
  pub line_01 : (n : ℕ) (x : Rec) → line_for t n x ≡ line01 s n x
  line_01 n x =
      ap₂ (λ (i : ℕ) (a : Answer). line_of n i a)
      (ap (λ (ps : List Post). place_of ps (channel_of x)) kept.posts ∙ place_look s (channel_of x))
      (feed_right t s (channel_of x) (time_of x) (arrival_in x) kept).answer

lines_kept : (xs : List Rec) (t : Table) (s : Steps) (n : ℕ) → Kept t s → lines_from t n xs ≡ lines01_from s n xs
unfolding lines_from lines01_from
lines_kept [] t s n kept = refl
lines_kept (x ∷ xs) t s n kept =
    ap₂ ◌∷◌ (line_01 t s kept (n + 1) x)
    (lines_kept xs (fed_with t x).table (feed_steps s (channel_of x) (time_of x) (arrival_in x)) (n + 1) (feed_right t s (channel_of x) (time_of x) (arrival_in x) kept).kept)

-- ---- set-ups

abbrev Alike : Ready Table → Ready Steps → Type 0
Alike (ready t) (ready s) = Kept t s
Alike (ready t) (stopped w) = ⊥
Alike (stopped w) (ready s) = ⊥
Alike (stopped v) (stopped w) = v ≡ w

setting_alike : (a b : Setting) (x : Ready Table) (y : Ready Steps) → a ≡ b → Alike x y → Alike (on_setting a x) (on_setting b y)
setting_alike a b x y e h = subst (λ (z : Setting). Alike (on_setting a x) (on_setting z y)) e (go a)
  where
    go : (a : Setting) → Alike (on_setting a x) (on_setting a y)
    go (Ok tt) = h
    go (Err w) = refl

prepared_alike : (us : List Wanted) (t : Table) (s : Steps) → Kept t s → Alike (prepared_from t us) (prepared01 s us)
unfolding prepared_from prepared01
prepared_alike [] t s kept = kept
prepared_alike (u ∷ us) t s kept =
    let r = set_up_right t s u.0 u.1 u.2 kept in
    setting_alike _ _ _ _ r.answer (prepared_alike us (set_up_of t u.0 u.1 u.2).table (set_up_steps s u.0 u.1 u.2) r.kept)

night_alike : (x : Ready Table) (y : Ready Steps) (l : Log) → Alike x y → night_of x l ≡ night01 y l
night_alike (ready t) (ready s) l kept = ap (λ (ls : List (List ℕ)). record { lines = ls; ending = ending_of l }) (lines_kept (records_in l) t s 0 kept)
night_alike (ready t) (stopped w) l h = absurd h
night_alike (stopped w) (ready s) l h = absurd h
night_alike (stopped v) (stopped w) l e = ap (λ (x : Refusal). stop (SetUp x)) e

-- a whole night, its set-ups among the accepted steps
pub night_01 : (us : List Wanted) (s out : List ℕ) → line_room ≤ length out → length s < 2 ^ 64 → run_of us s out ≡ night01 (prepared01 [] us) (log_of s)
night_01 us s out h few = lines us s out h few ∙ night_alike (prepared_from empty_table us) (prepared01 [] us) (log_of s) (prepared_alike us empty_table [] empty_kept)
