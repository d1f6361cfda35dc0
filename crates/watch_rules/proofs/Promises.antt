-- Each operation's two promises: the second follows from the first.
use Prim.Native.Nat.{ℕ}
use mathlib.Core.Path.{◌≡◌, sym, subst, ◌∙◌}
use Rattle.rule_limits.specs.declared.PlainLimits.{PlainLimits}
use Rattle.watch_rules.specs.declared.Table.{Table}
use Rattle.watch_rules.specs.Answer.{Fed}
use Rattle.watch_rules.specs.Setting.{Settled}
use Rattle.watch_rules.specs.declared.LookedUp.{LookedUp}
use Rattle.watch_rules.specs.Table.{Arriving, feed_of, set_up_of, release_of, look_up_of}
use Rattle.watch_rules.specs.Steps.{Steps, look_up01, Kept, FeedRight, SetUpRight, ReleaseRight}
use Rattle.watch_rules.proofs.Right.{feed_right, set_up_right, release_right, look_up_right}

module _ (t : Table) where
  pub fed_both : (c time : ℕ) (a : Arriving) {r : Fed} → r ≡ feed_of t c time a → (r ≡ feed_of t c time a) × ((s : Steps) → Kept t s → FeedRight s c time a r)
  fed_both c time a e = (e, λ s kept. subst (FeedRight s c time a) (sym e) (feed_right t s c time a kept))

  pub set_both : (i c : ℕ) (lim : PlainLimits) {r : Settled} → r ≡ set_up_of t i c lim → (r ≡ set_up_of t i c lim) × ((s : Steps) → Kept t s → SetUpRight s i c lim r)
  set_both i c lim e = (e, λ s kept. subst (SetUpRight s i c lim) (sym e) (set_up_right t s i c lim kept))

  pub released_both : (i : ℕ) {r : Settled} → r ≡ release_of t i → (r ≡ release_of t i) × ((s : Steps) → Kept t s → ReleaseRight s i r)
  released_both i e = (e, λ s kept. subst (ReleaseRight s i) (sym e) (release_right t s i kept))

  pub shown_both : (i : ℕ) {r : LookedUp} → r ≡ look_up_of t i → (r ≡ look_up_of t i) × ((s : Steps) → Kept t s → r ≡ look_up01 s i)
  shown_both i e = (e, λ s kept. e ∙ look_up_right t s i kept)
