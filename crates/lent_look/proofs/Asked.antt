-- What a look-up answers, by its case: no such post, a post that is not set up, a post that is.
use Rattle.std.specs.Prelude.{Ok, Err}
use Prim.Native.Nat.{ℕ}
use mathlib.Core.Path.{◌≡◌}
use mathlib.Core.Bool.{Bool, true, false, cond}
use Rattle.refusals.specs.declared.Refusal.TheVariants.{NoSuchPost, NotSetUp}
use Rattle.watch_rules.specs.rules.specs.Record.{is_set}
use Rattle.watch_rules.specs.rules.specs.After.{post_record}
use Rattle.watch_rules.specs.declared.Table.{Table}
use Rattle.watch_rules.specs.Setting.{Setting}
use Rattle.watch_rules.specs.Table.{post_in, is_post, not_found, look_up_of}

module _ (t : Table) (i : ℕ) where
  pub no_post_lem : is_post i ≡ false → look_up_of t i ≡ not_found NoSuchPost
  unfolding look_up_of
  no_post_lem l = rw l

  pub not_set_up : is_post i ≡ true → is_set (post_in t i).head.used ≡ false → look_up_of t i ≡ not_found NotSetUp
  unfolding look_up_of
  not_set_up l e = rw (l, e)

  pub set_up : is_post i ≡ true → is_set (post_in t i).head.used ≡ true → look_up_of t i ≡ record { answer = Ok tt; shown = post_record (post_in t i) }
  unfolding look_up_of
  set_up l e = rw (l, e)

  -- what holds of all three answers holds of the look-up's
  pub any_look : (P : Setting → Type 0) → P (Ok tt) → P (Err NotSetUp) → P (Err NoSuchPost) → P (look_up_of t i).answer
  unfolding look_up_of
  any_look P done unset none = go (is_post i) (is_set (post_in t i).head.used)
    where
      go : (a b : Bool) → P (cond a (cond b (record { answer = Ok tt; shown = post_record (post_in t i) }) (not_found NotSetUp)) (not_found NoSuchPost)).answer
      go true true = done
      go true false = unset
      go false b = none
