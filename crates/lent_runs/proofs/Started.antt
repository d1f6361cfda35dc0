-- The laws of Lents on a table that was just started: a tick on channel 4, which no post holds, is refused with 1, and counted; every post is as it was.
use Prim.Native.Nat.{◌≤◌}
use mathlib.Core.Path.{◌≡◌, refl}
use mathlib.Core.List.{[]}
use native.Mathlib.Omega.{arith}
use Rattle.watch_rules.specs.declared.Table.{Table}
use Rattle.watch_rules.specs.Table.{place_named, some_place, place_in, one_refused, feed_of}
use Rattle.watch_rules.specs.Steps.{standing, find_from, holder, feed01}
use Rattle.watch_rules.specs.Run.{tick, accepted}
use Rattle.plain_words.specs.Words.{number_in}
use Rattle.lent_step.specs.lent_words.specs.Lent.{start_of}
use Rattle.lent_step.specs.Fed.{tick_word}
use Rattle.lent_runs.specs.Runs.{lent_by, lent_run}
use Rattle.lent_runs.proofs.Lents.{lent_refused, refused_left, answer_told}

module _ (t : Table) where
  word-is : (lent_by (lent_run t []) (tick 4 0)).answer ≡ 65537
  unfolding lent_run start_of tick_word feed_of place_in some_place place_named
  word-is = refl

  pub started_told : number_in (lent_by (lent_run t []) (tick 4 0)).answer ≡ 1
  unfolding accepted standing find_from holder feed01
  started_told = (answer_told t [] (tick 4 0)).number

  refusal_is : 65536 ≤ (lent_by (lent_run t []) (tick 4 0)).answer
  refusal_is = omega (arith, word-is)

  pub started_counted : (lent_by (lent_run t []) (tick 4 0)).table ≡ one_refused (lent_run t [])
  started_counted = lent_refused (lent_run t []) (tick 4 0) refusal_is

  pub started_kept : (lent_by (lent_run t []) (tick 4 0)).table.posts ≡ (lent_run t []).posts
  started_kept = refused_left (lent_run t []) (tick 4 0) refusal_is
