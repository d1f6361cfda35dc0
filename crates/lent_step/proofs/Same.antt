-- The step of one head, by what comes to its limits, stored back with its slot, is the table's step, the answer as a word.
use Prim.Native.Nat.{ℕ}
use mathlib.Core.Path.{◌≡◌, ap}
use mathlib.Core.List.{List}
use mathlib.Core.Bool.{Bool}
use Rattle.watch_hear.specs.watch_rules.specs.declared.Table.{Table}
use Rattle.watch_hear.specs.watch_rules.specs.Table.{Arriving, post_in, framing, ticking, feed_at, feed_of, some_place}
use Rattle.watch_hear.specs.watch_rules.proofs.Same.{feed_same}
use Rattle.lent_words.specs.Lent.{Lent, lent_fed}
use Rattle.lent_step.specs.Fed.{frame_word, tick_word}
use Rattle.lent_step.specs.One.{heard_on, lent_at}

module _ (t : Table) (c time : ℕ) where
  abbrev place : ℕ
  place = some_place t c

  -- the step of the head there, stored back
  abbrev pub stepped : Arriving → Lent
  stepped a = lent_at t place (heard_on (post_in t place).head t.refused c time (a (post_in t place).head.limits))

  heard-same : (a : Arriving) → stepped a ≡ lent_fed (feed_of t c time a)
  unfolding feed_at
  heard-same a = ap lent_fed (feed_same t c time a)

  pub frame_same : (m : ℕ) (x : Bool) (bs : List ℕ) → stepped (framing m x bs) ≡ frame_word t c time m x bs
  unfolding frame_word
  frame_same m x bs = heard-same (framing m x bs)

  pub tick_same : stepped ticking ≡ tick_word t c time
  unfolding tick_word
  tick_same = heard-same ticking
