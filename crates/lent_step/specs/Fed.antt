-- What a frame and a tick leave of a table: exactly what the by-value operation of `watch` gives, the answer as a word.
use Rattle.std.specs.Prelude.{ℕ, List, Bool}
use Rattle.watch_hear.specs.watch_rules.specs.declared.Table.{Table}
use Rattle.watch_hear.specs.watch_rules.specs.Table.{framing, ticking, feed_of}
use Rattle.lent_words.specs.Lent.{Lent, lent_fed}

unfoldable pub frame_word : Table → ℕ → ℕ → ℕ → Bool → List ℕ → Lent
frame_word t c time m x bs = lent_fed (feed_of t c time (framing m x bs))

unfoldable pub tick_word : Table → ℕ → ℕ → Lent
tick_word t c time = lent_fed (feed_of t c time ticking)
