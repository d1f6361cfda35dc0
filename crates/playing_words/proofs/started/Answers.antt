-- `playing_words::started`, by what `start` and the conversion ensure.
use Rattle.playing_words.specs.Plain.{start_by}
use Rattle.playing_words.proofs.started.Goals as goal

pub returns : goal.returns
unfolding start_by
returns c = rw (c.from.ensures, c.start.ensures)
