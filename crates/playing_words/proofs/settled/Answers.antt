-- `playing_words::settled`, by what `set_up` and the conversions ensure.
use Rattle.playing_words.specs.Plain.{set_up_by}
use Rattle.playing_words.proofs.settled.Goals as goal

pub returns : goal.returns
unfolding set_up_by
returns c = rw (c.prepared_word.ensures, c.from-2.ensures, c.set_up-p.ensures, c.from.ensures)
