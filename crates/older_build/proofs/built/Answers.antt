-- Past every other kind stands the last one.
use Rattle.older_types.specs.message_types.proofs.Choices.{past}
use Rattle.older_build.specs.Built.{built_of}
use Rattle.older_build.proofs.built.Goals as goal

pub returns-in_default : goal.returns-in_default
unfolding built_of
returns-in_default c = rw c.mcs.ensures (search past depth 25)
