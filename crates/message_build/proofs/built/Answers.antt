-- Past every other kind stands the last one.
use Rattle.message_types.proofs.Choices.{past}
use Rattle.message_build.specs.Built.{built_of}
use Rattle.message_build.proofs.built.Goals as goal

pub returns-in_default : goal.returns-in_default
unfolding built_of
returns-in_default c = rw c.ocpp.ensures (search past depth 29)
