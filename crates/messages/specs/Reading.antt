-- The answer of reading a message: the message, or the refusal.
use Rattle.std.specs.Prelude.{Result}
use Rattle.refusals.specs.declared.Refusal.{Refusal}
use Rattle.message_types.specs.declared.Message.{Message}

abbrev pub Reading : Type 0
Reading = Result Message Refusal
