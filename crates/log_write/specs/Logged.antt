-- The answer of writing a record: how many bytes it takes, or the refusal.
use Rattle.std.specs.Prelude.{ℕ, Result}
use Rattle.refusals.specs.declared.Refusal.{Refusal}

abbrev pub Logged : Type 0
Logged = Result ℕ Refusal
