-- The writer's answer: the identifier and the number of bytes, or its refusal.
use Rattle.std.specs.Prelude.{ℕ, Result}
use Rattle.refusals.specs.declared.Refusal.{Refusal}

abbrev pub Written : Type 0
Written = Result (ℕ × ℕ) Refusal
