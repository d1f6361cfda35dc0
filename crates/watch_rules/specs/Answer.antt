-- The answer to a frame or tick: the findings, finding k in bit k - 1, or the refusal.
use Rattle.std.specs.Prelude.{ℕ, Result}
use Rattle.refusals.specs.declared.Refusal.{Refusal}
use Rattle.watch_rules.specs.declared.Stepped.{Stepped}

abbrev pub Answer : Type 0
Answer = Result ℕ Refusal

-- and the table after it
abbrev pub Fed : Type 0
Fed = Stepped Answer
