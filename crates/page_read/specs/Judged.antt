-- The reader's answer: kind and payload number of the frame, or its refusal.
use Rattle.std.specs.Prelude.{ℕ, Result}
use Rattle.refusals.specs.declared.Refusal.{Refusal}

abbrev pub Judged : Type 0
Judged = Result (ℕ × ℕ) Refusal
