-- The answer to a set-up, a release or a look-up: done, or the refusal.
use Rattle.std.specs.Prelude.{⊤, Result}
use Rattle.refusals.specs.declared.Refusal.{Refusal}
use Rattle.watch_rules.specs.declared.Stepped.{Stepped}

abbrev pub Setting : Type 0
Setting = Result ⊤ Refusal

-- and the table after a set-up or a release
abbrev pub Settled : Type 0
Settled = Stepped Setting
