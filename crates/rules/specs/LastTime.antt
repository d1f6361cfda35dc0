-- When a post last accepted an event, as received; none before its first.
use Rattle.std.specs.Prelude.{ℕ, Option}

abbrev pub LastTime : Type 0
LastTime = Option ℕ
