-- The record's session part: the open session, if one is open.
use Rattle.std.specs.Prelude.{Option}
use Rattle.rules.specs.declared.OpenSession.{OpenSession}

abbrev pub SessionPart : Type 0
SessionPart = Option OpenSession
