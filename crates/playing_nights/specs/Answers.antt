-- The answers of set-ups and calls, by 01's numbers: the refusal that each stands for, and whether there is a line.
use Rattle.std.specs.Prelude.{Bool, true, false, Ok, Err}
use Rattle.std.proofs.Math.Option.{Option, none, some}
use Rattle.refusals.specs.declared.Refusal.{Refusal}
use Rattle.refusals.specs.declared.Refusal.TheVariants.{ShortBuffer}
use Rattle.playing_nights.specs.declared.Unprepared.TheVariants as why
use Rattle.playing_nights.specs.declared.Played.{Played}
use Rattle.playing_nights.specs.declared.Played.TheVariants.{Line, End, Cut, Bad, SetUp, Short}
use Rattle.playing_nights.specs.Call.{Preparing}

-- a buffer that is too short gets 8
abbrev pub refusal_in : Played → Option Refusal
refusal_in (Line bytes next) = none
refusal_in End = none
refusal_in (Cut at) = none
refusal_in (Bad w at) = some w
refusal_in (SetUp w) = some w
refusal_in Short = some ShortBuffer

abbrev pub is_line : Played → Bool
is_line (Line bytes next) = true
is_line End = false
is_line (Cut at) = false
is_line (Bad w at) = false
is_line (SetUp w) = false
is_line Short = false

-- a set-up that comes late has no number: 02 gives it none
abbrev pub refusal_at : Preparing → Option Refusal
refusal_at (Ok tt) = none
refusal_at (Err (why.Refused w)) = some w
refusal_at (Err why.Late) = none
