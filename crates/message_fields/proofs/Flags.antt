-- The number of a flag, as a cast of it gives it, is its raw number. Assumes nothing.
use mathlib.Core.Path.{◌≡◌, refl}
use mathlib.Core.Bool.{Bool, true, false}
use lib.IntN.{pos}
use mir.Val.{bool_byte}
use Rattle.message_fields.specs.Fields.{flag_raw}

pub flag_is : (b : Bool) → pos (bool_byte b) ≡ flag_raw b
flag_is true = refl
flag_is false = refl
