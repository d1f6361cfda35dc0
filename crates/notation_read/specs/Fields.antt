-- Fields of a line that stand together. desk.md: `CHANNEL TIME`, `ID x|s`; and `N` and `HEX` at the line's end.
use Rattle.std.specs.Prelude.{ℕ, Bool, cond, List, leb, length, drop, Option, Some, None}
use Rattle.text_lines.specs.Lines.{field_of, form_at}
use Rattle.text_bytes.specs.Hex.{bytes_in, stored_in}
use Rattle.notation_read.specs.declared.fields.Stamp.{Stamp}
use Rattle.notation_read.specs.declared.fields.Head.{Head}

-- a field that the line ends with
abbrev pub last_by : List ℕ → Option (ℕ × ℕ) → Option ℕ
last_by s None = None
last_by s (Some (n, next)) = cond (leb next (length s)) None (Some n)

unfoldable pub last_of : List ℕ → ℕ → Option ℕ
last_of s at = last_by s (field_of 10 s at)

-- `TIME` behind its channel, and where the next field starts
abbrev pub with_time : ℕ → Option (ℕ × ℕ) → Option Stamp
with_time channel None = None
with_time channel (Some (time, next)) = Some (record { channel = channel; time = time; next = next })

abbrev pub with_channel : List ℕ → Option (ℕ × ℕ) → Option Stamp
with_channel s None = None
with_channel s (Some (channel, next)) = with_time channel (field_of 10 s next)

unfoldable pub stamp_of : List ℕ → ℕ → Option Stamp
stamp_of s at = with_channel s (field_of 10 s at)

abbrev pub with_form : ℕ → Option (Bool × ℕ) → Option Head
with_form id None = None
with_form id (Some (extended, next)) = Some (record { id = id; extended = extended; next = next })

abbrev pub with_id : List ℕ → Option (ℕ × ℕ) → Option Head
with_id s None = None
with_id s (Some (id, next)) = with_form id (form_at s next)

unfoldable pub head_of : List ℕ → ℕ → Option Head
head_of s at = with_id s (field_of 16 s at)

-- the bytes from `at` to the line's end, and the room that they go to
unfoldable pub rest_of : List ℕ → ℕ → ℕ → Option ℕ
rest_of s at room = cond (leb at (length s)) (bytes_in (drop at s) room) None

unfoldable pub rest_in : List ℕ → ℕ → List ℕ → List ℕ
rest_in s at room = cond (leb at (length s)) (stored_in (drop at s) room) room
