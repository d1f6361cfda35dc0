-- What a line tells that was heard. desk.md: `frame CHANNEL TIME ID x|s HEX`, `tick CHANNEL TIME`.
use Rattle.std.specs.Prelude.{ℕ, cond, List, leb, length, Option, Some, None}
use Rattle.notation_read.specs.Fields.{stamp_of, head_of, rest_of, rest_in}
use Rattle.notation_read.specs.declared.fields.Stamp.{Stamp}
use Rattle.notation_read.specs.declared.fields.Head.{Head}
use Rattle.notation_read.specs.declared.heard.Frame.{Frame}
use Rattle.notation_read.specs.declared.heard.Tick.{Tick}

-- a tick's line ends with its time
abbrev pub tick_by : List ℕ → Option Stamp → Option Tick
tick_by s None = None
tick_by s (Some t) = cond (leb t.next (length s)) None (Some (record { channel = t.channel; time = t.time }))

unfoldable pub tick_of : List ℕ → ℕ → Option Tick
tick_of s at = tick_by s (stamp_of s at)

abbrev pub with_bytes : Stamp → Head → Option ℕ → Option Frame
with_bytes t h None = None
with_bytes t h (Some n) = Some (record { channel = t.channel; time = t.time; id = h.id; extended = h.extended; length = n })

abbrev pub with_head : List ℕ → ℕ → Stamp → Option Head → Option Frame
with_head s room t None = None
with_head s room t (Some h) = with_bytes t h (rest_of s h.next room)

abbrev pub frame_by : List ℕ → ℕ → Option Stamp → Option Frame
frame_by s room None = None
frame_by s room (Some t) = with_head s room t (head_of s t.next)

-- the frame of a line whose bytes have so much room
unfoldable pub frame_of : List ℕ → ℕ → ℕ → Option Frame
frame_of s at room = frame_by s room (stamp_of s at)

-- the room then: the frame's bytes in front, and as it was where the line is no frame's
abbrev pub room_by : List ℕ → List ℕ → Option Head → List ℕ
room_by s room None = room
room_by s room (Some h) = rest_in s h.next room

abbrev pub room_from : List ℕ → List ℕ → Option Stamp → List ℕ
room_from s room None = room
room_from s room (Some t) = room_by s room (head_of s t.next)

unfoldable pub room_of : List ℕ → ℕ → List ℕ → List ℕ
room_of s at room = room_from s room (stamp_of s at)
