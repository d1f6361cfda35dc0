-- A log that is longer than its caller's buffer: calls over pieces of it, told by the bytes of the log.
use Rattle.std.specs.Prelude.{ℕ, ◌+◌, ◌-◌, ◌≤◌, Bool, true, false, ◌||◌, cond, List, [], ◌∷◌, leb, length, take}
use Rattle.std.proofs.Math.Option.{Option, none, some}
use Rattle.log_records.specs.Record.{longest_record}
use Rattle.log_records.specs.Pieces.{piece_of}
use Rattle.playing_nights.specs.declared.Replay.{Replay}
use Rattle.playing_nights.specs.declared.Played.{Played}
use Rattle.playing_nights.specs.declared.Played.TheVariants.{Line, End, Cut, Bad, SetUp, Short}
use Rattle.playing_nights.specs.declared.Next.{Next}
use Rattle.playing_nights.specs.Call.{next_line, buffer_after}
use Rattle.playing_nights.specs.Night.{Night, stop}

-- with a bytes in front
abbrev pub moved_answer : ℕ → Played → Played
moved_answer a (Line bytes next) = Line bytes (a + next)
moved_answer a End = End
moved_answer a (Cut at) = Cut (a + at)
moved_answer a (Bad w at) = Bad w (a + at)
moved_answer a (SetUp w) = SetUp w
moved_answer a Short = Short

abbrev pub moved_next : ℕ → Next → Next
moved_next a x = record { replay = x.replay; answer = moved_answer a x.answer; heard = x.heard }

-- whatever bytes follow; an end or a cut may only be the piece's own
abbrev pub is_firm : Played → Bool
is_firm (Line bytes next) = true
is_firm End = false
is_firm (Cut at) = false
is_firm (Bad w at) = true
is_firm (SetUp w) = true
is_firm Short = true

-- ---- a whole night

-- the piece of a call: so many bytes before the record it begins, or at the log's first byte, and it has so many bytes, or as many as there are
abbrev pub Piece : Type 0
Piece = ℕ × ℕ

-- each has room for a whole record, from the record's first byte on
abbrev pub AllRoomy : List Piece → Type 0
AllRoomy [] = Unit {0}
AllRoomy (p ∷ ps) = (p.0 + longest_record ≤ p.1) × AllRoomy ps

abbrev pub on_more : List ℕ → Option Night → Option Night
on_more text (some n) = some (record { lines = text ∷ n.lines; ending = n.ending })
on_more text none = none

abbrev pub on_moved : List ℕ → (ℕ → Option Night) → Played → Option Night
on_moved out go (Line bytes next) = on_more (take bytes out) (go next)
on_moved out go End = some (stop End)
on_moved out go (Cut at) = some (stop (Cut at))
on_moved out go (Bad w at) = some (stop (Bad w at))
on_moved out go (SetUp w) = some (stop (SetUp w))
on_moved out go Short = some (stop Short)

-- the call for byte `at` of the log s, over the piece that begins at its byte a and has k bytes;
-- a piece that neither is firm nor reaches the log's end was asked in vain
abbrev pub piece_call : Replay → List ℕ → ℕ → ℕ → ℕ → List ℕ → (Replay → ℕ → List ℕ → Option Night) → Option Night
piece_call r s a k at out go =
    cond (is_firm (next_line r (piece_of s a k) (at - a) (length out)).answer || leb (length s) (a + k))
    (on_moved (buffer_after r (piece_of s a k) (at - a) out)
    (λ next. go (next_line r (piece_of s a k) (at - a) (length out)).replay next (buffer_after r (piece_of s a k) (at - a) out))
    (moved_answer a (next_line r (piece_of s a k) (at - a) (length out)).answer))
    (go r at out)

-- call after call, each over the next piece; none where the pieces do not reach to an ending
unfoldable pub in_pieces : List Piece → Replay → List ℕ → ℕ → List ℕ → Option Night
in_pieces [] r s at out = none
in_pieces (p ∷ ps) r s at out = piece_call r s (at - p.0) p.1 at out (λ q next left. in_pieces ps q s next left)
