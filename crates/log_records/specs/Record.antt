-- 02, Req 01: "A record is five parts: time, channel, identifier times 2 plus 1 if extended, length, then the payload bytes." A log is the bytes
-- of its records, one after the other.
use Rattle.std.specs.Prelude.{ℕ, ◌+◌, ◌*◌, ◌<◌, ◌≤◌, Bool, true, false, List, [], ◌∷◌, ◌++◌, length}
use Rattle.log_numbers.specs.Number.{number_bytes, InWord}

-- a tick's time and channel; a frame's time, channel, whether extended, identifier and payload
pub data Rec : Type 0 where
  tick : ℕ → ℕ → Rec
  frame : ℕ → ℕ → Bool → ℕ → List ℕ → Rec

-- "identifier times 2 plus 1 if extended"
abbrev pub part_of : Bool → ℕ → ℕ
part_of true i = i * 2 + 1
part_of false i = i * 2

-- "standard identifiers above 2,047, extended ones above 29 bits": as many there are of each
abbrev pub identifiers : Bool → ℕ
identifiers true = 536870912
identifiers false = 2048

-- "Whatever the log can hold is logged"
abbrev pub Loggable : Rec → Type 0
Loggable (tick t c) = InWord t × (c ≤ 31)
Loggable (frame t c x i p) = InWord t × (c ≤ 31) × (i < identifiers x) × (length p ≤ 8)

abbrev pub AllLoggable : List Rec → Type 0
AllLoggable [] = Unit {0}
AllLoggable (r ∷ rs) = Loggable r × AllLoggable rs

abbrev pub parts_bytes : ℕ → ℕ → ℕ → ℕ → List ℕ → List ℕ
parts_bytes t c p l body = number_bytes t ++ (number_bytes c ++ (number_bytes p ++ (number_bytes l ++ body)))

-- "A tick has length 9, identifier part 0 and no payload."
unfoldable pub record_bytes : Rec → List ℕ
record_bytes (tick t c) = parts_bytes t c 0 9 []
record_bytes (frame t c x i p) = parts_bytes t c (part_of x i) (length p) p

unfoldable pub log_bytes : List Rec → List ℕ
log_bytes [] = []
log_bytes (r ∷ rs) = record_bytes r ++ log_bytes rs

-- no record is longer, and none that is cut has so many bytes (plain_log's law `longest`, and `enough`)
abbrev pub longest_record : ℕ
longest_record = 20
