-- The table: 01, "The message and signal layouts are one constant table". Messages holds its messages, Charger, Safety, Older and Rest its rows:
-- identifiers, lengths, starts, widths, signs and labels stand there and nowhere else.
use Rattle.std.specs.Prelude.{ℕ, suc, ◌+◌, ◌/◌, ◌%◌, ◌^◌, ◌≤◌, ◌<◌, Bool, true, false, cond, ◌&&◌, ◌||◌, List, [], ◌∷◌, ◌++◌, eqb, get_or, Some, None, Option}
use Rattle.signal.specs.Signal.{get_bits, covers}
use Rattle.payload.specs.Order as order
use Rattle.page_table.specs.declared.Row.{Row}
use Rattle.page_table.specs.Messages.{same}
use Rattle.page_table.specs.Layout.{row}
use Rattle.page_table.specs.Charger.{charger_count, charger_rows}
use Rattle.page_table.specs.Safety.{safety_count, safety_rows}
use Rattle.page_table.specs.Older.{older_count, older_rows}
use Rattle.page_table.specs.Rest.{rest_count, rest_rows}

-- what stands past the end of the table
abbrev pub no_row : Row
no_row = row 0 0 false 0 false 0 0 false 0

abbrev pub row_count : ℕ
row_count = charger_count + safety_count + older_count + rest_count

-- no message has more signals
abbrev pub signal_count : ℕ
signal_count = 16

unfoldable pub rows : List Row
rows = charger_rows ++ (safety_rows ++ (older_rows ++ rest_rows))

abbrev pub row_at : ℕ → Row
row_at i = get_or rows i no_row

-- ---- rows of a kind

abbrev pub has_kind : ℕ → Row → Bool
has_kind k r = eqb r.kind k

-- the row's identifier has this form
abbrev pub has_form : Bool → Row → Bool
has_form x r = same x r.extended

abbrev pub has_id : ℕ → Bool → Row → Bool
has_id i x r = eqb r.id i && has_form x r

abbrev pub is_signal : ℕ → ℕ → Row → Bool
is_signal k s r = has_kind k r && eqb r.start s

abbrev pub keep : Bool → Row → List Row → List Row
keep true r rs = r ∷ rs
keep false r rs = rs

unfoldable pub of_kind : ℕ → List Row → List Row
of_kind k [] = []
of_kind k (r ∷ rs) = keep (has_kind k r) r (of_kind k rs)

-- the signals of a kind
abbrev pub rows_of : ℕ → List Row
rows_of k = of_kind k rows

-- the rows of a kind that stand together at the front
unfoldable pub block : ℕ → List Row → List Row
block k [] = []
block k (r ∷ rs) = cond (has_kind k r) (r ∷ block k rs) []

-- the place, counted from i, of the first row that passes a test
unfoldable pub first_at : (Row → Bool) → ℕ → List Row → Option ℕ
first_at p i [] = None
first_at p i (r ∷ rs) = cond (p r) (Some i) (first_at p (suc i) rs)

-- the kind of the row at a place
abbrev pub kind_found : Option ℕ → Option ℕ
kind_found (Some i) = Some (row_at i).kind
kind_found None = None

-- the message of the row at a place: its kind, that place, its bytes and its byte order
abbrev pub with_message : Option ℕ → Option (ℕ × ℕ × ℕ × Bool)
with_message (Some i) = Some ((row_at i).kind, i, (row_at i).bytes, (row_at i).big)
with_message None = None

-- what a kind's first row says of the message; 0 and false for a number that is no kind
abbrev pub head_row : List Row → Row
head_row [] = no_row
head_row (r ∷ rs) = r

unfoldable pub identifier_of : ℕ → ℕ
identifier_of k = (head_row (rows_of k)).id

unfoldable pub extended_of : ℕ → Bool
extended_of k = (head_row (rows_of k)).extended

unfoldable pub length_of : ℕ → ℕ
length_of k = (head_row (rows_of k)).bytes

-- the byte order: byte 0 is highest
unfoldable pub big_of : ℕ → Bool
big_of k = (head_row (rows_of k)).big

-- ---- a row's signal

-- its lowest bit in the payload number
abbrev pub lowest : Row → ℕ
lowest r = r.low

-- the payload's bit b is one of the signal's, by the page's own words
abbrev pub HasBit : Row → ℕ → Type 0
HasBit r b = order.Has r.big r.start r.width b

-- the signal's bits in a payload number
abbrev pub bits_at : ℕ → Row → ℕ
bits_at n r = get_bits n (lowest r) r.width

-- the signal has a bit, is no wider than an i64's numbers, lies in the payload number, and starts in it
abbrev pub Fine : Row → Type 0
Fine r = (1 ≤ r.width) × (r.width ≤ 63) × (lowest r + r.width ≤ 64) × (r.start < 64)

-- some row's signal has bit i of the payload number
unfoldable pub covered : List Row → ℕ → Bool
covered [] i = false
covered (r ∷ rs) i = covers (lowest r) r.width i || covered rs i

-- bit x of a mask of labels says that the number x has a label
abbrev pub labelled : ℕ → ℕ → Bool
labelled labels x = eqb (labels / 2 ^ x % 2) 1

-- a signal with no labels takes every number
abbrev pub takes : ℕ → ℕ → Bool
takes labels x = eqb labels 0 || labelled labels x
