-- The rules that the table keeps to, as one test that antt computes over all of it (`tableFine`).
use Rattle.std.specs.Prelude.{ℕ, ◌+◌, ◌^◌, min, Bool, true, cond, not, ◌&&◌, ◌||◌, List, [], ◌∷◌, eqb, leb, ltb, length}
use Rattle.payload.specs.Order as order
use Rattle.page_table.specs.declared.Row.{Row}
use Rattle.page_table.specs.Messages.{same}
use Rattle.page_table.specs.Table.{rows, row_count, rows_of, has_id, lowest, signal_count}

abbrev pub every : (Row → Bool) → List Row → Bool
every f [] = true
every f (r ∷ rs) = f r && every f rs

-- the first bit above a row's signal
abbrev pub above : Row → ℕ
above r = lowest r + r.width

-- each row: a message of at most 8 bytes; 1 to 63 bits, inside the message's length, the lowest of them where start and byte order put it; each
-- label fits the width and is below 64
abbrev pub row_fine : Row → Bool
row_fine r =
    leb r.bytes 8
    && leb 1 r.width
    && leb r.width 63
    && order.inside r.big r.bytes r.start r.width
    && eqb (lowest r) (order.lowest r.big r.bytes r.start r.width)
    && ltb r.labels (2 ^ min (2 ^ r.width) 64)

-- two signals share no bit
abbrev pub apart : Row → Row → Bool
apart r q = leb (above r) (lowest q) || leb (above q) (lowest r)

-- two rows of one message, the earlier first: the same identifier, form, length and byte order in each row, starts go up, signals apart
abbrev pub one_message : Row → Row → Bool
one_message r q =
    has_id r.id r.extended q
    && eqb r.bytes q.bytes
    && same r.big q.big
    && ltb r.start q.start
    && apart r q

-- two rows of two messages, the earlier first: kinds go up, so that a message's rows stand together, and identifiers or their forms differ
abbrev pub two_messages : Row → Row → Bool
two_messages r q = ltb r.kind q.kind && not (has_id r.id r.extended q)

abbrev pub in_turn : Row → Row → Bool
in_turn r q = cond (eqb r.kind q.kind) (one_message r q) (two_messages r q)

-- every row with every later one
abbrev pub all_in_turn : List Row → Bool
all_in_turn [] = true
all_in_turn (r ∷ rs) = every (in_turn r) rs && all_in_turn rs

-- its message has no more signals than there is room for
abbrev pub has_room : Row → Bool
has_room r = leb (length (rows_of r.kind)) signal_count

unfoldable pub table_fine : Bool
table_fine = eqb (length rows) row_count && every row_fine rows && all_in_turn rows && every has_room rows
