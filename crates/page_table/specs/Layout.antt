-- A row of the table: what the page says of a signal, its message by the kind, and the lowest bit in the payload number, which is computed from it.
use Rattle.std.specs.Prelude.{ℕ, Bool}
use Rattle.payload.specs.Order as order
use Rattle.page_table.specs.declared.Row.{Row}
use Rattle.page_table.specs.declared.Line.{Line}
use Rattle.page_table.specs.declared.Message.{Message}
use Rattle.page_table.specs.Messages.{message_of}

-- kind, identifier, extended, bytes, big, start, width, signed, labels
abbrev pub row : ℕ → ℕ → Bool → ℕ → Bool → ℕ → ℕ → Bool → ℕ → Row
row k i x b o s w g l =
    record { kind = k; id = i; extended = x; bytes = b; big = o; start = s; width = w; low = order.lowest o b s w; signed = g; labels = l }

-- of a message: kind, start, width, signed, labels
abbrev pub row_in : Message → ℕ → ℕ → ℕ → Bool → ℕ → Row
row_in m k s w g l = row k m.0 m.1 m.2 m.3 s w g l

-- kind, start, width, signed, labels
abbrev pub line : ℕ → ℕ → ℕ → Bool → ℕ → Row
line k s w g l = row_in (message_of k) k s w g l

-- the row of a line of the code, which brings the lowest bit along
abbrev pub row_with : Line → Message → Row
row_with l m =
    record { kind = l.0; id = m.0; extended = m.1; bytes = m.2; big = m.3; start = l.1; width = l.2; low = l.3; signed = l.4; labels = l.5 }

abbrev pub row_of : Line → Row
row_of l = row_with l (message_of l.0)
