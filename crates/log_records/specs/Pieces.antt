-- A piece of a log, as it is read by a caller whose buffer does not hold the whole: what the piece shows, told by the bytes of the log.
use Rattle.std.specs.Prelude.{ℕ, ◌+◌, Bool, true, false, List, take, drop}
use Rattle.log_records.specs.declared.Entry.{Entry}
use Rattle.log_records.specs.declared.Found.{Found}
use Rattle.log_records.specs.declared.Found.TheVariants.{Record, End, Cut, Refused}

-- from byte a of the log s on, k bytes or as many as there are
abbrev pub piece_of : List ℕ → ℕ → ℕ → List ℕ
piece_of s a k = take k (drop a s)

-- with a bytes in front
abbrev pub moved_entry : ℕ → Entry → Entry
moved_entry a e =
    record { tick = e.tick; time = e.time; channel = e.channel; id = e.id; extended = e.extended; start = a + e.start; length = e.length; next = a + e.next }

abbrev pub moved : ℕ → Found → Found
moved a (Record e) = Record (moved_entry a e)
moved a End = End
moved a (Cut b) = Cut (a + b)
moved a (Refused w b) = Refused w (a + b)

-- whatever bytes follow; an end or a cut may only be the piece's own
abbrev pub is_firm : Found → Bool
is_firm (Record e) = true
is_firm End = false
is_firm (Cut b) = false
is_firm (Refused w b) = true
