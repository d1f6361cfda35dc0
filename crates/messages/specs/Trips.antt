-- Bytes and the message that they are: as it is written, and with one signal changed.
use Rattle.std.specs.Prelude.{ℕ, Bool, List, ℤ, Ok}
use Rattle.message_laws.specs.Trips as laws
use Rattle.message_types.specs.declared.Message.{Message}
use Rattle.message_types.specs.KindNumbers.{kind_of}
use Rattle.message_take.specs.Take.{raws_of, has_raws}
use Rattle.messages.specs.Read.{read_of}
use Rattle.messages.specs.Write.{write_of, buffer_after}

-- x is written under the identifier m as the bytes bs, into any buffer with room for them, whose other bytes stay
abbrev pub WrittenAs : ℕ → List ℕ → Message → Type 0
WrittenAs m bs x = laws.WrittenAs kind_of raws_of has_raws read_of Ok write_of buffer_after m bs x

-- the bytes bs are those of x with the raw number z at signal j: they read as it, it is written as them, and so is every writable message that is x so changed
abbrev pub BytesWith : ℕ → Bool → List ℕ → ℕ → ℤ → Message → Type 0
BytesWith m extended bs j z x = laws.BytesWith kind_of raws_of has_raws read_of Ok write_of buffer_after m extended bs j z x
