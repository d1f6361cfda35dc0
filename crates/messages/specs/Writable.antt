-- A message as it is written: whether it can be, its payload number, bytes and form, and the answer.
use Rattle.std.specs.Prelude.{ℕ, Bool, ◌&&◌, List}
use Rattle.payload.specs.Payload.{bytes_of}
use Rattle.page_table.specs.Table.{rows_of, extended_of, length_of, big_of}
use Rattle.page_write.specs.Written.{Written}
use Rattle.page_write.specs.Raws.{packed_on, written_by}
use Rattle.message_laws.specs.Fits.{all_fit}
use Rattle.message_types.specs.declared.Message.{Message}
use Rattle.message_types.specs.KindNumbers.{kind_of}
use Rattle.message_take.specs.Take.{raws_of, has_raws}

-- each value has a raw number, and each raw number fits its signal
abbrev pub writable : Message → Bool
writable x = has_raws x && all_fit (rows_of (kind_of x)) (raws_of x)

-- the payload number of a message
abbrev pub payload_of : Message → ℕ
payload_of x = packed_on 0 (rows_of (kind_of x)) (raws_of x)

-- the message's bytes, in its byte order
abbrev pub bytes_for : Message → List ℕ
bytes_for x = bytes_of (big_of (kind_of x)) (length_of (kind_of x)) (payload_of x)

-- the form of its identifier
abbrev pub form_of : Message → Bool
form_of x = extended_of (kind_of x)

-- 01: 7, "a value to be written has no raw number, or a raw number does not fit its signal", then 8, "lent buffer shorter than the message"
abbrev pub answer_of : Message → Bool → Bool → Written
answer_of x fits room = written_by (kind_of x) fits room
