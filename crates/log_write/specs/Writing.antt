-- Writing a record. 02, Req 01: "in the writer 9 payload bytes count as above 9, and a short buffer gives 8, last".
use Rattle.std.specs.Prelude.{ℕ, cond, List, length, ltb, leb, Ok, Err}
use Rattle.std.proofs.lemmas.List.Edits.{sets}
use Rattle.refusals.specs.declared.Refusal.TheVariants.{LogChannel, LogLength, ShortBuffer}
use Rattle.log_write.specs.Logged.{Logged}
use Rattle.log_numbers.specs.Number.{InWord}
use Rattle.log_records.specs.Record.{Rec, tick, frame, identifiers, record_bytes}
use Rattle.log_records.specs.Reading.{above_of}

-- the time is a 32-bit number, as every time that the writer is handed
abbrev pub Timed : Rec → Type 0
Timed (tick t c) = InWord t
Timed (frame t c x i p) = InWord t

-- what the log cannot hold is refused, the earliest bad part deciding; all else goes on
abbrev pub judged : Rec → Logged → Logged
judged (tick t c) w = cond (ltb 31 c) (Err LogChannel) w
judged (frame t c x i p) w = cond (ltb 31 c) (Err LogChannel) (cond (leb (identifiers x) i) (Err (above_of x)) (cond (ltb 8 (length p)) (Err LogLength) w))

-- the answer to a record and a lent buffer
unfoldable pub written_of : Rec → List ℕ → Logged
written_of x out = judged x (cond (ltb (length out) (length (record_bytes x))) (Err ShortBuffer) (Ok (length (record_bytes x))))

abbrev pub stored : Rec → List ℕ → Logged → List ℕ
stored x out (Ok n) = sets out 0 (record_bytes x)
stored x out (Err w) = out

-- the buffer afterwards: a refusal changes nothing, and an accepted record only its own bytes
abbrev pub buffer_after : Rec → List ℕ → List ℕ
buffer_after x out = stored x out (written_of x out)
