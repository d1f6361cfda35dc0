-- Reading a log. 02, Req 01: "Lengths above 9, length 9 with another identifier part, channels above 31, standard identifiers above 2,047,
-- extended ones above 29 bits and ill-formed numbers each get a refusal above 15, the earliest bad part deciding and going before a cut."
use Rattle.std.specs.Prelude.{ℕ, zero, suc, ◌+◌, ◌-◌, ◌/◌, ◌%◌, Bool, true, false, cond, List, [], ◌∷◌, length, drop, take, ltb, leb, eqb, Result, Ok, Err}
use Rattle.refusals.specs.declared.Refusal.{Refusal}
use Rattle.refusals.specs.declared.Refusal.TheVariants.{IllNumber, LogChannel, LogStandard, LogExtended, LogLength, LogTick}
use Rattle.log_numbers.specs.declared.NumberError.{NumberError}
use Rattle.log_numbers.specs.declared.NumberError.TheVariants as num
use Rattle.log_records.specs.declared.Entry.{Entry}
use Rattle.log_records.specs.declared.RecordError.{RecordError}
use Rattle.log_records.specs.declared.RecordError.TheVariants.{Cut, Bad}
use Rattle.log_records.specs.declared.Found.{Found}
use Rattle.log_records.specs.declared.Found.TheVariants as found
use Rattle.log_numbers.specs.Number.{Num, read_number}
use Rattle.log_records.specs.Record.{Rec, tick, frame, identifiers, record_bytes}

-- ---- a record, part by part

-- a record from a place on, or why there is none
abbrev pub Taken : Type 0
Taken = Result Entry RecordError

-- where the bytes end in a number the record is cut, and an ill-formed one is refused
abbrev pub error_of : NumberError → RecordError
error_of num.Cut = Cut
error_of num.Ill = Bad IllNumber

-- a part is the number at i, and what follows it goes by its value and the place behind it
abbrev pub on_number : {A : Type 0} → ℕ → (ℕ → ℕ → Result A RecordError) → Num → Result A RecordError
on_number i go (Ok (n, j)) = go n (i + j)
on_number i go (Err e) = Err (error_of e)

abbrev pub part : {A : Type 0} → List ℕ → ℕ → (ℕ → ℕ → Result A RecordError) → Result A RecordError
part s i go = on_number i go (read_number (drop i s))

abbrev pub tick_entry : ℕ → ℕ → ℕ → Entry
tick_entry t c i = record { tick = true; time = t; channel = c; id = 0; extended = false; start = i; length = 0; next = i }

abbrev pub frame_entry : ℕ → ℕ → ℕ → ℕ → ℕ → Entry
frame_entry t c p l i = record { tick = false; time = t; channel = c; id = p / 2; extended = eqb (p % 2) 1; start = i; length = l; next = i + l }

-- in the log s, after time t, channel c and identifier part p, the length l, with the payload at i
unfoldable pub length_part : List ℕ → ℕ → ℕ → ℕ → ℕ → ℕ → Taken
length_part s t c p l i =
    cond (ltb 9 l) (Err (Bad LogLength))
    (cond (eqb l 9) (cond (eqb p 0) (Ok (tick_entry t c i)) (Err (Bad LogTick)))
    (cond (ltb (length s - i) l) (Err Cut) (Ok (frame_entry t c p l i))))

abbrev pub above_of : Bool → Refusal
above_of true = LogExtended
above_of false = LogStandard

unfoldable pub identifier_part : List ℕ → ℕ → ℕ → ℕ → ℕ → Taken
identifier_part s t c p i = cond (leb (identifiers (eqb (p % 2) 1)) (p / 2)) (Err (Bad (above_of (eqb (p % 2) 1)))) (part s i (length_part s t c p))

unfoldable pub channel_part : List ℕ → ℕ → ℕ → ℕ → Taken
channel_part s t c i = cond (ltb 31 c) (Err (Bad LogChannel)) (part s i (identifier_part s t c))

unfoldable pub time_part : List ℕ → ℕ → ℕ → Taken
time_part s t i = part s i (channel_part s t)

unfoldable pub record_at : List ℕ → ℕ → Taken
record_at s at = part s at (time_part s)

-- ---- what stands at a place

-- a cut or refused record is named by its first byte
abbrev pub placed : ℕ → Taken → Found
placed at (Ok e) = found.Record e
placed at (Err Cut) = found.Cut at
placed at (Err (Bad w)) = found.Refused w at

abbrev pub found_at : List ℕ → ℕ → Found
found_at s at = cond (leb (length s) at) found.End (placed at (record_at s at))

abbrev pub payload_of : List ℕ → ℕ → ℕ → List ℕ
payload_of s i l = cond (leb (length s) i) [] (cond (ltb (length s - i) l) [] (take l (drop i s)))

-- ---- a whole log

-- the record that an entry of the log s stands for
abbrev pub rec_of : List ℕ → Entry → Rec
rec_of s e = cond e.tick (tick e.time e.channel) (frame e.time e.channel e.extended e.id (take e.length (drop e.start s)))

-- how a log ends: behind a whole record; in a piece of one, which begins at a byte; at a record that is refused, which begins at a byte
pub data Ending : Type 0 where
  clean : Ending
  piece : ℕ → Ending
  refused : Refusal → ℕ → Ending

pub data Log : Type 0 where
  ends : Ending → Log
  then : Rec → Log → Log

-- on from what was found at a byte of s
abbrev pub onward : List ℕ → (ℕ → Log) → Found → Log
onward s go (found.Record e) = then (rec_of s e) (go e.next)
onward s go found.End = ends clean
onward s go (found.Cut at) = ends (piece at)
onward s go (found.Refused w at) = ends (refused w at)

-- at most k records from byte `at` on
unfoldable pub read_from : ℕ → List ℕ → ℕ → Log
read_from zero s at = ends clean
read_from (suc k) s at = onward s (read_from k s) (found_at s at)

-- a record takes a byte at least, so there are no more records than bytes
abbrev pub log_of : List ℕ → Log
log_of s = read_from (length s) s 0

-- ---- what a log should read as

-- a log of whole records
unfoldable pub whole : List Rec → Log
whole [] = ends clean
whole (r ∷ rs) = then r (whole rs)

-- records rs from byte `at` on, cut i bytes further: "exactly the records wholly before the cut, and tells whether a piece is left over"
unfoldable pub wholly : ℕ → ℕ → List Rec → Log
wholly at i [] = ends clean
wholly at i (r ∷ rs) =
    cond (leb (length (record_bytes r)) i) (then r (wholly (at + length (record_bytes r)) (i - length (record_bytes r)) rs)) (ends (cond (eqb i 0) clean (piece at)))

unfoldable pub records_in : Log → List Rec
records_in (ends e) = []
records_in (then r l) = r ∷ records_in l

-- the byte up to which there are whole records, in a log of n bytes
unfoldable pub end_in : ℕ → Log → ℕ
end_in n (ends clean) = n
end_in n (ends (piece at)) = at
end_in n (ends (refused w at)) = at
end_in n (then r l) = end_in n l
