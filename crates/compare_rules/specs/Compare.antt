-- 02, Req 10: "At most 512 records a log; new numbers refuse a malformed or cut log, with side and byte, then more records, then lent lists of under
-- 512 places. At each step the first log comes first; unused places stay."
use Rattle.std.specs.Prelude.{ℕ, cond, List, length, ltb, Result, Ok, Err}
use Rattle.std.proofs.Math.Option.{Option, none, some}
use Rattle.std.proofs.lemmas.List.Edits.{sets}
use Rattle.refusals.specs.declared.Refusal.{Refusal}
use Rattle.refusals.specs.declared.Refusal.TheVariants.{ShortBuffer, CompareLog, CompareRecords, CompareRoom}
use Rattle.log_records.specs.Record.{Rec}
use Rattle.log_records.specs.Reading.{Log, ends, then, clean, piece, refused, log_of, records_in}
use Rattle.compare_rules.specs.declared.Listed.{Listed}
use Rattle.compare_rules.specs.declared.Unlisted.{Unlisted}
use Rattle.compare_rules.specs.Surplus.{surplus_of}
use Rattle.compare_rules.specs.Places.{channels, places_of}

abbrev pub most : ℕ
most = 512

abbrev pub records_of : List ℕ → List Rec
records_of s = records_in (log_of s)

-- the byte where a record begins that is malformed or cut
unfoldable pub broken_at : Log → Option ℕ
broken_at (ends clean) = none
broken_at (ends (piece at)) = some at
broken_at (ends (refused w at)) = some at
broken_at (then r l) = broken_at l

-- ---- an answer

abbrev pub Compared : Type 0
Compared = Result Listed Unlisted

-- n and m records in the lists
abbrev pub listed_in : ℕ → ℕ → Compared
listed_in n m = Ok (record { first = n; second = m })

abbrev pub refused_for : Refusal → ℕ → ℕ → Compared
refused_for w side at = Err (record { why = w; side = side; at = at })

-- ---- the steps, each over both logs

-- on where the log of a side is all records
abbrev pub unbroken : ℕ → Option ℕ → Compared → Compared
unbroken side none go = go
unbroken side (some at) go = refused_for CompareLog side at

abbrev pub sound : List ℕ → List ℕ → Compared → Compared
sound a b go = unbroken 1 (broken_at (log_of a)) (unbroken 2 (broken_at (log_of b)) go)

-- n and m records
abbrev pub few_enough : ℕ → ℕ → Compared → Compared
few_enough n m go = cond (ltb most n) (refused_for CompareRecords 1 0) (cond (ltb most m) (refused_for CompareRecords 2 0) go)

-- lists of x and y places
abbrev pub roomy : ℕ → ℕ → Compared → Compared
roomy x y go = cond (ltb x most) (refused_for CompareRoom 1 0) (cond (ltb y most) (refused_for CompareRoom 2 0) go)

-- z places for the channels: 8 of 01, since 02 gives them no number
abbrev pub placed : ℕ → Compared → Compared
placed z go = cond (ltb z channels) (refused_for ShortBuffer 0 0) go

abbrev pub listed_of : List Rec → List Rec → Compared
listed_of a b = listed_in (length (surplus_of a b)) (length (surplus_of b a))

-- the numbers of records, the places of both lists and those of the channels
abbrev pub judged : ℕ → ℕ → ℕ → ℕ → ℕ → Compared → Compared
judged n m x y z go = few_enough n m (roomy x y (placed z go))

-- the answer to the logs a and b, lists of x and y places, and z places for the channels
unfoldable pub compared_of : List ℕ → List ℕ → ℕ → ℕ → ℕ → Compared
compared_of a b x y z = sound a b (judged (length (records_of a)) (length (records_of b)) x y z (listed_of (records_of a) (records_of b)))

-- ---- what is lent, afterwards: "unused places stay", and refused all of it stays as it was

abbrev pub after : Compared → List ℕ → List ℕ → List ℕ
after (Ok x) found old = sets old 0 found
after (Err e) found old = old

abbrev pub first_after : List ℕ → List ℕ → Compared → List ℕ → List ℕ
first_after a b r first = after r (surplus_of (records_of a) (records_of b)) first

abbrev pub second_after : List ℕ → List ℕ → Compared → List ℕ → List ℕ
second_after a b r second = after r (surplus_of (records_of b) (records_of a)) second

abbrev pub places_after : List ℕ → List ℕ → Compared → List ℕ → List ℕ
places_after a b r places = after r (places_of (records_of a) (records_of b)) places
