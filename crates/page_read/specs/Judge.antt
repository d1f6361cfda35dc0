-- What reading a frame answers: 01, "Reading gives 3 to 6", the lowest that applies.
use Rattle.std.specs.Prelude.{ℕ, zero, suc, ◌*◌, min, Bool, false, cond, not, ◌&&◌, ◌||◌, List, [], ◌∷◌, eqb, ltb, length, get_or, Some, None, Ok, Err, Option}
use Rattle.signal.specs.Signal.{get_bits}
use Rattle.payload.specs.Payload.{number_of}
use Rattle.page_search.specs.page_table.specs.declared.Interface.{Interface}
use Rattle.page_search.specs.page_table.specs.declared.Interface.TheVariants.{Newer}
use Rattle.page_search.specs.page_table.specs.declared.Row.{Row}
use Rattle.page_read.specs.Judged.{Judged}
use Rattle.refusals.specs.declared.Refusal.{Refusal}
use Rattle.refusals.specs.declared.Refusal.TheVariants.{UnknownIdentifier, TooShort, TooLong, NoLabel, UncoveredBit}
use Rattle.page_search.specs.page_table.specs.Table.{rows, no_row, row_at, rows_of, has_id, first_at, bits_at, covered, takes}
use Rattle.page_search.specs.page_table.specs.Interfaces.{is_on, with_id}

-- 5: "a label signal holds a number without a label"
unfoldable pub unlabelled : ℕ → List Row → Bool
unlabelled n [] = false
unlabelled n (r ∷ rs) = not (takes r.labels (bits_at n r)) || unlabelled n rs

abbrev pub offends : ℕ → Row → Bool
offends n r = not (takes r.labels (bits_at n r))

-- 02, Req 02: "the start bit of the first offending signal, lowest start first": the least start of all rows that offend, in whatever order
-- they stand; 64, above every start, where none does
unfoldable pub offender : ℕ → List Row → ℕ
offender n [] = 64
offender n (r ∷ rs) = cond (offends n r) (min r.start (offender n rs)) (offender n rs)

-- 6: "a bit that no signal covers is 1", of the k lowest bits
unfoldable pub stray_below : ℕ → ℕ → List Row → Bool
stray_below zero n rs = false
stray_below (suc k) n rs = (not (covered rs k) && eqb (get_bits n k 1) 1) || stray_below k n rs

-- 5 before 6
unfoldable pub judged_number : ℕ → ℕ → ℕ → Judged
judged_number k bits n =
    cond (unlabelled n (rows_of k)) (Err (NoLabel (offender n (rows_of k))))
    (cond (stray_below bits n (rows_of k)) (Err UncoveredBit)
    (Ok (k, n)))

-- 02, Req 02: "4 when too short, 15 when too long"; "The order stays, with 15 in 4's place"
abbrev pub wrong_length : Row → List ℕ → Refusal
wrong_length r bs = cond (ltb (length bs) r.bytes) TooShort TooLong

-- 4 or 15 before them, for a message of the table; its number is read in its byte order
abbrev pub judged_row : Row → List ℕ → Judged
judged_row r bs = cond (eqb (length bs) r.bytes) (judged_number r.kind (8 * length bs) (number_of r.big bs)) (Err (wrong_length r bs))

abbrev pub judged_at : List ℕ → Option ℕ → Judged
judged_at bs (Some i) = judged_row (get_or rows i no_row) bs
judged_at bs None = Err UnknownIdentifier

-- 3 first: "identifier not in the table", in this form; 02, Req 04: "Refusal 3 and E4 now read over the wider table". Of the interface's own pages alone: a
-- reader without a post gives 3 for the other's identifiers
unfoldable pub judge_on : Interface → ℕ → Bool → List ℕ → Judged
judge_on iface m extended bs = judged_at bs (with_id iface m extended)

-- on the newer interface: the pages of 000 and 004
unfoldable pub judge_of : ℕ → Bool → List ℕ → Judged
judge_of m extended bs = judged_at bs (with_id Newer m extended)

-- the message that is found by its identifier, where it is one of the interface's, and `other` where it is not
abbrev pub judged_for : Interface → Refusal → List ℕ → Option ℕ → Judged
judged_for iface other bs (Some i) = cond (is_on iface (row_at i).kind) (judged_row (row_at i) bs) (Err other)
judged_for iface other bs None = Err UnknownIdentifier

-- by the interface's own pages, and `other` in 3's place for an identifier that only the other interface has
unfoldable pub judge_from : Interface → Refusal → ℕ → Bool → List ℕ → Judged
judge_from iface other m extended bs = judged_for iface other bs (first_at (has_id m extended) 0 rows)
