-- 01, "Numbers given back": the case of each refusal that reading and writing a message give.
use Rattle.std.specs.Prelude.{ℕ, ◌<◌, ◌≡◌, true, false, ◌⊎◌, List, pos, length, get_or, Err}
use Rattle.refusals.specs.declared.Refusal.{Refusal}
use Rattle.refusals.specs.Refusals.{number_of}
use Rattle.page_table.specs.Table.{no_row, rows_of, length_of}
use Rattle.message_laws.specs.Fits.{row_fits}
use Rattle.older_types.specs.declared.Message.{Message}
use Rattle.older_types.specs.KindNumbers.{kind_of}
use Rattle.older_take.specs.Take.{raws_of, has_raws}
use Rattle.older.specs.Reading.{Reading}
use Rattle.older.specs.Writable.{writable}

-- reading answers the refusal with the number c
abbrev pub ReadGives : ℕ → Reading → Type 0
ReadGives c a = (w : Refusal) × (a ≡ Err w) × (number_of w ≡ c)

-- 7: "a value to be written has no raw number, or a raw number does not fit its signal"
abbrev pub Unwritable : Message → Type 0
Unwritable x =
    (has_raws x ≡ false) ⊎ ((j : ℕ) × (j < length (rows_of (kind_of x))) × (row_fits (get_or (rows_of (kind_of x)) j no_row) (get_or (raws_of x) j (pos 0)) ≡ false))

-- 8: "lent buffer shorter than the message", of a message that can be written
abbrev pub NoRoom : Message → List ℕ → Type 0
NoRoom x buf = (writable x ≡ true) × (length buf < length_of (kind_of x))
