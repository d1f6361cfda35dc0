-- 01, "Numbers given back": the case of each refusal that writing raw numbers gives.
use Rattle.std.specs.Prelude.{◌≡◌, ℕ, ◌<◌, true, false, ◌⊎◌, List, [], length, ℤ, pos, slice_index_or, Err}
use Rattle.refusals.specs.declared.Refusal.{Refusal}
use Rattle.refusals.specs.Refusals.{number_of}
use Rattle.page_read.specs.page_table.specs.Table.{no_row, rows_of, length_of}
use Rattle.page_write.specs.Written.{Written}
use Rattle.page_write.specs.Raws.{row_takes, can_write}

-- the answer is the refusal with the number c
abbrev pub Gives : ℕ → Written → Type 0
Gives c a = (w : Refusal) × (a ≡ Err w) × (number_of w ≡ c)

-- 7: "a raw number does not fit its signal", or has no label there; or the number k is no kind
abbrev pub Unwritable : ℕ → List ℤ → Type 0
Unwritable k zs = (rows_of k ≡ []) ⊎ ((j : ℕ) × (j < length (rows_of k)) × (row_takes (slice_index_or (rows_of k) j no_row) (slice_index_or zs j (pos 0)) ≡ false))

-- 8: "lent buffer shorter than the message", of raw numbers that can be written
abbrev pub NoRoom : ℕ → List ℤ → List ℕ → Type 0
NoRoom k zs buf = (can_write k zs ≡ true) × (length buf < length_of k)
