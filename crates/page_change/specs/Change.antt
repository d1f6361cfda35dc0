-- What changing a signal answers, and the lent bytes afterwards.
use Rattle.std.specs.Prelude.{ℕ, Bool, cond, List, length, get_or, ℤ, Some, None, Ok, Err, Option}
use Rattle.payload.specs.Payload.{bytes_of}
use Rattle.signal.specs.Raw.{fits_in, bits_in}
use Rattle.page_write.specs.page_table.specs.declared.Interface.{Interface}
use Rattle.page_write.specs.page_table.specs.declared.Row.{Row}
use Rattle.page_write.specs.page_read.specs.Judged.{Judged}
use Rattle.refusals.specs.declared.Refusal.TheVariants.{NoLabel, NoRawNumber, NoSignal}
use Rattle.page_write.specs.page_table.specs.Table.{rows, no_row, big_of, first_at, is_signal, takes}
use Rattle.page_write.specs.page_read.specs.Judge.{judge_on, judge_of}
use Rattle.page_write.specs.Raws.{put_raw}

-- 7, then 5 for the new label, with the start of the changed signal: by whether the number fits, and whether it has a label
abbrev pub changed_by : Row → ℕ → ℕ → ℤ → Bool → Bool → Judged
changed_by r k n z fits labelled =
    cond fits
    (cond labelled (Ok (k, put_raw r n z)) (Err (NoLabel r.start)))
    (Err NoRawNumber)

abbrev pub changed_row : Row → ℕ → ℕ → ℤ → Judged
changed_row r k n z = changed_by r k n z (fits_in r.signed r.width z) (takes r.labels (bits_in r.signed r.width z))

-- 13 before them
abbrev pub changed_at : ℕ → ℕ → ℤ → Option ℕ → Judged
changed_at k n z (Some i) = changed_row (get_or rows i no_row) k n z
changed_at k n z None = Err NoSignal

-- the frame's own 3 to 6 first
abbrev pub changed_in : ℕ → ℤ → Judged → Judged
changed_in s z (Ok (k, n)) = changed_at k n z (first_at (is_signal k s) 0 rows)
changed_in s z (Err w) = Err w

unfoldable pub change_on : Interface → ℕ → Bool → List ℕ → ℕ → ℤ → Judged
change_on iface m extended bs s z = changed_in s z (judge_on iface m extended bs)

-- on the newer interface
unfoldable pub change_of : ℕ → Bool → List ℕ → ℕ → ℤ → Judged
change_of m extended bs s z = changed_in s z (judge_of m extended bs)

-- a refusal leaves the bytes as they were
abbrev pub bytes_after : List ℕ → Judged → List ℕ
bytes_after bs (Ok (k, n)) = bytes_of (big_of k) (length bs) n
bytes_after bs (Err w) = bs
