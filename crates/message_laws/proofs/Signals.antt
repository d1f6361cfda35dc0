-- Number j of a message fits signal j of its kind (`fits-at`); and the number of signal j of a payload is that of the field, or of the label, that it makes
-- (`field_back`, `label-back`). Assumes nothing.
use mathlib.Core.Path.{◌≡◌, ap}
use mathlib.Core.Bool.{true, false, not}
use mathlib.Core.List.{List, [], ◌∷◌}
use Prim.Native.Nat.{ℕ, zero, suc, ◌<◌}
use native.Mathlib.Nat.{le_of_suc-le-suc, not-suc-le-zero}
use lib.Dec.{T, ltb, leb, lit≤, ltb→lt}
use lib.ListN.{length, get_or}
use lib.IntN.{ℤ, pos}
use borrow.Author.Tests.{not-false}
use Rattle.signal.specs.Raw.{fits_in, bits_in}
use Rattle.signal.proofs.Laws.{get_lt}
use Rattle.signal.proofs.RawLaws.{value_fits}
use Rattle.page_change.specs.page_table.specs.declared.Row.{Row}
use Rattle.page_change.specs.page_table.specs.Table.{no_row, rows_of, lowest, bits_at, takes}
use Rattle.page_change.specs.page_read.specs.Judge.{unlabelled}
use Rattle.page_change.specs.page_write.specs.Raws.{whole_at, all_take}
use Rattle.page_change.specs.page_table.proofs.Rules.{both_true, either_false}
use Rattle.page_change.specs.page_write.proofs.Trips.{takes_at}
use Rattle.message_fields.specs.Fields.{at}
use Rattle.message_fields.proofs.FieldLaws.{Field}
use Rattle.message_laws.proofs.Labelled.{Label, signal_at}

-- ---- a message's numbers

pub fits_at : (k : ℕ) (zs : List ℤ) → all_take (rows_of k) zs ≡ true → (j : ℕ) → T (ltb j (length (rows_of k))) → fits_in (signal_at k j).signed (signal_at k j).width (at zs j) ≡ true
fits_at k zs e j t =
    (both_true (fits_in (signal_at k j).signed (signal_at k j).width (at zs j)) (takes (signal_at k j).labels (bits_in (signal_at k j).signed (signal_at k j).width (at zs j)))
    (takes_at (rows_of k) zs e j (ltb→lt j (length (rows_of k)) t))).0

-- ---- a payload's

labelled_at : (n : ℕ) (rs : List Row) → unlabelled n rs ≡ false → (j : ℕ) → j < length rs → takes (get_or rs j no_row).labels (bits_at n (get_or rs j no_row)) ≡ true
unfolding unlabelled
labelled_at n [] e j h = absurd (not-suc-le-zero h)
labelled_at n (r ∷ rs) e zero h = not-false (takes r.labels (bits_at n r)) (either_false (not (takes r.labels (bits_at n r))) (unlabelled n rs) e).0
labelled_at n (r ∷ rs) e (suc j) h = labelled_at n rs (either_false (not (takes r.labels (bits_at n r))) (unlabelled n rs) e).1 j (le_of_suc-le-suc h)

pub whole_fits : (n k j : ℕ) → T (leb 1 (signal_at k j).width) → fits_in (signal_at k j).signed (signal_at k j).width (whole_at n (signal_at k j)) ≡ true
whole_fits n k j t =
    let r = signal_at k j in
    value_fits r.signed r.width (lit≤ t) (bits_at n r) (get_lt n (lowest r) r.width)

pub field_back : (n k j : ℕ) → T (leb 1 (signal_at k j).width)
    → {A : Type 0} {raw : A → ℤ} {of : ℤ → A} → Field raw of (signal_at k j).signed (signal_at k j).width
    → raw (of (whole_at n (signal_at k j))) ≡ whole_at n (signal_at k j)
field_back n k j t f = f.back (whole_at n (signal_at k j)) (whole_fits n k j t)

pub label_back : (n k : ℕ) → unlabelled n (rows_of k) ≡ false → (j : ℕ) → T (ltb j (length (rows_of k)))
    → {L : Type 0} {number : L → ℕ} {of : ℕ → L} → Label number of (signal_at k j)
    → pos (number (of (bits_at n (signal_at k j)))) ≡ pos (bits_at n (signal_at k j))
label_back n k e j t l =
    let r = signal_at k j in
    ap pos (l.back (bits_at n r) (labelled_at n (rows_of k) e j (ltb→lt j (length (rows_of k)) t)) (get_lt n (lowest r) r.width))
