-- A message's raw numbers at its kind's signals: where its labels are those of the signals, a signal refuses only a number that does not fit (`take-fit`), and
-- the numbers of an array are those of its list (`at-pad`). Assumes nothing.
use mathlib.Core.Path.{◌≡◌, refl, ap, ap₂, ◌∙◌, fun_ext}
use mathlib.Core.Bool.{Bool, true, ◌&&◌, and-true}
use mathlib.Core.List.{List, [], ◌∷◌}
use Prim.Native.Nat.{◌≤◌}
use lib.ListN.{length}
use lib.IntN.{ℤ}
use Rattle.signal.specs.Raw.{fits_in, bits_in}
use Rattle.page_change.specs.page_table.specs.declared.Row.{Row}
use Rattle.page_change.specs.page_table.specs.Table.{takes}
use Rattle.page_change.specs.page_table.specs.Table.{signal_count}
use Rattle.page_change.specs.page_write.specs.Raws.{pad, all_take}
use Rattle.page_change.specs.page_table.proofs.Rules.{both_true}
use Rattle.page_change.specs.page_write.proofs.Trips.{pad_same}
use Rattle.message_fields.specs.Fields.{at}
use Rattle.message_laws.specs.Fits.{all_fit}

-- each label is its signal's
abbrev pub labels_at : List Row → List ℤ → Bool
labels_at [] zs = true
labels_at (r ∷ rs) [] = true
labels_at (r ∷ rs) (z ∷ zs) = takes r.labels (bits_in r.signed r.width z) && labels_at rs zs

pub take_fit : (rs : List Row) (zs : List ℤ) → labels_at rs zs ≡ true → all_take rs zs ≡ all_fit rs zs
unfolding all_take
take_fit [] zs e = refl
take_fit (r ∷ rs) [] e = refl
take_fit (r ∷ rs) (z ∷ zs) e =
    let f = fits_in r.signed r.width z in
    let b = both_true (takes r.labels (bits_in r.signed r.width z)) (labels_at rs zs) e in
    ap₂ (λ (x y : Bool). f && x && y) b.0 (take_fit rs zs b.1) ∙ ap (λ (x : Bool). x && all_fit rs zs) (and-true f)

-- an array of the numbers, with 0 where they end
pub at_pad : (zs : List ℤ) → length zs ≤ signal_count → at (pad signal_count zs) ≡ at zs
at_pad zs h = fun_ext (λ j. pad_same signal_count zs j h)
