-- Packing the numbers of a message's rows onto a number, row by row.
use Rattle.std.proofs.Common.{◌≡◌, ℕ, true, false, cond, List, [], ◌∷◌, Option, Some, None, ℤ, refl}
use Rattle.page_read.specs.page_table.specs.declared.Row.{Row}
use Rattle.page_write.specs.Raws.{row_takes, put_raw, all_take, packed_on}
use Rattle.page_write.specs.Steps.{pack_of}

-- `pack_of` onto a number
unfoldable pub pack_from : ℕ → List Row → List ℤ → Option ℕ
pack_from n rs zs = cond (all_take rs zs) (Some (packed_on n rs zs)) None

pub from_start : (rs : List Row) (zs : List ℤ) → pack_from 0 rs zs ≡ pack_of rs zs
unfolding pack_from pack_of
from_start rs zs = refl

pub from_none : (n : ℕ) (zs : List ℤ) → pack_from n [] zs ≡ Some n
unfolding pack_from all_take packed_on
from_none n zs = refl

pub from_short : (n : ℕ) (r : Row) (rs : List Row) → pack_from n (r ∷ rs) [] ≡ None
unfolding pack_from all_take
from_short n r rs = refl

pub from_taken : (n : ℕ) (r : Row) (rs : List Row) (z : ℤ) (zs : List ℤ) → row_takes r z ≡ true → pack_from n (r ∷ rs) (z ∷ zs) ≡ pack_from (put_raw r n z) rs zs
unfolding pack_from all_take packed_on
from_taken n r rs z zs t = rw t

pub from_refused : (n : ℕ) (r : Row) (rs : List Row) (z : ℤ) (zs : List ℤ) → row_takes r z ≡ false → pack_from n (r ∷ rs) (z ∷ zs) ≡ None
unfolding pack_from all_take
from_refused n r rs z zs t = rw t
