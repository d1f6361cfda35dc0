-- 01, "Numbers given back": the case of each refusal that changing gives beside the frame's own.
use Rattle.std.specs.Prelude.{ℕ, ◌≡◌, Bool, true, false, List, ℤ, Ok}
use Rattle.signal.specs.Raw.{fits_in, bits_in}
use Rattle.page_write.specs.page_table.specs.declared.Interface.{Interface}
use Rattle.page_write.specs.page_table.specs.declared.Row.{Row}
use Rattle.page_write.specs.page_table.specs.Table.{takes}
use Rattle.page_write.specs.page_table.specs.Listed.{SignalAt}
use Rattle.page_write.specs.page_read.specs.Judge.{judge_on}

-- 13: "no signal of the message starts at that bit", of a frame that is accepted
pub record NoneStarts (iface : Interface) (m : ℕ) (x : Bool) (bs : List ℕ) (s : ℕ) : Type 0 where
  pub kind : ℕ
  pub number : ℕ
  pub accepted : judge_on iface m x bs ≡ Ok (kind, number)
  pub none : (r : Row) → SignalAt kind s r → ⊥

-- 7: "a raw number does not fit its signal"
pub record Unfit (iface : Interface) (m : ℕ) (x : Bool) (bs : List ℕ) (s : ℕ) (z : ℤ) : Type 0 where
  pub kind : ℕ
  pub number : ℕ
  pub accepted : judge_on iface m x bs ≡ Ok (kind, number)
  pub row : Row
  pub signal : SignalAt kind s row
  pub unfit : fits_in row.signed row.width z ≡ false

-- "then 5 for the new label": it fits, and has no label
pub record NewOffence (iface : Interface) (m : ℕ) (x : Bool) (bs : List ℕ) (s : ℕ) (z : ℤ) : Type 0 where
  pub kind : ℕ
  pub number : ℕ
  pub accepted : judge_on iface m x bs ≡ Ok (kind, number)
  pub row : Row
  pub signal : SignalAt kind s row
  pub fits : fits_in row.signed row.width z ≡ true
  pub offending : takes row.labels (bits_in row.signed row.width z) ≡ false
