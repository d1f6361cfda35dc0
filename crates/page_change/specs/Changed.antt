-- What an accepted change passed.
use Rattle.std.specs.Prelude.{ℕ, ◌≡◌, Bool, true, List, ℤ}
use Rattle.payload.specs.Payload.{number_of}
use Rattle.signal.specs.Raw.{fits_in, bits_in}
use Rattle.page_write.specs.page_table.specs.declared.Interface.{Interface}
use Rattle.page_write.specs.page_table.specs.declared.Row.{Row}
use Rattle.page_write.specs.page_table.specs.Table.{big_of, takes}
use Rattle.page_write.specs.page_table.specs.Listed.{SignalAt}
use Rattle.page_write.specs.Taken.{Taken}
use Rattle.page_write.specs.Raws.{put_raw}

-- the lent frame is one of kind k, the signal is that row's, z fits it and has its label, and n' is the frame's number with z put there
pub record Changed (iface : Interface) (m : ℕ) (extended : Bool) (bs : List ℕ) (s : ℕ) (z : ℤ) (k n' : ℕ) : Type 0 where
  pub read : Taken iface m extended bs k (number_of (big_of k) bs)
  pub row : Row
  pub signal : SignalAt k s row
  pub fits : fits_in row.signed row.width z ≡ true
  pub labelled : takes row.labels (bits_in row.signed row.width z) ≡ true
  pub put : n' ≡ put_raw row (number_of (big_of k) bs) z
