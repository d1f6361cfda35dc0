-- A frame and its raw numbers, there and back.
use Rattle.std.specs.Prelude.{◌≡◌, ℕ, true, List, length, take, ℤ, Ok}
use Rattle.page_read.specs.payload.specs.Payload.{bytes_of}
use Rattle.page_read.specs.page_table.specs.declared.Interface.{Interface}
use Rattle.page_read.specs.page_table.specs.Interfaces.{is_on}
use Rattle.page_read.specs.page_table.specs.Table.{rows_of, identifier_of, extended_of, length_of, big_of}
use Rattle.page_read.specs.Judge.{judge_on}
use Rattle.page_write.specs.Raws.{wholes_of, raws_of, packed_on, can_write}

-- the raw numbers of kind k in the payload number n can be written, and give n and the bytes again
pub record Back (k n : ℕ) (bs : List ℕ) : Type 0 where
  pub writes : can_write k (raws_of k n) ≡ true
  pub number : packed_on 0 (rows_of k) (raws_of k n) ≡ n
  pub bytes : bytes_of (big_of k) (length_of k) n ≡ bs

-- the frame with the payload number n is accepted on each interface that has its kind, and has the raw numbers again: one for each row
pub record There (k : ℕ) (zs : List ℤ) (n : ℕ) : Type 0 where
  pub reads : (iface : Interface) → is_on iface k ≡ true → judge_on iface (identifier_of k) (extended_of k) (bytes_of (big_of k) (length_of k) n) ≡ Ok (k, n)
  pub raws : wholes_of n (rows_of k) ≡ take (length (rows_of k)) zs
