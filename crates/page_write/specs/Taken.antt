-- What a frame passed that an interface accepts.
use Rattle.std.specs.Prelude.{◌≡◌, ℕ, ◌*◌, ◌≤◌, Bool, true, false, List, length}
use Rattle.page_read.specs.payload.specs.Payload.{number_of}
use Rattle.page_read.specs.page_table.specs.declared.Interface.{Interface}
use Rattle.page_read.specs.page_table.specs.Interfaces.{is_on}
use Rattle.page_read.specs.page_table.specs.Table.{rows_of, identifier_of, extended_of, length_of, big_of}
use Rattle.page_read.specs.Judge.{unlabelled, stray_below}

-- the interface has its kind; it has the identifier, its form and the length of its kind, a label where there are labels, and no stray bit
pub record Taken (iface : Interface) (m : ℕ) (extended : Bool) (bs : List ℕ) (k n : ℕ) : Type 0 where
  pub own : is_on iface k ≡ true
  pub identifier : identifier_of k ≡ m
  pub form : extended_of k ≡ extended
  pub sized : length bs ≡ length_of k
  pub number : n ≡ number_of (big_of k) bs
  pub some : 1 ≤ length (rows_of k)
  pub labelled : unlabelled n (rows_of k) ≡ false
  pub clean : stray_below (8 * length bs) n (rows_of k) ≡ false
