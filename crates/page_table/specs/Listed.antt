-- What stands in the lists of messages and rows, said without a search: the refusals are told by it.
use Rattle.std.specs.Prelude.{ℕ, ◌<◌, ◌≡◌, Bool, ◌⊎◌, List, [], ◌∷◌, length}
use Rattle.page_table.specs.declared.Row.{Row}
use Rattle.page_table.specs.Messages.{messages, message_of}
use Rattle.page_table.specs.Table.{rows_of}

-- r is one of the rows
abbrev pub Among : Row → List Row → Type 0
Among r [] = ⊥
Among r (q ∷ rs) = (r ≡ q) ⊎ Among r rs

-- message k of the table has the identifier i, in the form x
pub record Listed (i : ℕ) (x : Bool) (k : ℕ) : Type 0 where
  pub in_table : k < length messages
  pub identifier : (message_of k).0 ≡ i
  pub form : (message_of k).1 ≡ x

-- r is the signal of kind k that starts at s
pub record SignalAt (k s : ℕ) (r : Row) : Type 0 where
  pub is_signal : Among r (rows_of k)
  pub start : r.start ≡ s
