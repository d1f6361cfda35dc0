-- Bytes and the message that they are, of any type of messages: as it is written, and with one signal changed.
use Rattle.std.specs.Prelude.{ℕ, ◌≤◌, ◌≡◌, Bool, true, ◌&&◌, List, ◌++◌, ℤ, length, drop, Ok}
use Rattle.page_change.specs.page_table.specs.Table.{rows_of}
use Rattle.page_change.specs.page_write.specs.Written.{Written}
use Rattle.message_laws.specs.Fits.{all_fit}
use Rattle.message_laws.specs.WithRaw.{WithRaw}

module _ {M R : Type 0} (kind : M → ℕ) (raws : M → List ℤ) (valued : M → Bool) (read : ℕ → Bool → List ℕ → R) (is : M → R)
    (write : M → List ℕ → Written) (after : M → List ℕ → List ℕ) where
  -- each value has a raw number, and each raw number fits its signal
  abbrev pub can_be : M → Bool
  can_be x = valued x && all_fit (rows_of (kind x)) (raws x)

  -- x is written under the identifier m as the bytes bs, into any buffer with room for them, whose other bytes stay
  abbrev pub WrittenAs : ℕ → List ℕ → M → Type 0
  WrittenAs m bs x = (buf : List ℕ) → length bs ≤ length buf → (write x buf ≡ Ok (m, length bs)) × (after x buf ≡ bs ++ drop (length bs) buf)

  -- the bytes bs are those of x with the raw number z at signal j: they read as it, it is written as them, and so is every writable message that is x so
  -- changed
  pub record BytesWith (m : ℕ) (extended : Bool) (bs : List ℕ) (j : ℕ) (z : ℤ) (x : M) : Type 0 where
    pub message : M
    pub reads : read m extended bs ≡ is message
    pub changed : WithRaw kind raws j z x message
    pub writes : WrittenAs m bs message
    pub any : (y : M) → can_be y ≡ true → WithRaw kind raws j z x y → WrittenAs m bs y
