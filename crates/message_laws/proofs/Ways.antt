-- What each kind of message shows of itself (`Ways`), and what follows for a type of messages over all its kinds (`Codec` in Codec.antt). Assumes nothing.
use mathlib.Core.Path.{◌≡◌}
use mathlib.Core.Bool.{Bool, true, false}
use mathlib.Core.List.{List}
use Prim.Native.Nat.{ℕ}
use lib.ListN.{length}
use lib.IntN.{ℤ}
use Rattle.page_change.specs.page_table.specs.Table.{rows_of}
use Rattle.page_change.specs.page_read.specs.Judge.{unlabelled}
use Rattle.page_change.specs.page_write.specs.Raws.{wholes_of, all_take}
use Rattle.message_fields.specs.Fields.{at}
use Rattle.message_laws.proofs.Fitting.{labels_at}

-- each value of such a message has a raw number
abbrev pub always : {A : Type 0} → A → Bool
always s = true

-- a kind of message: its number, its raw numbers, whether each of its values has one, and the message that raw numbers make
pub record Ways {A : Type 0} (k : ℕ) (raws : A → List ℤ) (valued : A → Bool) (of : (ℕ → ℤ) → A) : Type 0 where
  -- a number for each signal, a label where the signal has labels
  pub counted : (s : A) → length (raws s) ≡ length (rows_of k)
  pub labelled : (s : A) → labels_at (rows_of k) (raws s) ≡ true
  -- a message's numbers make it again
  pub there : (s : A) → valued s ≡ true → all_take (rows_of k) (raws s) ≡ true → of (at (raws s)) ≡ s
  -- a payload's numbers are those of its message, whose values have them
  pub back : (n : ℕ) → unlabelled n (rows_of k) ≡ false → raws (of (at (wholes_of n (rows_of k)))) ≡ wholes_of n (rows_of k)
  pub backed : (n : ℕ) → valued (of (at (wholes_of n (rows_of k)))) ≡ true
