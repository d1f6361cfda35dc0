-- 01: "Changing one signal touches no bit outside it and gives the bytes of the changed message" (`change_message`), by the law of any type of messages.
-- Assumes nothing.
use Rattle.std.specs.Prelude.{Ok}
use mathlib.Core.Path.{◌≡◌}
use mathlib.Core.Bool.{Bool}
use mathlib.Core.List.{List}
use Prim.Native.Nat.{ℕ, ◌<◌}
use lib.IntN.{ℤ}
use lib.ListN.{length, get_or}
use Rattle.payload.specs.Payload.{Bytes}
use Rattle.page_table.specs.Table.{no_row, rows_of}
use Rattle.page_table.specs.declared.Interface.TheVariants.{Older}
use Rattle.page_change.specs.Change.{change_on, bytes_after}
use Rattle.message_laws.proofs.Typed as laws
use Rattle.older_types.specs.declared.Message.{Message}
use Rattle.older_types.specs.KindNumbers.{kind_of}
use Rattle.older.specs.Read.{read_of}
use Rattle.older.specs.Trips.{BytesWith}
use Rattle.older.proofs.Trips.{typed}

-- THEOREM: of a frame that reads as x, an accepted change to z of the signal that starts at s, the j-th of x's kind, leaves the bytes of x with z as number j
pub change_message : (m : ℕ) (extended : Bool) (bs : List ℕ) (x : Message) → read_of m extended bs ≡ Ok x → Bytes bs
    → (s : ℕ) (z : ℤ) (k n : ℕ) → change_on Older m extended bs s z ≡ Ok (k, n)
    → (j : ℕ) → j < length (rows_of (kind_of x)) → (get_or (rows_of (kind_of x)) j no_row).start ≡ s
    → BytesWith m extended (bytes_after bs (change_on Older m extended bs s z)) j z x
change_message m extended bs x r hb s z k n e j h starts = laws.change_message typed m extended bs x r hb s z k n e j h starts
