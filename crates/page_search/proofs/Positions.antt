-- The first place of a message with an identifier and form, from a place on: at a message that has it, and behind one that has not. Assumes nothing.
use Rattle.std.specs.Prelude.{Some, ◌==◌}
use Rattle.std.specs.List.{position, position_from}
use Rattle.std.proofs.lemmas.List.{drop_more}
use Rattle.std.proofs.lemmas.Iterator.Adapters.{position_from-zero}
use mathlib.Core.Path.{◌≡◌, sym}
use mathlib.Core.Bool.{Bool, true, false}
use mathlib.Core.List.{List}
use Prim.Native.Nat.{ℕ, ◌+◌, ◌<◌}
use lib.ListN.{length, drop, get_or}
use Rattle.page_rows.specs.page_table.specs.declared.Message.{Message}
use Rattle.page_rows.specs.page_table.specs.Messages.{key_of}

abbrev pub has_key : ℕ → Bool → Message → Bool
has_key id extended m = key_of m.0 m.1 == key_of id extended

pub here : (p : Message → Bool) (k : ℕ) (ms : List Message) (d : Message) → k < length ms → p (get_or ms k d) ≡ true → position_from p k (drop k ms) ≡ Some k
here p k ms d l t = rw (drop_more ms k d l, t)

pub later : (p : Message → Bool) (k : ℕ) (ms : List Message) (d : Message) → k < length ms → p (get_or ms k d) ≡ false
    → position_from p k (drop k ms) ≡ position_from p (k + 1) (drop (k + 1) ms)
later p k ms d l t = rw (drop_more ms k d l, t)

pub whole : (p : Message → Bool) (ms : List Message) → position_from p 0 ms ≡ position p ms
whole p ms = sym (position_from-zero p ms)
