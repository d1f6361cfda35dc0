-- The answer of a change by what was read, by the search for the signal, and by the row that is found. Assumes nothing.
use Rattle.std.specs.Prelude.{Some, None, Ok, Err}
use mathlib.Core.Path.{◌≡◌, sym, ap, ap₂, ◌∙◌}
use mathlib.Core.Bool.{Bool}
use mathlib.Core.List.{List}
use Prim.Native.Nat.{ℕ}
use lib.IntN.{ℤ}
use Rattle.page_write.specs.page_table.specs.declared.Interface.{Interface}
use Rattle.page_write.specs.page_table.specs.declared.Row.{Row}
use Rattle.page_write.specs.page_read.specs.Judged.{Judged}
use Rattle.refusals.specs.declared.Refusal.{Refusal}
use Rattle.refusals.specs.declared.Refusal.TheVariants.{NoSignal}
use Rattle.page_write.specs.page_table.specs.Table.{rows, first_at, is_signal, row_at}
use Rattle.page_write.specs.page_read.specs.Judge.{judge_on}
use Rattle.page_change.specs.Change.{changed_row, changed_at, changed_in, change_on, bytes_after}

-- an answer that leaves the bytes as they were
pub ended : (bs : List ℕ) (w v : Refusal) (r a : Judged) → r ≡ Err v → v ≡ w → a ≡ Err w → (r ≡ a) × (bs ≡ bytes_after bs a)
ended bs w v r a e q f = (e ∙ ap Err q ∙ sym f, sym (ap (bytes_after bs) f))

module _ (iface : Interface) (m : ℕ) (x : Bool) (bs : List ℕ) (s : ℕ) (z : ℤ) where
  read : (j : Judged) → judge_on iface m x bs ≡ j → change_on iface m x bs s z ≡ changed_in s z j
  unfolding change_on
  read j e = ap (changed_in s z) e

  pub unread : (w : Refusal) → judge_on iface m x bs ≡ Err w → change_on iface m x bs s z ≡ Err w
  unread w e = read (Err w) e

  pub unfound : (k n : ℕ) → judge_on iface m x bs ≡ Ok (k, n) → first_at (is_signal k s) 0 rows ≡ None → change_on iface m x bs s z ≡ Err NoSignal
  unfound k n e f = read (Ok (k, n)) e ∙ ap (changed_at k n z) f

  pub by_row : (r : Row) (k n i : ℕ) (y : ℤ) → judge_on iface m x bs ≡ Ok (k, n) → first_at (is_signal k s) 0 rows ≡ Some i → r ≡ row_at i → y ≡ z
      → changed_row r k n y ≡ change_on iface m x bs s z
  by_row r k n i y e f q p = ap₂ (λ (v : Row) (u : ℤ). changed_row v k n u) q p ∙ sym (read (Ok (k, n)) e ∙ ap (changed_at k n z) f)
