-- What the bytes of an accepted change rest on: its signal lies in the lent bytes, and the changed number is theirs with the new bits put.
-- Assumes nothing.
use Rattle.std.specs.Prelude.{Some, Ok}
use mathlib.Core.Path.{◌≡◌, sym, ap, ap₂, ◌∙◌, subst}
use mathlib.Core.Bool.{Bool}
use mathlib.Core.List.{List}
use Prim.Native.Nat.{ℕ, ◌^◌, ◌≤◌, ◌<◌}
use lib.IntN.{ℤ}
use lib.ListN.{length, get_or}
use mir.Val.{to_z, of_z, SFits}
use mir.Syntax.{w64}
use Rattle.refusals.proofs.Pairs.{ok_pair}
use Rattle.signal.specs.Signal.{put_bits}
use Rattle.payload.specs.Payload.{number_of}
use Rattle.payload.specs.Order as order
use Rattle.signal.specs.Raw.{bits_in, bits_of}
use Rattle.signal.proofs.RawLaws.{bits_lt}
use Rattle.page_write.specs.page_table.specs.declared.Interface.{Interface}
use Rattle.page_write.specs.page_table.specs.declared.Row.{Row}
use Rattle.page_write.specs.page_table.specs.Table.{rows, no_row, row_at, big_of, first_at, is_signal}
use Rattle.page_write.specs.page_table.specs.Listed.{SignalAt}
use Rattle.page_write.specs.page_read.specs.Judge.{judge_on}
use Rattle.page_write.specs.Raws.{put_raw}
use Rattle.page_change.specs.Change.{change_on}
use Rattle.page_change.specs.Changed.{Changed}
use Rattle.page_write.specs.page_table.proofs.Rules.{among_kept, row_message}
use Rattle.page_write.specs.page_table.proofs.Listed.{found_signal}
use Rattle.page_write.proofs.Trips.{accepts}
use Rattle.page_write.proofs.AtRow.{bits_row}
use Rattle.page_change.proofs.Changes.{changed, one_row, signal_fine}

pub record Storing (r : Row) (bs : List ℕ) (k n v : ℕ) : Type 0 where
  pub same : r.big ≡ big_of k
  pub some : 1 ≤ r.width
  pub within : order.Inside r.big (length bs) r.start r.width
  pub narrow : v < 2 ^ r.width
  pub put : n ≡ put_bits (number_of r.big bs) (order.lowest r.big (length bs) r.start r.width) r.width v

-- the row that is found is the one that the change was made by
row_is : (iface : Interface) (m : ℕ) (x : Bool) (bs : List ℕ) (s : ℕ) (z : ℤ) (k n i k' n' : ℕ) → judge_on iface m x bs ≡ Ok (k, n) → first_at (is_signal k s) 0 rows ≡ Some i
    → (c : Changed iface m x bs s z k' n') → row_at i ≡ c.row
row_is iface m x bs s z k n i k' n' j f c =
    let a : judge_on iface m x bs ≡ Ok (k', number_of (big_of k') bs) = accepts iface m x bs k' (number_of (big_of k') bs) c.read in
    let same = (ok_pair (sym j ∙ a)).0 in
    one_row k' s c.row (row_at i) c.signal (subst (λ (y : ℕ). SignalAt y s (row_at i)) same (found_signal k s i f))

pub storing : (iface : Interface) (m : ℕ) (x : Bool) (bs : List ℕ) (s : ℕ) (z : ℤ) (k n i k' n' v : ℕ) (r : Row) → judge_on iface m x bs ≡ Ok (k, n) → first_at (is_signal k s) 0 rows ≡ Some i
    → r ≡ get_or rows i no_row → change_on iface m x bs s z ≡ Ok (k', n') → SFits w64 z → v ≡ bits_of r.signed r.width (to_z w64 (of_z w64 z)) → Storing r bs k' n' v
storing iface m x bs s z k n i k' n' v r j f q e h w =
    let c = changed iface m x bs s z k' n' e in
    let t = c.row in
    let same : r ≡ c.row = q ∙ row_is iface m x bs s z k n i k' n' j f c in
    let among = c.signal.is_signal in
    let fine = signal_fine k' s t c.signal in
    let kept = among_kept k' t among in
    let says = row_message k' t among in
    let size : t.bytes ≡ length bs = says.2 ∙ sym c.read.sized in
    subst (λ (y : Row). v ≡ bits_of y.signed y.width (to_z w64 (of_z w64 z)) → Storing y bs k' n' v) (sym same)
    (λ w.
    let b : v ≡ bits_in t.signed t.width z = w ∙ bits_row t fine z h c.fits in
    record {
      same = says.3;
      some = fine.0;
      within = subst (λ (y : ℕ). order.Inside t.big y t.start t.width) size kept.within;
      narrow = subst (λ (y : ℕ). y < 2 ^ t.width) (sym b) (bits_lt t.signed t.width fine.0 z c.fits);
      put =
          c.put
          ∙ ap (λ (y : Bool). put_raw t (number_of y bs) z) (sym says.3)
          ∙ ap₂ (λ (l y : ℕ). put_bits (number_of t.big bs) l t.width y)
          (kept.lowest_bit ∙ ap (λ (y : ℕ). order.lowest t.big y t.start t.width) size) (sym b);
    })
    w
