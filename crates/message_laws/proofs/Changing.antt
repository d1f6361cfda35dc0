-- 01: "Changing one signal .. gives the bytes of the changed message", of any type of messages over the pages: the bytes of an accepted change are those of the
-- message of the same kind whose raw numbers are the first one's with the number that was asked for in the signal's place (`changed-message`, `changed-bytes`).
-- Assumes nothing.
use Rattle.std.specs.Prelude.{Ok}
use mathlib.Core.Path.{◌≡◌, sym, ap, ap₂, ◌∙◌, subst}
use mathlib.Core.Bool.{Bool, true, ◌&&◌}
use mathlib.Core.List.{List}
use Prim.Native.Nat.{ℕ, ◌<◌}
use lib.IntN.{ℤ}
use lib.ListN.{length, get_or, set}
use Rattle.page_change.specs.payload.specs.Payload.{number_of, bytes_of, Bytes}
use Rattle.page_change.specs.payload.proofs.Orders.{are_of}
use Rattle.page_change.specs.page_table.specs.declared.Interface.{Interface}
use Rattle.page_change.specs.page_table.specs.Table.{no_row, rows_of, identifier_of, extended_of, length_of, big_of}
use Rattle.page_change.specs.page_write.specs.Raws.{packed_on, raws_of}
use Rattle.page_change.specs.page_write.proofs.Trips.{accepted_on}
use Rattle.page_change.specs.Change.{change_on, bytes_after}
use Rattle.page_change.proofs.Changes.{changed, change_read, change_wholes}
use Rattle.message_fields.specs.Fields.{at}
use Rattle.message_laws.specs.Fits.{all_fit}
use Rattle.message_laws.specs.WithRaw.{WithRaw}
use Rattle.message_laws.proofs.Codec.{Codec, Same, same, back_is}

module _ {M : Type 0} {kind : M → ℕ} {raws : M → List ℤ} {valued : M → Bool} {built : ℕ → (ℕ → ℤ) → M} {own : ℕ → Type 0} (c : Codec kind raws valued built own) where
  module _ (iface : Interface) (m : ℕ) (extended : Bool) (bs : List ℕ) (s : ℕ) (z : ℤ) (k n : ℕ) (e : change_on iface m extended bs s z ≡ Ok (k, n)) (hb : Bytes bs) (o : own k) where
    -- the frame's message before and after
    abbrev pub before : M
    before = built k (at (raws_of k (number_of (big_of k) bs)))

    abbrev pub after : M
    after = built k (at (raws_of k n))

    after-bytes : Bytes (bytes_after bs (change_on iface m extended bs s z))
    after-bytes = subst Bytes (sym (ap (bytes_after bs) e)) (are_of (big_of k) (length bs) n)

    pub changed_same : Same c m extended (bytes_after bs (change_on iface m extended bs s z)) after
    changed_same =
        same c iface m extended (bytes_after bs (change_on iface m extended bs s z)) k n (change_read iface m extended bs s z k n e hb).0 o after-bytes

    pub changed_message : (j : ℕ) → j < length (rows_of k) → (get_or (rows_of k) j no_row).start ≡ s → WithRaw kind raws j z before after
    changed_message j h at =
        let t = accepted_on iface m extended (bytes_after bs (change_on iface m extended bs s z)) k n (change_read iface m extended bs s z k n e hb).0 in
        let x = back_is c k (number_of (big_of k) bs) o (changed iface m extended bs s z k n e).read.labelled in
        let y = back_is c k n o t.labelled in
        (y.0 ∙ sym x.0, y.1 ∙ change_wholes iface m extended bs s z k n e hb j h at ∙ ap (λ (zs : List ℤ). set zs j z) (sym x.1))

  -- a message that has the kind and the numbers of another has its bytes
  pub changed_bytes : (m : ℕ) (extended : Bool) (bs : List ℕ) (x y : M) → Same c m extended bs x → kind y ≡ kind x → raws y ≡ raws x
      → valued y && all_fit (rows_of (kind y)) (raws y) ≡ true → Same c m extended bs y
  changed_bytes m extended bs x y t k r w =
      record {
        fits = w;
        identifier = ap identifier_of k ∙ t.identifier;
        form = ap extended_of k ∙ t.form;
        sized = ap length_of k ∙ t.sized;
        bytes = ap₂ (λ (i : ℕ) (zs : List ℤ). bytes_of (big_of i) (length_of i) (packed_on 0 (rows_of i) zs)) k r ∙ t.bytes;
      }
