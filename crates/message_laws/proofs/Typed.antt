-- 01: "Every allowed frame is read to its one message; writing it gives the same bytes, and what is written reads back as itself", "Changing one signal ..
-- gives the bytes of the changed message": of any type of messages over the pages, with its reader and its writer (`Typed`), on the interface that has them,
-- and so proved once for the messages of every document. Assumes nothing.
use Rattle.std.specs.Prelude.{Ok, Err}
use mathlib.Core.Path.{◌≡◌, refl, sym, ap, ap₂, ◌∙◌, subst}
use mathlib.Core.Bool.{Bool, true, false, cond, ◌&&◌}
use mathlib.Core.List.{List, ◌++◌}
use Prim.Native.Nat.{ℕ, ◌≤◌, ◌<◌}
use native.Mathlib.Omega.{arith}
use lib.Dec.{leb}
use lib.IntN.{ℤ}
use lib.ListN.{length, get_or, take, drop}
use lib.Seq.{take_at, drop_at}
use borrow.Author.Tests.{le-leb, leb-true, leb-false}
use Rattle.refusals.proofs.Pairs.{ok_pair}
use Rattle.page_change.specs.payload.specs.Payload.{number_of, bytes_of, stored_in, Bytes}
use Rattle.page_change.specs.payload.proofs.Orders.{length_of_lem}
use Rattle.page_change.specs.payload.proofs.Stored.{stored_in_lem, stored_not}
use Rattle.refusals.specs.declared.Refusal.{Refusal}
use Rattle.refusals.specs.declared.Refusal.TheVariants.{NoRawNumber}
use Rattle.page_change.specs.page_table.specs.declared.Interface.{Interface}
use Rattle.page_change.specs.page_table.specs.Interfaces.{is_on}
use Rattle.page_change.specs.page_table.specs.Table.{no_row, rows_of, identifier_of, extended_of, length_of, big_of}
use Rattle.page_change.specs.page_read.specs.Judge.{judge_on}
use Rattle.page_change.specs.page_write.specs.Written.{Written}
use Rattle.page_change.specs.page_table.specs.Table.{signal_count}
use Rattle.page_change.specs.page_write.specs.Raws.{pad, packed_on, raws_of, written_by, write_raws_of, buffer_after}
use Rattle.page_change.specs.page_write.proofs.Trips.{accepts}
use Rattle.page_change.specs.Change.{change_on, bytes_after}
use Rattle.page_change.proofs.Changes as changes
use Rattle.message_fields.specs.Fields.{at}
use Rattle.message_laws.specs.Fits.{all_fit}
use Rattle.message_laws.specs.WithRaw.{WithRaw}
use Rattle.message_laws.specs.Trips.{WrittenAs, BytesWith}
use Rattle.message_laws.proofs.Codec as codecs
use Rattle.message_laws.proofs.Codec.{Codec, Same, back_is}
use Rattle.message_laws.proofs.Changing.{changed_same, changed_message, changed_bytes}

-- reading answers the message of an accepted frame of an own kind, and writing what the pages' writer does with the message's raw numbers
pub record Typed {M R : Type 0} {kind : M → ℕ} {raws : M → List ℤ} {valued : M → Bool} {built : ℕ → (ℕ → ℤ) → M} {own : ℕ → Type 0}
    (c : Codec kind raws valued built own) (iface : Interface) (read : ℕ → Bool → List ℕ → R) (is : M → R)
    (write : M → List ℕ → Written) (after : M → List ℕ → List ℕ) : Type 0 where
  pub one : (x y : M) → is x ≡ is y → x ≡ y
  pub owned : (x : M) → own (kind x)
  pub has : (x : M) → is_on iface (kind x) ≡ true
  -- messages of one identifier have one form
  pub formed : (x y : M) → identifier_of (kind x) ≡ identifier_of (kind y) → extended_of (kind x) ≡ extended_of (kind y)
  pub read_frame : (m : ℕ) (extended : Bool) (bs : List ℕ) (k n : ℕ) → judge_on iface m extended bs ≡ Ok (k, n) → own k
      → read m extended bs ≡ is (built k (at (raws_of k n)))
  pub frame_read : (m : ℕ) (extended : Bool) (bs : List ℕ) (x : M) → read m extended bs ≡ is x
      → (k : ℕ) × (n : ℕ) × (judge_on iface m extended bs ≡ Ok (k, n)) × own k × (built k (at (raws_of k n)) ≡ x)
  pub written : (x : M) (buf : List ℕ) → write x buf ≡ cond (valued x) (write_raws_of (kind x) (pad signal_count (raws x)) buf) (Err NoRawNumber)
  pub left : (x : M) (buf : List ℕ) → after x buf ≡ cond (valued x) (buffer_after (kind x) (pad signal_count (raws x)) buf) buf

module _ {M R : Type 0} {kind : M → ℕ} {raws : M → List ℤ} {valued : M → Bool} {built : ℕ → (ℕ → ℤ) → M} {own : ℕ → Type 0}
    {c : Codec kind raws valued built own} {iface : Interface} {read : ℕ → Bool → List ℕ → R} {is : M → R}
    {write : M → List ℕ → Written} {after : M → List ℕ → List ℕ} (t : Typed c iface read is write after) where
  abbrev writable : M → Bool
  writable x = valued x && all_fit (rows_of (kind x)) (raws x)

  abbrev payload : M → ℕ
  payload x = packed_on 0 (rows_of (kind x)) (raws x)

  abbrev bytes : M → List ℕ
  bytes x = bytes_of (big_of (kind x)) (length_of (kind x)) (payload x)

  abbrev has_room : M → List ℕ → Bool
  has_room x buf = leb (length_of (kind x)) (length buf)

  -- ---- writing

  pub write_answer : (x : M) (buf : List ℕ) → write x buf ≡ written_by (kind x) (writable x) (has_room x buf)
  write_answer x buf = t.written x buf ∙ codecs.answers c x buf

  pub buffer_answer : (x : M) (buf : List ℕ) → after x buf ≡ cond (writable x) (stored_in (big_of (kind x)) (length_of (kind x)) (payload x) buf) buf
  buffer_answer x buf = t.left x buf ∙ codecs.buffers c x buf

  -- a message that is written, into room enough
  module _ (x : M) (buf : List ℕ) (w : writable x ≡ true) (room : length_of (kind x) ≤ length buf) where
    pub writes : write x buf ≡ Ok (identifier_of (kind x), length_of (kind x))
    writes = write_answer x buf ∙ ap₂ (written_by (kind x)) w (le-leb (length_of (kind x)) (length buf) room)

    pub stores : after x buf ≡ bytes x ++ drop (length_of (kind x)) buf
    stores =
        buffer_answer x buf
        ∙ ap (λ (b : Bool). cond b (stored_in (big_of (kind x)) (length_of (kind x)) (payload x) buf) buf) w
        ∙ stored_in_lem (big_of (kind x)) (length_of (kind x)) (payload x) buf room

  -- what is known of a message that was written
  pub record Writes (x : M) (buf : List ℕ) (m k : ℕ) : Type 0 where
    pub fits : writable x ≡ true
    pub room : length_of (kind x) ≤ length buf
    pub identifier : identifier_of (kind x) ≡ m
    pub sized : length_of (kind x) ≡ k

  pub wrote : (x : M) (buf : List ℕ) (m k : ℕ) → write x buf ≡ Ok (m, k) → Writes x buf m k
  wrote x buf m k e = go (writable x) (has_room x buf) refl refl (sym (write_answer x buf) ∙ e)
    where
      go : (a b : Bool) → writable x ≡ a → has_room x buf ≡ b → written_by (kind x) a b ≡ Ok (m, k) → Writes x buf m k
      go true true p q e = record { fits = p; room = leb-true (length_of (kind x)) (length buf) q; identifier = (ok_pair e).0; sized = (ok_pair e).1 }
      go true false p q e = absurd (let z : ◌≡◌ {A = ℕ} 0 1 = cc in omega arith)
      go false true p q e = absurd (let z : ◌≡◌ {A = ℕ} 0 1 = cc in omega arith)
      go false false p q e = absurd (let z : ◌≡◌ {A = ℕ} 0 1 = cc in omega arith)

  -- THEOREM: 01, "lent bytes stay as they were": a refused message leaves the buffer whole
  pub write_refused : (x : M) (buf : List ℕ) (w : Refusal) → write x buf ≡ Err w → after x buf ≡ buf
  write_refused x buf w e = buffer_answer x buf ∙ go (writable x) (has_room x buf) refl (sym (write_answer x buf) ∙ e)
    where
      go : (a b : Bool) → has_room x buf ≡ b → written_by (kind x) a b ≡ Err w
          → cond a (stored_in (big_of (kind x)) (length_of (kind x)) (payload x) buf) buf ≡ buf
      go true true q e = absurd (let z : ◌≡◌ {A = ℕ} 0 1 = cc in omega arith)
      go true false q e = stored_not (big_of (kind x)) (length_of (kind x)) (payload x) buf (leb-false (length_of (kind x)) (length buf) q)
      go false b q e = refl

  -- ---- an accepted frame, as its message writes it

  same : (m : ℕ) (extended : Bool) (bs : List ℕ) (x : M) → read m extended bs ≡ is x → Bytes bs → Same c m extended bs x
  same m extended bs x e hb =
      let f = t.frame_read m extended bs x e in
      subst (Same c m extended bs) f.4 (codecs.same c iface m extended bs f.0 f.1 f.2 f.3 hb)

  -- a message is read in its kind's form alone
  pub read_form : (m : ℕ) (extended : Bool) (bs : List ℕ) (x : M) → read m extended bs ≡ is x → Bytes bs → extended_of (kind x) ≡ extended
  read_form m extended bs x e hb = (same m extended bs x e hb).form

  -- it is written as the bytes whose message it is
  same-written : (m : ℕ) (extended : Bool) (bs : List ℕ) (x : M) → Same c m extended bs x → WrittenAs kind raws valued read is write after m bs x
  same-written m extended bs x f buf room =
      let h : length_of (kind x) ≤ length buf = omega (arith, f.sized) in (
        writes x buf f.fits h ∙ ap₂ (λ (u v : ℕ). Ok (u, v)) f.identifier f.sized,
        stores x buf f.fits h ∙ ap₂ (λ (cs : List ℕ) (i : ℕ). cs ++ drop i buf) f.bytes f.sized,
      )

  -- THEOREM: 01, "Every allowed frame is read to its one message; writing it gives the same bytes"
  pub read_write : (m : ℕ) (extended : Bool) (bs : List ℕ) (x : M) → read m extended bs ≡ is x → Bytes bs → WrittenAs kind raws valued read is write after m bs x
  read_write m extended bs x e hb = same-written m extended bs x (same m extended bs x e hb)

  -- ---- a message, as its bytes are read

  reads : (x : M) → writable x ≡ true → read (identifier_of (kind x)) (extended_of (kind x)) (bytes x) ≡ is x
  reads x w =
      let r = codecs.reads c iface x (t.has x) w in
      t.read_frame (identifier_of (kind x)) (extended_of (kind x)) (bytes x) (kind x) (payload x) r.0 (t.owned x) ∙ ap is r.1

  -- THEOREM: 01, "what is written reads back as itself", and the buffer changes nowhere else
  pub write_read : (x : M) (buf : List ℕ) (m k : ℕ) → write x buf ≡ Ok (m, k)
      → (read m (extended_of (kind x)) (take k (after x buf)) ≡ is x) × (drop k (after x buf) ≡ drop k buf)
  write_read x buf m k e =
      let w = wrote x buf m k e in
      let bs = bytes x in
      let l : length (bytes x) ≡ k = length_of_lem (big_of (kind x)) (length_of (kind x)) (payload x) ∙ w.sized in
      let b : after x buf ≡ bs ++ drop k buf = stores x buf w.fits w.room ∙ ap (λ (i : ℕ). bs ++ drop i buf) w.sized in (
        ap₂ (λ (i : ℕ) (cs : List ℕ). read i (extended_of (kind x)) cs) (sym w.identifier) (ap (take k) b ∙ take_at bs (drop k buf) k l) ∙ reads x w.fits,
        ap (drop k) b ∙ drop_at bs (drop k buf) k l,
      )

  -- THEOREM: no two messages are written as the same bytes under the same identifier
  pub one_message_lem : (x y : M) (buf buf' : List ℕ) (m k k' : ℕ) → write x buf ≡ Ok (m, k) → write y buf' ≡ Ok (m, k')
      → take k (after x buf) ≡ take k' (after y buf') → x ≡ y
  one_message_lem x y buf buf' m k k' e f s =
      let p = (write_read x buf m k e).0 in
      let q = (write_read y buf' m k' f).0 in
      let i = t.formed x y ((wrote x buf m k e).identifier ∙ sym (wrote y buf' m k' f).identifier) in
      t.one x y (sym p ∙ ap₂ (read m) i s ∙ q)

  -- ---- one signal changed

  -- the message of a payload number
  abbrev message_in : ℕ → ℕ → M
  message_in k n = built k (at (raws_of k n))

  -- THEOREM: of a frame that reads as x, an accepted change to z of the signal that starts at s, the j-th of x's kind, leaves the bytes of x with z as number j
  pub change_message : (m : ℕ) (extended : Bool) (bs : List ℕ) (x : M) → read m extended bs ≡ is x → Bytes bs
      → (s : ℕ) (z : ℤ) (k n : ℕ) → change_on iface m extended bs s z ≡ Ok (k, n)
      → (j : ℕ) → j < length (rows_of (kind x)) → (get_or (rows_of (kind x)) j no_row).start ≡ s
      → BytesWith kind raws valued read is write after m extended (bytes_after bs (change_on iface m extended bs s z)) j z x
  change_message m extended bs x r hb s z k n e j h starts =
      let n₀ = number_of (big_of k) bs in
      let f = t.frame_read m extended bs x r in
      let u = (changes.changed iface m extended bs s z k n e).read in
      let q : Ok (f.0, f.1) ≡ Ok (k, n₀) = sym f.2 ∙ accepts iface m extended bs k n₀ u in
      let qk = (ok_pair q).0 in
      let qn = (ok_pair q).1 in
      let o : own k = subst own qk f.3 in
      let is_x : message_in k n₀ ≡ x = ap₂ message_in (sym qk) (sym qn) ∙ f.4 in
      let kind-x : kind x ≡ k = ap kind (sym is_x) ∙ (back_is c k n₀ o u.labelled).0 in
      let cs = bytes_after bs (change_on iface m extended bs s z) in
      let its = changed_same c iface m extended bs s z k n e hb o in
      let with : WithRaw kind raws j z x (message_in k n)
      = subst (λ (y : M). WithRaw kind raws j z y (message_in k n)) is_x
      (changed_message c iface m extended bs s z k n e hb o j (subst (λ (i : ℕ). j < length (rows_of i)) kind-x h)
      (subst (λ (i : ℕ). (get_or (rows_of i) j no_row).start ≡ s) kind-x starts)) in
      record {
        message = message_in k n;
        reads = t.read_frame m extended cs k n (changes.change_read iface m extended bs s z k n e hb).0 o;
        changed = with;
        writes = same-written m extended cs (message_in k n) its;
        any = λ y w d. same-written m extended cs y (changed_bytes c m extended cs (message_in k n) y its (d.0 ∙ sym with.0) (d.1 ∙ sym with.1) w);
      }
