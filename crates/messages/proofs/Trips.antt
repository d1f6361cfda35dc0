-- 01: "Every allowed frame is read to its one message; writing it gives the same bytes, and what is written reads back as itself"
-- (`read-write`, `write_read`, `one-message`), of every kind at once, each in its form and byte order. A refused message leaves the buffer whole
-- (`write_refused`). By the laws of any type of messages (message_laws/proofs/Typed.antt). Assumes nothing.
use Rattle.std.specs.Prelude.{Ok, Err}
use mathlib.Core.Path.{◌≡◌, refl, sym, ap, ◌∙◌}
use mathlib.Core.Bool.{Bool}
use mathlib.Core.List.{List}
use Prim.Native.Nat.{ℕ}
use native.Mathlib.Omega.{arith}
use lib.Dec.{leb}
use lib.ListN.{length, take, drop}
use Rattle.payload.specs.Payload.{Bytes}
use Rattle.refusals.specs.declared.Refusal.{Refusal}
use Rattle.page_table.specs.declared.Interface.TheVariants.{Newer}
use Rattle.page_table.specs.Table.{length_of}
use Rattle.page_read.specs.Judged.{Judged}
use Rattle.page_read.specs.Judge.{judge_on, judge_of}
use Rattle.page_read.proofs.Interfaces.{newer, on_own, on_table}
use Rattle.message_types.specs.declared.Message.{Message}
use Rattle.message_types.specs.KindNumbers.{kind_of}
use Rattle.message_build.specs.Built.{message_of}
use Rattle.messages.specs.Reading.{Reading}
use Rattle.messages.specs.Read.{reading_of, read_of}
use Rattle.messages.specs.Write.{write_of, buffer_after}
use Rattle.messages.specs.Writable.{writable, form_of, answer_of}
use Rattle.messages.specs.Trips.{WrittenAs}
use Rattle.messages.proofs.Each.{one_form, own_kind, codec}
use Rattle.message_laws.proofs.Typed as laws

-- ---- reading

pub read_frame : (m : ℕ) (extended : Bool) (bs : List ℕ) (k n : ℕ) → judge_on Newer m extended bs ≡ Ok (k, n) → read_of m extended bs ≡ Ok (message_of k n)
unfolding read_of
read_frame m extended bs k n e = ap reading_of (newer m extended bs ∙ e)

-- the frame of a message that was read
pub frame_read : (m : ℕ) (extended : Bool) (bs : List ℕ) (x : Message) → read_of m extended bs ≡ Ok x
    → (k : ℕ) × (n : ℕ) × (judge_on Newer m extended bs ≡ Ok (k, n)) × (message_of k n ≡ x)
unfolding read_of
frame_read m extended bs x e = go (judge_of m extended bs) refl e
  where
    go : (j : Judged) → judge_of m extended bs ≡ j → reading_of j ≡ Ok x
        → (k : ℕ) × (n : ℕ) × (judge_on Newer m extended bs ≡ Ok (k, n)) × (message_of k n ≡ x)
    go (Ok (k, n)) q e = (k, n, sym (newer m extended bs) ∙ q, cc)
    go (Err w) q e = absurd (let z : ◌≡◌ {A = ℕ} 0 1 = cc in omega arith)

one : (x y : Message) → ◌≡◌ {A = Reading} (Ok x) (Ok y) → x ≡ y
one x y e = cc

pub typed : laws.Typed codec Newer read_of Ok write_of buffer_after
unfolding message_of write_of buffer_after
typed =
    record {
      one = one;
      owned = own_kind;
      has = λ x. (own_kind x).0;
      formed = one_form;
      read_frame = λ m extended bs k n e o. read_frame m extended bs k n e;
      frame_read = λ m extended bs x e. let f = frame_read m extended bs x e in
          let j = f.2 in
          (f.0, f.1, j, (on_own Newer m extended bs f.0 f.1 j, on_table Newer m extended bs f.0 f.1 j), f.3);
      written = λ x buf. refl;
      left = λ x buf. refl;
    }

-- ---- the theorems

pub write_answer : (x : Message) (buf : List ℕ) → write_of x buf ≡ answer_of x (writable x) (leb (length_of (kind_of x)) (length buf))
write_answer x buf = laws.write_answer typed x buf

-- THEOREM: 01, "lent bytes stay as they were": a refused message leaves the buffer whole
pub write_refused : (x : Message) (buf : List ℕ) (w : Refusal) → write_of x buf ≡ Err w → buffer_after x buf ≡ buf
write_refused x buf w e = laws.write_refused typed x buf w e

-- a message is read in its kind's form alone
pub read_form : (m : ℕ) (extended : Bool) (bs : List ℕ) (x : Message) → read_of m extended bs ≡ Ok x → Bytes bs → form_of x ≡ extended
read_form m extended bs x e hb = laws.read_form typed m extended bs x e hb

-- THEOREM: 01, "Every allowed frame is read to its one message; writing it gives the same bytes"
pub read_write : (m : ℕ) (extended : Bool) (bs : List ℕ) (x : Message) → read_of m extended bs ≡ Ok x → Bytes bs → WrittenAs m bs x
read_write m extended bs x e hb = laws.read_write typed m extended bs x e hb

-- THEOREM: 01, "what is written reads back as itself", and the buffer changes nowhere else
pub write_read : (x : Message) (buf : List ℕ) (m k : ℕ) → write_of x buf ≡ Ok (m, k)
    → (read_of m (form_of x) (take k (buffer_after x buf)) ≡ Ok x) × (drop k (buffer_after x buf) ≡ drop k buf)
write_read x buf m k e = laws.write_read typed x buf m k e

-- THEOREM: no two messages are written as the same bytes under the same identifier
pub one_message_lem : (x y : Message) (buf buf' : List ℕ) (m k k' : ℕ) → write_of x buf ≡ Ok (m, k) → write_of y buf' ≡ Ok (m, k')
    → take k (buffer_after x buf) ≡ take k' (buffer_after y buf') → x ≡ y
one_message_lem x y buf buf' m k k' e f s = laws.one_message_lem typed x y buf buf' m k k' e f s
