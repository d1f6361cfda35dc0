-- A type of messages over the table whose raw numbers go there and back: what it writes (`answers`, `buffers`), an accepted frame as its message writes it
-- (`same`), and what is written is accepted and is the message again (`reads`). Of any such type, so of the messages of any document, on any
-- interface that has them. Assumes nothing.
use Rattle.std.specs.Prelude.{Ok, Err}
use mathlib.Core.Path.{◌≡◌, refl, sym, ap, ap₂, ◌∙◌, subst}
use mathlib.Core.Bool.{Bool, true, false, cond, ◌&&◌}
use mathlib.Core.List.{List}
use Prim.Native.Nat.{ℕ, ◌≤◌}
use native.Mathlib.Omega.{arith}
use lib.Dec.{leb}
use lib.ListN.{length}
use lib.IntN.{ℤ}
use lib.Seq.{take_all}
use borrow.Author.Tests.{le-leb}
use Rattle.page_change.specs.payload.specs.Payload.{bytes_of, stored_in, Bytes}
use Rattle.refusals.specs.declared.Refusal.TheVariants.{NoRawNumber}
use Rattle.page_change.specs.page_write.specs.Written.{Written}
use Rattle.page_change.specs.page_table.specs.declared.Interface.{Interface}
use Rattle.page_change.specs.page_table.specs.Interfaces.{is_on}
use Rattle.page_change.specs.page_table.specs.Table.{rows_of, identifier_of, extended_of, length_of, big_of}
use Rattle.page_change.specs.page_read.specs.Judge.{unlabelled, judge_on}
use Rattle.page_change.specs.page_table.specs.Table.{signal_count}
use Rattle.page_change.specs.page_write.specs.Raws.{wholes_of, pad, all_take, packed_on, can_write, raws_of, written_by, write_raws_of, buffer_after}
use Rattle.page_change.specs.page_table.proofs.Rules.{both_true, few}
use Rattle.page_change.specs.page_write.proofs.Trips.{accepted_on, back_on, raws_there, wholes_length, all_pad, packed_pad}
use Rattle.message_fields.specs.Fields.{at}
use Rattle.message_laws.specs.Fits.{all_fit}
use Rattle.message_laws.proofs.Fitting.{labels_at, take_fit, at_pad}

-- the message x of a payload's numbers: its kind, its numbers, and that each of its values has one
abbrev pub Back : {M : Type 0} → (M → ℕ) → (M → List ℤ) → (M → Bool) → ℕ → List ℤ → M → Type 0
Back kind raws valued k zs x = (kind x ≡ k) × (raws x ≡ zs) × (valued x ≡ true)

-- a type of messages: the kind of each, its raw numbers, whether each of its values has one, the message that a kind's numbers make, and its own kinds
pub record Codec {M : Type 0} (kind : M → ℕ) (raws : M → List ℤ) (valued : M → Bool) (built : ℕ → (ℕ → ℤ) → M) (own : ℕ → Type 0) : Type 0 where
  pub counted : (x : M) → length (raws x) ≡ length (rows_of (kind x))
  pub known : (x : M) → 1 ≤ length (rows_of (kind x))
  pub labelled : (x : M) → labels_at (rows_of (kind x)) (raws x) ≡ true
  pub there : (x : M) → valued x ≡ true → all_take (rows_of (kind x)) (raws x) ≡ true → built (kind x) (at (raws x)) ≡ x
  pub back : (k n : ℕ) → own k → unlabelled n (rows_of k) ≡ false → Back kind raws valued k (wholes_of n (rows_of k)) (built k (at (wholes_of n (rows_of k))))

-- the message of a payload number, of the signals' numbers alone
pub of_wholes : {M : Type 0} (built : ℕ → (ℕ → ℤ) → M) (k n : ℕ) → built k (at (raws_of k n)) ≡ built k (at (wholes_of n (rows_of k)))
unfolding raws_of
of_wholes built k n = ap (built k) (at_pad (wholes_of n (rows_of k)) (omega (arith, wholes_length n (rows_of k), few k)))

module _ {M : Type 0} {kind : M → ℕ} {raws : M → List ℤ} {valued : M → Bool} {built : ℕ → (ℕ → ℤ) → M} {own : ℕ → Type 0} (c : Codec kind raws valued built own) where
  -- each value has a raw number, and each raw number fits its signal
  abbrev writable : M → Bool
  writable x = valued x && all_fit (rows_of (kind x)) (raws x)

  abbrev payload : M → ℕ
  payload x = packed_on 0 (rows_of (kind x)) (raws x)

  abbrev bytes : M → List ℕ
  bytes x = bytes_of (big_of (kind x)) (length_of (kind x)) (payload x)

  -- a signal refuses only a number that does not fit
  pub labels : (x : M) → all_take (rows_of (kind x)) (raws x) ≡ all_fit (rows_of (kind x)) (raws x)
  labels x = take_fit (rows_of (kind x)) (raws x) (c.labelled x)

  -- a number for each signal, and room for them
  enough : (x : M) → length (rows_of (kind x)) ≤ length (raws x)
  enough x = omega (arith, c.counted x)

  can-is : (x : M) → can_write (kind x) (pad signal_count (raws x)) ≡ all_fit (rows_of (kind x)) (raws x)
  can-is x =
      let rs = rows_of (kind x) in
      ap₂ (λ (a b : Bool). a && b) (le-leb 1 (length rs) (c.known x)) (all_pad signal_count rs (raws x) (few (kind x)) (enough x)) ∙ labels x

  payload_is : (x : M) → packed_on 0 (rows_of (kind x)) (pad signal_count (raws x)) ≡ payload x
  payload_is x = packed_pad signal_count 0 (rows_of (kind x)) (raws x) (few (kind x)) (enough x)

  -- ---- writing

  -- 7, then 8
  abbrev answer : M → List ℕ → Bool → Written
  answer x buf fits = written_by (kind x) fits (leb (length_of (kind x)) (length buf))

  pub answers : (x : M) (buf : List ℕ) → cond (valued x) (write_raws_of (kind x) (pad signal_count (raws x)) buf) (Err NoRawNumber) ≡ answer x buf (writable x)
  unfolding write_raws_of
  answers x buf = go (valued x)
    where
      go : (a : Bool) → cond a (answer x buf (can_write (kind x) (pad signal_count (raws x)))) (Err NoRawNumber) ≡ answer x buf (a && all_fit (rows_of (kind x)) (raws x))
      go true = ap (answer x buf) (can-is x)
      go false = refl

  abbrev stored : M → List ℕ → Bool → ℕ → List ℕ
  stored x buf fits n = cond fits (stored_in (big_of (kind x)) (length_of (kind x)) n buf) buf

  pub buffers : (x : M) (buf : List ℕ) → cond (valued x) (buffer_after (kind x) (pad signal_count (raws x)) buf) buf ≡ stored x buf (writable x) (payload x)
  unfolding buffer_after
  buffers x buf = go (valued x)
    where
      go : (a : Bool) → cond a (stored x buf (can_write (kind x) (pad signal_count (raws x))) (packed_on 0 (rows_of (kind x)) (pad signal_count (raws x)))) buf
          ≡ stored x buf (a && all_fit (rows_of (kind x)) (raws x)) (payload x)
      go true = ap₂ (stored x buf) (can-is x) (payload_is x)
      go false = refl

  -- ---- an accepted frame, as its message writes it

  -- the message has the frame's identifier, form, length and bytes
  pub record Same (m : ℕ) (extended : Bool) (bs : List ℕ) (x : M) : Type 0 where
    pub fits : writable x ≡ true
    pub identifier : identifier_of (kind x) ≡ m
    pub form : extended_of (kind x) ≡ extended
    pub sized : length_of (kind x) ≡ length bs
    pub bytes : bytes x ≡ bs

  -- the message of a frame's number: its kind, its numbers, and that each value has one
  pub back_is : (k n : ℕ) → own k → unlabelled n (rows_of k) ≡ false → Back kind raws valued k (wholes_of n (rows_of k)) (built k (at (raws_of k n)))
  back_is k n o u = subst (Back kind raws valued k (wholes_of n (rows_of k))) (sym (of_wholes built k n)) (c.back k n o u)

  pub same : (iface : Interface) (m : ℕ) (extended : Bool) (bs : List ℕ) (k n : ℕ) → judge_on iface m extended bs ≡ Ok (k, n) → own k → Bytes bs
      → Same m extended bs (built k (at (raws_of k n)))
  unfolding raws_of
  same iface m extended bs k n j o hb =
      let t = accepted_on iface m extended bs k n j in
      let r = back_on iface m extended bs k n j hb in
      let rs = rows_of k in
      let zs = wholes_of n rs in
      let x = built k (at (raws_of k n)) in
      let b : Back kind raws valued k zs x = back_is k n o t.labelled in
      let l : length rs ≤ length zs = omega (arith, wholes_length n rs) in
      let taken : all_take rs zs ≡ true = sym (all_pad signal_count rs zs (few k) l) ∙ (both_true (leb 1 (length rs)) (all_take rs (pad signal_count zs)) r.writes).1 in
      let number : payload x ≡ n
      = ap₂ (λ (i : ℕ) (ys : List ℤ). packed_on 0 (rows_of i) ys) b.0 b.1 ∙ sym (packed_pad signal_count 0 rs zs (few k) l) ∙ r.number in
      record {
        fits = ap₂ (λ (u v : Bool). u && v) b.2 (sym (labels x) ∙ ap₂ (λ (i : ℕ) (ys : List ℤ). all_take (rows_of i) ys) b.0 b.1 ∙ taken);
        identifier = ap identifier_of b.0 ∙ t.identifier;
        form = ap extended_of b.0 ∙ t.form;
        sized = ap length_of b.0 ∙ sym t.sized;
        bytes = ap₂ (λ (i y : ℕ). bytes_of (big_of i) (length_of i) y) b.0 number ∙ r.bytes;
      }

  -- ---- a message, as its bytes are read

  pub reads : (iface : Interface) (x : M) → is_on iface (kind x) ≡ true → writable x ≡ true
      → (judge_on iface (identifier_of (kind x)) (extended_of (kind x)) (bytes x) ≡ Ok (kind x, payload x)) × (built (kind x) (at (raws_of (kind x) (payload x))) ≡ x)
  reads iface x on w =
      let k = kind x in
      let rs = rows_of k in
      let n = payload x in
      let p = both_true (valued x) (all_fit rs (raws x)) w in
      let taken : all_take rs (raws x) ≡ true = labels x ∙ p.1 in
      let r = raws_there k (raws x) (ap₂ (λ (a b : Bool). a && b) (le-leb 1 (length rs) (c.known x)) taken) in
      let again : wholes_of n rs ≡ raws x = r.raws ∙ take_all (length rs) (raws x) (omega (arith, c.counted x)) in
      (r.reads iface on, of_wholes built k n ∙ ap (λ (zs : List ℤ). built k (at zs)) again ∙ c.there x p.0 taken)
