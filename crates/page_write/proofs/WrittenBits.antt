-- What `write_raws` stores, in the page's own words: each bit of a signal is that of its raw number (`raw-bit`), every other bit of the message is 0
-- (`raw-else`), and behind the message the buffer is as it was (`raw-behind`). A refused writing leaves the buffer whole (`raws-refused`).
-- Assumes nothing.
use Rattle.std.specs.Prelude.{Ok, Err}
use Rattle.std.proofs.Common.{◌≡◌, ℕ, ◌+◌, ◌*◌, ◌<◌, ◌≤◌, Bool, true, false, cond, leb, List, length, get_or, ℤ, pos, sym, refl, ap, ◌∙◌, subst, ap₂, arith, leb-false, leb-true}
use Rattle.refusals.proofs.Pairs.{ok_pair}
use Rattle.signal.specs.Signal.{get_bits}
use Rattle.signal.specs.Raw.{bits_in}
use Rattle.page_read.specs.payload.specs.Payload.{stored_in, bit_at}
use Rattle.page_read.specs.payload.specs.Order.{place, bit_of}
use Rattle.signal.proofs.Laws.{get_get, get_zero}
use Rattle.page_read.specs.payload.proofs.Stored.{stored_not}
use Rattle.page_read.specs.payload.proofs.Words.{bit_place}
use Rattle.page_read.specs.payload.proofs.Written.{stored_bit, stored_behind}
use Rattle.refusals.specs.declared.Refusal.{Refusal}
use Rattle.page_read.specs.page_table.specs.declared.Row.{Row}
use Rattle.page_read.specs.page_table.specs.Table.{no_row, rows_of, identifier_of, length_of, big_of, lowest, HasBit}
use Rattle.page_read.specs.page_table.specs.Listed.{Among}
use Rattle.page_write.specs.Raws.{packed_on, can_write, written_by, write_raws_of, buffer_after}
use Rattle.page_read.specs.page_table.proofs.Rules.{ordered, among_kept, row_message}
use Rattle.page_read.specs.page_table.proofs.PageBits.{no_place}
use Rattle.page_read.specs.page_table.proofs.Listed.{at_among}
use Rattle.page_write.proofs.Trips.{can_write_lem, packed_at, packed_kept}

-- what an accepted writing passed
pub record WroteRaws (k : ℕ) (zs : List ℤ) (buf : List ℕ) (m l : ℕ) : Type 0 where
  pub fits : can_write k zs ≡ true
  pub room : length_of k ≤ length buf
  pub identifier : identifier_of k ≡ m
  pub sized : length_of k ≡ l

pub wrote_raws : (k : ℕ) (zs : List ℤ) (buf : List ℕ) (m l : ℕ) → write_raws_of k zs buf ≡ Ok (m, l) → WroteRaws k zs buf m l
unfolding write_raws_of
wrote_raws k zs buf m l e = go (can_write k zs) (leb (length_of k) (length buf)) refl refl e
  where
    go : (a b : Bool) → can_write k zs ≡ a → leb (length_of k) (length buf) ≡ b → written_by k a b ≡ Ok (m, l) → WroteRaws k zs buf m l
    go true true p q e = record { fits = p; room = leb-true (length_of k) (length buf) q; identifier = (ok_pair e).0; sized = (ok_pair e).1 }
    go true false p q e = absurd (let z : ◌≡◌ {A = ℕ} 0 1 = cc in omega arith)
    go false true p q e = absurd (let z : ◌≡◌ {A = ℕ} 0 1 = cc in omega arith)
    go false false p q e = absurd (let z : ◌≡◌ {A = ℕ} 0 1 = cc in omega arith)

-- THEOREM: "lent bytes stay as they were"
pub raws_refused : (k : ℕ) (zs : List ℤ) (buf : List ℕ) (w : Refusal) → write_raws_of k zs buf ≡ Err w → buffer_after k zs buf ≡ buf
unfolding write_raws_of buffer_after
raws_refused k zs buf w e = go (can_write k zs) (leb (length_of k) (length buf)) refl e
  where
    go : (a b : Bool) → leb (length_of k) (length buf) ≡ b → written_by k a b ≡ Err w
        → cond a (stored_in (big_of k) (length_of k) (packed_on 0 (rows_of k) zs) buf) buf ≡ buf
    go true true q e = absurd (let z : ◌≡◌ {A = ℕ} 0 1 = cc in omega arith)
    go true false q e = stored_not (big_of k) (length_of k) (packed_on 0 (rows_of k) zs) buf (leb-false (length_of k) (length buf) q)
    go false b q e = refl

module _ (k : ℕ) (zs : List ℤ) (buf : List ℕ) (m l : ℕ) (e : write_raws_of k zs buf ≡ Ok (m, l)) where
  stored : buffer_after k zs buf ≡ stored_in (big_of k) (length_of k) (packed_on 0 (rows_of k) zs) buf
  unfolding buffer_after
  stored = rw (wrote_raws k zs buf m l e).fits

  -- THEOREM: bit j of signal i is bit j of its raw number, where the page puts it
  pub raw_bit : (i : ℕ) → i < length (rows_of k) → (j : ℕ) → j < (get_or (rows_of k) i no_row).width
      → bit_at (buffer_after k zs buf) (bit_of (get_or (rows_of k) i no_row).big (get_or (rows_of k) i no_row).start (get_or (rows_of k) i no_row).width j)
      ≡ get_bits (bits_in (get_or (rows_of k) i no_row).signed (get_or (rows_of k) i no_row).width (get_or zs i (pos 0))) j 1
  raw_bit i h j hj =
      let w = wrote_raws k zs buf m l e in
      let r = get_or (rows_of k) i no_row in
      let n = packed_on 0 (rows_of k) zs in
      let b = bit_of r.big r.start r.width j in
      let member = at_among (rows_of k) i h in
      let kept = among_kept k r member in
      let s = row_message k r member in
      let p = bit_place r.big r.bytes r.start r.width j kept.within hj in
      let at : place (big_of k) (length_of k) b ≡ lowest r + j
      = ap₂ (λ (x : Bool) (y : ℕ). place x y b) (sym s.3) (sym s.2) ∙ p.1 ∙ ap (λ (x : ℕ). x + j) (sym kept.lowest_bit) in
      ap (λ (cs : List ℕ). bit_at cs b) stored
      ∙ stored_bit (big_of k) (length_of k) n buf b w.room (subst (λ (x : ℕ). b < 8 * x) s.2 p.0)
      ∙ ap (λ (x : ℕ). get_bits n x 1) at
      ∙ sym (get_get n (lowest r) r.width j 1 (omega arith))
      ∙ ap (λ (x : ℕ). get_bits x j 1) (packed_at (8 * length_of k) 0 0 (rows_of k) zs (ordered k) (can_write_lem k zs w.fits).1 i h)

  -- THEOREM: a bit of the message that no signal has is 0
  pub raw_else : (b : ℕ) → b < 8 * length_of k → ((r : Row) → Among r (rows_of k) → HasBit r b → ⊥) → bit_at (buffer_after k zs buf) b ≡ 0
  raw_else b h u =
      let w = wrote_raws k zs buf m l e in
      let n = packed_on 0 (rows_of k) zs in
      ap (λ (cs : List ℕ). bit_at cs b) stored
      ∙ stored_bit (big_of k) (length_of k) n buf b w.room h
      ∙ packed_kept (8 * length_of k) 0 0 (rows_of k) zs (place (big_of k) (length_of k) b) (ordered k) (can_write_lem k zs w.fits).1 (no_place k b h u)
      ∙ get_zero (place (big_of k) (length_of k) b) 1

  -- THEOREM: "Writing into a longer buffer changes only the message's bytes, from index 0"
  pub raw_behind : (b : ℕ) → 8 * length_of k ≤ b → bit_at (buffer_after k zs buf) b ≡ bit_at buf b
  raw_behind b h =
      ap (λ (cs : List ℕ). bit_at cs b) stored ∙ stored_behind (big_of k) (length_of k) (packed_on 0 (rows_of k) zs) buf b (wrote_raws k zs buf m l e).room h
