-- `page_write::write_raws` meets its contract: 7 where the kind has no row or a raw number is not taken, then 8, else the packed number's bytes.
use Rattle.std.specs.Prelude.{Ok, Err}
use Rattle.std.proofs.Common.{◌≡◌, ℕ, ◌<◌, ◌≤◌, Bool, true, false, cond, ◌&&◌, leb, List, length, Some, None, ℤ, sym, refl, ap, ◌∙◌, subst, ap₂, le-leb}
use Rattle.std.proofs.lemmas.Result.{err_from_is_err_and}
use borrow.Author.Tests.{lt-leb}
use Rattle.page_read.specs.payload.specs.Payload.{stored_in}
use Rattle.page_read.specs.payload.proofs.Stored.{stored_not}
use Rattle.page_read.specs.page_table.specs.declared.Row.{Row}
use Rattle.refusals.specs.declared.Refusal.TheVariants.{NoRawNumber}
use Rattle.page_write.specs.Written.{Written}
use Rattle.page_read.specs.page_table.specs.Table.{rows_of, length_of, big_of}
use Rattle.page_write.specs.Raws.{all_take, packed_on, can_write, written_by, write_raws_of, buffer_after}
use Rattle.page_write.specs.Steps.{pack_of}
use Rattle.page_read.specs.page_table.proofs.Firsts.{first_kind, none_kind}
use Rattle.page_read.proofs.Searched.{unanswered, answered}
use Rattle.page_write.proofs.write_raws.Goals as goal

-- the answer and the buffer
abbrev Ends : ℕ → List ℤ → List ℕ → Written → List ℕ → Type 0
Ends k zs buf a after = (a ≡ write_raws_of k zs buf) × (after ≡ buffer_after k zs buf)

cannot : (k : ℕ) (zs : List ℤ) (buf : List ℕ) → can_write k zs ≡ false → Ends k zs buf (Err NoRawNumber) buf
unfolding write_raws_of buffer_after
cannot k zs buf e = (
  sym (ap (λ (b : Bool). written_by k b (leb (length_of k) (length buf))) e),
  sym (ap (λ (b : Bool). cond b (stored_in (big_of k) (length_of k) (packed_on 0 (rows_of k) zs) buf) buf) e),
)

can : (k : ℕ) (zs : List ℤ) (buf : List ℕ) (b : Bool) → can_write k zs ≡ true → leb (length_of k) (length buf) ≡ b
    → Ends k zs buf (written_by k true b) (stored_in (big_of k) (length_of k) (packed_on 0 (rows_of k) zs) buf)
unfolding write_raws_of buffer_after
can k zs buf b e f = (
  sym (ap₂ (written_by k) e f),
  sym (ap (λ (x : Bool). cond x (stored_in (big_of k) (length_of k) (packed_on 0 (rows_of k) zs) buf) buf) e),
)

-- what packing answered
packs : (rs : List Row) (zs : List ℤ) (n : ℕ) → Some n ≡ pack_of rs zs → (all_take rs zs ≡ true) × (n ≡ packed_on 0 rs zs)
unfolding pack_of
packs rs zs n e = go (all_take rs zs) e
  where
    go : (b : Bool) → Some n ≡ cond b (Some (packed_on 0 rs zs)) None → (b ≡ true) × (n ≡ packed_on 0 rs zs)
    go true e = (refl, cc)
    go false e = cc

packs_not : (rs : List Row) (zs : List ℤ) → None ≡ pack_of rs zs → all_take rs zs ≡ false
unfolding pack_of
packs_not rs zs e = go (all_take rs zs) e
  where
    go : (b : Bool) → None ≡ cond b (Some (packed_on 0 rs zs)) None → b ≡ false
    go true e = cc
    go false e = refl

some : (k : ℕ) (zs : List ℤ) (b : Bool) → 1 ≤ length (rows_of k) → all_take (rows_of k) zs ≡ b → can_write k zs ≡ b
some k zs b l e = ap₂ (λ (x y : Bool). x && y) (le-leb 1 (length (rows_of k)) l) e

pub returns-in_err-i : goal.returns-in_err-i
returns-in_err-i c =
    let a = c.args in
    let p = err_from_is_err_and c.from_residual.result c.from_residual.ensures.1 in
    let w = unanswered c.first_of_kind.result NoRawNumber _ (sym c.ok_or.ensures.value ∙ c.in_err-i.was) in
    let e = cannot a.kind a.raws a.buf.now (ap (λ (l : List Row). leb 1 (length l) && all_take l a.raws) (none_kind a.kind (sym c.first_of_kind.ensures ∙ w.0))) in
    (p.1 ∙ ap Err (p.2 ∙ w.1) ∙ e.0, e.1)

pub returns-in_err-n : goal.returns-in_err-n
returns-in_err-n c =
    let a = c.args in
    let k = first_kind a.kind _ (answered c.first_of_kind.ensures c.ok_or.ensures.ok_part c.in_ok-i.was) in
    let p = err_from_is_err_and c.from_residual-in_err-n.result c.from_residual-in_err-n.ensures.1 in
    let w = unanswered c.pack.result NoRawNumber _ (sym c.ok_or-2.ensures.value ∙ c.in_err-n.was) in
    let e =
    cannot a.kind a.raws a.buf.now
    (some a.kind a.raws false k.3 (packs_not (rows_of a.kind) a.raws (sym w.0 ∙ c.pack.ensures ∙ ap (λ (l : List Row). pack_of l a.raws) k.1))) in
    (p.1 ∙ ap Err (p.2 ∙ w.1) ∙ e.0, e.1)

pub returns-then-buf-bytes : goal.returns-then-buf-bytes
returns-then-buf-bytes c =
    let a = c.args in
    let k = first_kind a.kind _ (answered c.first_of_kind.ensures c.ok_or.ensures.ok_part c.in_ok-i.was) in
    let p = packs (rows_of a.kind) a.raws c.in_ok-n.n (sym (answered c.pack.ensures c.ok_or-2.ensures.ok_part c.in_ok-n.was) ∙ ap (λ (l : List Row). pack_of l a.raws) k.1) in
    let short : length a.buf.now < length_of a.kind = subst (λ (x : ℕ). length a.buf.now < x) c.length_of-bytes.ensures c.if-buf-bytes.true in
    let e = can a.kind a.raws a.buf.now false (some a.kind a.raws true k.3 p.0) (lt-leb _ _ short) in
    (e.0, sym (stored_not (big_of a.kind) (length_of a.kind) (packed_on 0 (rows_of a.kind) a.raws) a.buf.now short) ∙ e.1)

pub returns : goal.returns
returns c =
    let a = c.args in
    let k = first_kind a.kind _ (answered c.first_of_kind.ensures c.ok_or.ensures.ok_part c.in_ok-i.was) in
    let n = c.in_ok-n.n in
    let p = packs (rows_of a.kind) a.raws n (sym (answered c.pack.ensures c.ok_or-2.ensures.ok_part c.in_ok-n.was) ∙ ap (λ (l : List Row). pack_of l a.raws) k.1) in
    let room : length_of a.kind ≤ length a.buf.now = subst (λ (x : ℕ). x ≤ length a.buf.now) c.length_of-bytes.ensures c.if-buf-bytes.false in
    let e = can a.kind a.raws a.buf.now true (some a.kind a.raws true k.3 p.0) (le-leb _ _ room) in (
      ap₂ (λ (x y : ℕ). Ok (x, y)) c.identifier_of.ensures c.length_of-bytes.ensures ∙ e.0,
      c.store.ensures
          ∙ ap (λ (x : Bool). stored_in x c.length_of-bytes.result n a.buf.now) c.is_big.ensures
          ∙ ap₂ (λ (x y : ℕ). stored_in (big_of a.kind) x y a.buf.now) c.length_of-bytes.ensures p.1
          ∙ e.1,
    )
