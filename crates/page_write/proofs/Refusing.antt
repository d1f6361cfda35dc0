-- Writing raw numbers gives 7 and 8 each exactly in its case.
-- Assumes nothing.
use Rattle.std.specs.Prelude.{Err}
use Rattle.std.proofs.Common.{◌≡◌, ℕ, ◌<◌, ◌≤◌, Bool, true, false, ◌&&◌, leb, ◌⊎◌, ◌↔◌, List, [], ◌∷◌, length, get_or, ℤ, pos, sym, refl, ap, ◌∙◌, ap₂, inl, inr, arith, le-leb, leb-false}
use borrow.Author.Tests.{lt-leb}
use Rattle.refusals.specs.declared.Refusal.{Refusal}
use Rattle.refusals.specs.declared.Refusal.TheVariants.{NoRawNumber, ShortBuffer}
use Rattle.refusals.specs.Refusals.{number_of}
use Rattle.page_read.specs.page_table.specs.declared.Row.{Row}
use Rattle.page_read.specs.page_table.specs.Table.{no_row, rows_of, length_of}
use Rattle.page_read.specs.page_table.proofs.Rules.{not_both}
use Rattle.page_write.specs.Written.{Written}
use Rattle.page_write.specs.Raws.{row_takes, all_take, can_write, written_by, write_raws_of}
use Rattle.page_write.specs.Refusing.{Gives, Unwritable, NoRoom}
use Rattle.page_write.proofs.Trips.{can_write_lem, not_by, take_by, takes_at}

-- what cannot be written
cannot : (k : ℕ) (zs : List ℤ) → length (rows_of k) ≤ length zs → can_write k zs ≡ false → Unwritable k zs
cannot k zs l e = go (rows_of k) l e
  where
    go : (rs : List Row) → length rs ≤ length zs → leb 1 (length rs) && all_take rs zs ≡ false
        → (rs ≡ []) ⊎ ((j : ℕ) × (j < length rs) × (row_takes (get_or rs j no_row) (get_or zs j (pos 0)) ≡ false))
    go [] l e = inl refl
    go (r ∷ rs) l e =
        inr (not_by row_takes (r ∷ rs) zs l
        (sym (ap₂ (λ (a b : Bool). a && b) (le-leb 1 (length (r ∷ rs)) (omega arith)) (take_by (r ∷ rs) zs)) ∙ e))

unwritten : (k : ℕ) (zs : List ℤ) → Unwritable k zs → can_write k zs ≡ false
unwritten k zs u = go (can_write k zs) refl u
  where
    go : (b : Bool) → can_write k zs ≡ b → Unwritable k zs → b ≡ false
    go true e (inl n) = absurd (omega (arith, (can_write_lem k zs e).0, ap length n))
    go true e (inr (j, l, n)) = absurd (not_both (row_takes (get_or (rows_of k) j no_row) (get_or zs j (pos 0))) (takes_at (rows_of k) zs (can_write_lem k zs e).1 j l) n)
    go false e u = refl

number_is : (a : Written) (v w : Refusal) (c : ℕ) → a ≡ Err v → a ≡ Err w → number_of w ≡ c → number_of v ≡ c
number_is a v w c e f n = let s : v ≡ w = cc in ap number_of s ∙ n

pub seven : (k : ℕ) (a b : Bool) → Gives 7 (written_by k a b) → a ≡ false
seven k true true (w, e, n) = absurd (let z : ◌≡◌ {A = ℕ} 0 1 = cc in omega arith)
seven k true false (w, e, n) = absurd (omega (arith, number_is (Err ShortBuffer) ShortBuffer w 7 refl e n))
seven k false b g = refl

pub eight : (k : ℕ) (a b : Bool) → Gives 8 (written_by k a b) → (a ≡ true) × (b ≡ false)
eight k true true (w, e, n) = absurd (let z : ◌≡◌ {A = ℕ} 0 1 = cc in omega arith)
eight k true false g = (refl, refl)
eight k false b (w, e, n) = absurd (omega (arith, number_is (Err NoRawNumber) NoRawNumber w 8 refl e n))

-- THEOREM: 7
pub raws_7 : (k : ℕ) (zs : List ℤ) (buf : List ℕ) → length (rows_of k) ≤ length zs → Gives 7 (write_raws_of k zs buf) ↔ Unwritable k zs
unfolding write_raws_of
raws_7 k zs buf l = (
  λ g. cannot k zs l (seven k (can_write k zs) (leb (length_of k) (length buf)) g),
  λ u. (NoRawNumber, ap (λ (a : Bool). written_by k a (leb (length_of k) (length buf))) (unwritten k zs u), refl),
)

-- THEOREM: then 8
pub raws_8 : (k : ℕ) (zs : List ℤ) (buf : List ℕ) → Gives 8 (write_raws_of k zs buf) ↔ NoRoom k zs buf
unfolding write_raws_of
raws_8 k zs buf = (
  λ g. let p = eight k (can_write k zs) (leb (length_of k) (length buf)) g in
      (p.0, leb-false (length_of k) (length buf) p.1),
  λ n. (ShortBuffer, ap₂ (written_by k) n.0 (lt-leb (length_of k) (length buf) n.1), refl),
)
