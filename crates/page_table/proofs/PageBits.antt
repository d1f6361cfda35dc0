-- A signal's bits as the page names them: the payload's bit b is one of them (`HasBit`) exactly where the row covers b's place in the payload number,
-- and what is read from there are those bits (`page-bit`).
-- Assumes nothing.
use mathlib.Core.Path.{◌≡◌, refl, sym, ap, ap₂, ◌∙◌, subst}
use mathlib.Core.Bool.{Bool, true, false, ◌||◌}
use mathlib.Core.Logic.{inl, inr}
use mathlib.Core.List.{List, [], ◌∷◌}
use Prim.Native.Nat.{ℕ, ◌*◌, ◌<◌}
use native.Mathlib.Omega.{arith}
use lib.ListN.{length}
use Rattle.signal.specs.Signal.{get_bits, covers}
use Rattle.payload.specs.Payload.{number_of, bit_at, Bytes}
use Rattle.payload.specs.Order.{place, bit_of}
use Rattle.payload.specs.Order as order
use Rattle.payload.proofs.Words.{has_covers, covers_has, signal_bit}
use Rattle.page_table.specs.declared.Row.{Row}
use Rattle.page_table.specs.Table.{rows_of, length_of, big_of, lowest, HasBit, bits_at, covered}
use Rattle.page_table.specs.Listed.{Among}
use Rattle.page_table.proofs.Rules.{either_false, not_both, Kept, among_kept, row_message}

-- ---- one row

module _ (r : Row) (kept : Kept r) (b : ℕ) where
  row-covers : HasBit r b → covers (lowest r) r.width (place r.big r.bytes b) ≡ true
  row-covers h =
      ap (λ (l : ℕ). covers l r.width (place r.big r.bytes b)) kept.lowest_bit
      ∙ has_covers r.big r.bytes r.start r.width kept.within b h

  covers-row : b < 8 * r.bytes → covers (lowest r) r.width (place r.big r.bytes b) ≡ true → HasBit r b
  covers-row inside e =
      covers_has r.big r.bytes r.start r.width kept.within b inside
      (ap (λ (l : ℕ). covers l r.width (place r.big r.bytes b)) (sym kept.lowest_bit) ∙ e)

-- ---- the rows of a kind

pub not_covered : (r : Row) (rs : List Row) (i : ℕ) → Among r rs → covered rs i ≡ false → covers (lowest r) r.width i ≡ false
unfolding covered
not_covered r [] i m u = absurd m
not_covered r (q ∷ rs) i (inl e) u =
    ap (λ (x : Row). covers (lowest x) x.width i) e ∙ (either_false (covers (lowest q) q.width i) (covered rs i) u).0
not_covered r (q ∷ rs) i (inr m) u = not_covered r rs i m (either_false (covers (lowest q) q.width i) (covered rs i) u).1

none_covers : (rs : List Row) (i : ℕ) → ((r : Row) → Among r rs → covers (lowest r) r.width i ≡ false) → covered rs i ≡ false
unfolding covered
none_covers [] i f = refl
none_covers (r ∷ rs) i f = ap₂ (λ (x y : Bool). x || y) (f r (inl refl)) (none_covers rs i (λ q m. f q (inr m)))

-- a row of kind k covers the place of bit b, in the number of a frame of that kind
abbrev covers_bit : ℕ → ℕ → Row → Bool
covers_bit k b r = covers (lowest r) r.width (place (big_of k) (length_of k) b)

module _ (k b : ℕ) where
  bit-covers : (r : Row) → Among r (rows_of k) → HasBit r b → covers_bit k b r ≡ true
  bit-covers r m h =
      let s = row_message k r m in
      ap₂ (λ (x : Bool) (y : ℕ). covers (lowest r) r.width (place x y b)) (sym s.3) (sym s.2) ∙ row-covers r (among_kept k r m) b h

  pub bit_not_covered : (r : Row) → Among r (rows_of k) → b < 8 * length_of k → (HasBit r b → ⊥) → covers_bit k b r ≡ false
  bit_not_covered r m l n = go (covers_bit k b r) refl
    where
      go : (x : Bool) → covers_bit k b r ≡ x → x ≡ false
      go true e =
          let s = row_message k r m in
          absurd (n (covers-row r (among_kept k r m) b (omega (arith, s.2))
          (ap₂ (λ (x : Bool) (y : ℕ). covers (lowest r) r.width (place x y b)) s.3 s.2 ∙ e)))
      go false e = refl

  -- a bit that no signal of the kind has, and a place that no row covers
  pub no_signal_lem : covered (rows_of k) (place (big_of k) (length_of k) b) ≡ false → (r : Row) → Among r (rows_of k) → HasBit r b → ⊥
  no_signal_lem u r m h =
      not_both (covers_bit k b r) (bit-covers r m h) (not_covered r (rows_of k) (place (big_of k) (length_of k) b) m u)

  pub no_place : b < 8 * length_of k → ((r : Row) → Among r (rows_of k) → HasBit r b → ⊥) → covered (rows_of k) (place (big_of k) (length_of k) b) ≡ false
  no_place l n =
      none_covers (rows_of k) (place (big_of k) (length_of k) b) (λ r m. bit_not_covered r m l (n r m))

-- ---- what is read

-- bit j of a signal, read from the number of a frame of its kind's length, is the payload's bit that the page names
pub page_bit : (k : ℕ) (bs : List ℕ) (r : Row) (j : ℕ) → Among r (rows_of k) → Bytes bs → length bs ≡ length_of k → j < r.width
    → get_bits (bits_at (number_of (big_of k) bs) r) j 1 ≡ bit_at bs (bit_of r.big r.start r.width j)
page_bit k bs r j m hb l h =
    let s = row_message k r m in
    let kept = among_kept k r m in
    let size : r.bytes ≡ length bs = s.2 ∙ sym l in
    ap₂ (λ (x : Bool) (y : ℕ). get_bits (get_bits (number_of x bs) y r.width) j 1) (sym s.3)
    (kept.lowest_bit ∙ ap (λ (x : ℕ). order.lowest r.big x r.start r.width) size)
    ∙ signal_bit r.big bs r.start r.width j hb (subst (λ (x : ℕ). order.Inside r.big x r.start r.width) size kept.within) h
