-- What the functions of `signal`, and a number's 64 bits, answer at a fine row. An i64 that is handed to a function arrives as the number of its own bits.
use Rattle.std.proofs.Common.{◌≡◌, ℕ, ◌+◌, ◌-◌, ◌*◌, ◌/◌, ◌%◌, ◌^◌, ◌<◌, Bool, true, ltb, leb, get_or, ℤ, pos, negsuc, sym, refl, ap, ◌∙◌, subst, ap₂, arith, to_z-of_z, w64, SFits, to_z, of_z, ltb-true}
use lib.Bits.{bit_and, and_mask}
use lib.Signed.{mag}
use mir.Val.{bool_byte}
use Rattle.signal.specs.Signal.{put_bits, put_of}
use Rattle.signal.specs.Twos.{of_signed}
use Rattle.signal.specs.Raw.{fits_in, bits_in, fits_of, bits_of}
use Rattle.signal.proofs.Totals.{put_in}
use Rattle.signal.proofs.RawLaws.{fits_in_lem, bits_in_lem, bits_lt}
use Rattle.page_read.specs.page_table.specs.declared.Row.{Row}
use Rattle.page_read.specs.page_table.specs.Rules.{every}
use Rattle.page_read.specs.page_table.specs.Table.{rows, row_count, no_row, Fine, lowest, takes}
use Rattle.page_write.specs.Raws.{row_takes, put_raw}
use Rattle.page_read.specs.page_table.proofs.Rules.{both_true, every_at, rows_length}
use Rattle.page_write.proofs.Words.{below, fits_sum, low_word}

-- an i64 that a function answers arrives as the number of its own bits
pub answer : {z y : ℤ} → mag z < 2 ^ 63 → z ≡ y → to_z w64 (of_z w64 z) ≡ y
answer l e = to_z-of_z {w = w64} (record { sfits = l }) ∙ e

-- no row has a label from 63 on, so that packing may take 63 for every number from there on
abbrev below_63 : Row → Bool
below_63 r = ltb r.labels (2 ^ 63)

all_below_lem : every below_63 rows ≡ true
unfolding rows
all_below_lem = refl

pub labels_at_lem : (i : ℕ) (r : Row) → i < row_count → r ≡ get_or rows i no_row → r.labels < 2 ^ 63
labels_at_lem i r h e =
    subst (λ (q : Row). q.labels < 2 ^ 63) (sym e)
    (ltb-true (get_or rows i no_row).labels (2 ^ 63) (every_at below_63 rows all_below_lem i (rw rows_length h)))

-- what a row takes fits it
pub takes_fits : (r : Row) (z : ℤ) → row_takes r z ≡ true → fits_in r.signed r.width z ≡ true
takes_fits r z e = (both_true (fits_in r.signed r.width z) (takes r.labels (bits_in r.signed r.width z)) e).0

-- a number in 64 bits
word_bits : (z : ℤ) → of_z w64 z ≡ of_signed 64 z
unfolding of_signed
word_bits (pos n) = refl
word_bits (negsuc n) = refl

module _ (r : Row) (fine : Fine r) where
  pub put_row : (n v : ℕ) → v < 2 ^ r.width → put_of n (lowest r) r.width v ≡ put_bits n (lowest r) r.width v
  put_row n v h = put_in n (lowest r) r.width v fine.0 fine.2 h

  module _ (z : ℤ) (held : SFits w64 z) where
    pub fits_row : fits_of r.signed r.width (to_z w64 (of_z w64 z)) ≡ fits_in r.signed r.width z
    fits_row = ap (fits_of r.signed r.width) (to_z-of_z held) ∙ fits_in_lem r.signed r.width z fine.0 (omega arith)

    pub bits_row : fits_in r.signed r.width z ≡ true
        → bits_of r.signed r.width (to_z w64 (of_z w64 z)) ≡ bits_in r.signed r.width z
    bits_row t = ap (bits_of r.signed r.width) (to_z-of_z held) ∙ bits_in_lem r.signed r.width z fine.0 (omega arith) t

    pub put_raw_row : (n v : ℕ) → v ≡ bits_of r.signed r.width (to_z w64 (of_z w64 z)) → row_takes r z ≡ true
        → put_of n (lowest r) r.width v ≡ put_raw r n z
    put_raw_row n v q t =
        let f = takes_fits r z t in
        ap (put_of n (lowest r) r.width) (q ∙ bits_row f)
        ∙ put_row n (bits_in r.signed r.width z) (bits_lt r.signed r.width fine.0 z f)

    word : of_z w64 (to_z w64 (of_z w64 z)) ≡ of_signed 64 z
    word = ap (of_z w64) (to_z-of_z held) ∙ word_bits z

    -- a sum against all ones tells whether it fits
    pub sum_row : (x m s : ℕ) → x ≡ of_z w64 (to_z w64 (of_z w64 z)) → m ≡ 2 ^ r.width - 1 → s ≡ (x + bool_byte r.signed * (m / 2 + 1)) % 2 ^ 64
        → leb s m ≡ fits_in r.signed r.width z
    sum_row x m s p q e =
        ap₂ leb
        (e ∙ ap₂ (λ (a b : ℕ). (a + b) % 2 ^ 64) (p ∙ word) (below r.signed r.width m fine.0 q))
        q
        ∙ fits_sum r.signed r.width fine.0 fine.1 z held.sfits

    -- the lowest of its 64 bits
    pub low_row : (x m : ℕ) → x ≡ of_z w64 (to_z w64 (of_z w64 z)) → m ≡ 2 ^ r.width - 1 → fits_in r.signed r.width z ≡ true
        → bit_and x m ≡ bits_in r.signed r.width z
    low_row x m p q t =
        ap₂ bit_and (p ∙ word) q
        ∙ and_mask (of_signed 64 z) r.width
        ∙ low_word r.signed r.width fine.0 fine.1 z t
