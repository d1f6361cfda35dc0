-- A byte and a digit that are stored in front of what stands in a line.
use Prim.Native.Nat.{ℕ, suc, ◌+◌, ◌-◌, ◌/◌, ◌%◌, ◌≤◌, ◌<◌}
use native.Mathlib.Omega.{arith}
use mathlib.Core.Path.{◌≡◌, sym, ap, ◌∙◌}
use mathlib.Core.List.{List, ◌∷◌, ◌++◌}
use lib.ListN.{length, drop, set}
use lib.Seq.{append_snoc}
use borrow.Author.Tests.{lt-ltb}
use Rattle.text_numbers.specs.Ascii.{zero_sign}
use Rattle.text_numbers.specs.Numbers.{glyph_of, numeral}
use Rattle.text_numbers.proofs.Numerals.{one_digit, more_digits, in_front}

pub stored : (l : List ℕ) (at b : ℕ) → 1 ≤ at → at ≤ length l → drop (at - 1) (set l (at - 1) b) ≡ b ∷ drop at l
stored l at b h k =
    let e : suc (at - 1) ≡ at = omega arith in
    in_front l (at - 1) b (omega arith) ∙ ap (λ (i : ℕ). b ∷ drop i l) e

pub glyph : (d : ℕ) → d < 10 → zero_sign + d ≡ glyph_of d
unfolding glyph_of
glyph d h = rw (lt-ltb d 10 h)

module _ (l : List ℕ) (i rest : ℕ) (h : 1 ≤ i) (k : i ≤ length l) where
  -- the lowest digit of a number that has more
  pub more : 10 ≤ rest → (b : ℕ) → b ≡ zero_sign + rest % 10 → numeral 10 rest ++ drop i l ≡ numeral 10 (rest / 10) ++ drop (i - 1) (set l (i - 1) b)
  more ten b e =
      ap (λ (ds : List ℕ). ds ++ drop i l) (more_digits 10 (omega arith) rest ten)
      ∙ append_snoc (numeral 10 (rest / 10)) (glyph_of (rest % 10)) (drop i l)
      ∙ ap (λ (x : ℕ). numeral 10 (rest / 10) ++ (x ∷ drop i l)) (sym (e ∙ glyph (rest % 10) (omega arith)))
      ∙ ap (λ (r : List ℕ). numeral 10 (rest / 10) ++ r) (sym (stored l i b h k))

  -- the last one
  pub last : rest < 10 → (b : ℕ) → b ≡ zero_sign + rest → numeral 10 rest ++ drop i l ≡ drop (i - 1) (set l (i - 1) b)
  last few b e =
      ap (λ (ds : List ℕ). ds ++ drop i l) (one_digit 10 (omega arith) rest few)
      ∙ ap (λ (x : ℕ). x ∷ drop i l) (sym (e ∙ glyph rest few))
      ∙ sym (stored l i b h k)
