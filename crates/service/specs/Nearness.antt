-- "rounded once", said without a rounding: of all f32 the one nearest to the exact quotient.
use Rattle.std.specs.Prelude.{ℕ, ◌+◌, ◌-◌, ◌*◌, ◌<◌, Bool, cond, T, ℤ, Float}
use Rattle.std.specs.Bool.{beq}
use Rattle.std.specs.Float.{nan, inf, fin, binary32}
use Rattle.std.specs.Float.Ieee.{up, down, fits, ne}

-- |a - b|
abbrev pub gap : ℕ → ℕ → ℕ
gap a b = (a - b) + (b - a)

-- |±a - ±b|, a negative where s is true, and b where t is
abbrev pub apart : Bool → ℕ → Bool → ℕ → ℕ
apart s a t b = cond (beq s t) (gap a b) (a + b)

-- ±n / 10 and `fin t m e`, which is ±m * 2 ^ e, are so many parts of 10 * down e apart, since 2 ^ e is up e / down e
abbrev pub off : Bool → ℕ → Bool → ℕ → ℤ → ℕ
off s n t m e = apart t (m * up e * 10) s (n * down e)

-- x is a number, and every f32 that is another number lies farther from ±n / 10
abbrev pub Nearest : Bool → ℕ → Float → Type 0
Nearest s n nan = ⊥
Nearest s n (inf t) = ⊥
Nearest s n (fin t m e) =
    (r : Bool) (k : ℕ) (d : ℤ) → T (fits binary32 (fin r k d)) → T (ne (fin r k d) (fin t m e)) → off s n t m e * down d < off s n r k d * down e
