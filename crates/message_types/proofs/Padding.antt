-- Numbers and zeros after them, up to a length, are the numbers padded to it; what is past it is left out. Assumes nothing.
use mathlib.Core.List.{List, [], ◌∷◌, ◌++◌}
use mathlib.Core.Path.{◌≡◌, refl, ap}
use Prim.Native.Nat.{ℕ, zero, suc, min}
use native.Mathlib.Numerals.{unary_clauses}
use lib.IntN.{ℤ, pos}
use lib.ListN.{length, take, drop}
use Rattle.message_laws.specs.page_write.specs.Raws.{pad}

abbrev pub zeros : ℕ → List ℤ
zeros zero = []
zeros (suc k) = pos 0 ∷ zeros k

-- so many numbers as there are, or as are asked for
pub pad_is : (k : ℕ) (zs : List ℤ) → take (min (length zs) k) zs ++ drop (min (length zs) k) (zeros k) ≡ pad k zs
unfolding pad
pad_is zero [] = refl
pad_is zero (z ∷ zs) = simp unary_clauses refl
pad_is (suc k) [] = simp unary_clauses (ap (λ (ys : List ℤ). pos 0 ∷ ys) (simp unary_clauses at (pad_is k [])))
pad_is (suc k) (z ∷ zs) = simp unary_clauses (ap (λ (ys : List ℤ). z ∷ ys) (pad_is k zs))
