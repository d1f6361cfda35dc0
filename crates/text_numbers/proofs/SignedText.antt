-- What `signed_of` says, by the first character. Assumes nothing.
use mathlib.Core.Path.{◌≡◌, ap, refl}
use mathlib.Core.List.{List, [], ◌∷◌}
use Prim.Native.Nat.{ℕ, ◌-◌, ◌^◌}
use borrow.Author.Tests.{eq-eqb, ne_eqb}
use Rattle.std.specs.Prelude.{◌≢◌}
use Rattle.text_numbers.specs.Ascii.{dash}
use Rattle.text_numbers.specs.Numbers.{is_shortest, number_of, negated, unsigned, signed_of}

module _ (s : List ℕ) (c : ℕ) (rest : List ℕ) (e : s ≡ c ∷ rest) where
  pub with_dash : c ≡ dash → signed_of s ≡ negated (number_of 10 (2 ^ 63) rest)
  unfolding signed_of
  with_dash d = rw (e, eq-eqb c dash d)

  pub without : (c ≡ dash → ⊥) → signed_of s ≡ unsigned (number_of 10 (2 ^ 63 - 1) s)
  unfolding signed_of
  without n = rw (e, ne_eqb c dash n)

-- whatever else stands in front, or nothing
pub no_dash : (s : List ℕ) → ((rest : List ℕ) → s ≢ dash ∷ rest) → signed_of s ≡ unsigned (number_of 10 (2 ^ 63 - 1) s)
unfolding signed_of number_of is_shortest
no_dash [] n = refl
no_dash (c ∷ cs) n = rw (ne_eqb c dash (λ d. n cs (ap (λ (x : ℕ). x ∷ cs) d)))
