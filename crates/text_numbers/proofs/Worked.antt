-- The laws of numbers as text on 300, in both bases.
use mathlib.Core.Path.{◌≡◌, refl}
use mathlib.Core.List.{List, [], ◌∷◌}
use Prim.Native.Nat.{ℕ}
use native.Mathlib.Omega.{arith}
use Rattle.text_numbers.specs.Numbers.{digit_of, are_digits, value_of, is_shortest, number_of, numeral}
use Rattle.std.specs.Prelude.{Some}
use Rattle.text_numbers.proofs.Laws.{number_numeral, one_text, texts_differ}

-- 300, 12c
abbrev decimals : List ℕ
decimals = 0x33 ∷ 0x30 ∷ 0x30 ∷ []

abbrev hexadecimals : List ℕ
hexadecimals = 0x31 ∷ 0x32 ∷ 0x63 ∷ []

pub back_300 : number_of 10 65535 (numeral 10 300) ≡ Some 300
back_300 = number_numeral 10 (omega arith) (omega arith) 65535 300 (omega arith)

computed : (number_of 10 65535 decimals ≡ Some 300) × (number_of 16 65535 hexadecimals ≡ Some 300)
unfolding number_of is_shortest are_digits value_of digit_of
computed = (refl, refl)

pub spelt_300 : (decimals ≡ numeral 10 300) × (hexadecimals ≡ numeral 16 300)
spelt_300 = (
  one_text 10 (omega arith) (omega arith) 65535 decimals 300 computed.0,
  one_text 16 (omega arith) (omega arith) 65535 hexadecimals 300 computed.1,
)

-- no other text is 300
pub only_300 : (s : List ℕ) → number_of 10 65535 s ≡ Some 300 → s ≡ decimals
only_300 s e = texts_differ 10 (omega arith) (omega arith) 65535 s decimals 300 e computed.0
