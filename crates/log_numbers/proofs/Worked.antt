-- The laws of numbers on one that was written, 300 as AC 02, with a byte behind it.
use mathlib.Core.Path.{◌≡◌, refl, sym}
use mathlib.Core.Bool.{Bool, true, false, ◌&&◌, true≢false}
use mathlib.Core.List.{List, [], ◌∷◌, ◌++◌}
use Prim.Native.Nat.{ℕ, zero, suc, ◌<◌}
use native.Mathlib.Omega.{arith}
use lib.Dec.{ltb}
use lib.ListN.{get_or}
use borrow.Author.Tests.{ltb-true}
use Rattle.log_numbers.specs.Number.{groups, number_bytes, read_groups}
use Rattle.log_numbers.proofs.Numbers.{sound, prefix_free}

-- a list's bytes, by computing
abbrev pub are_bytes : List ℕ → Bool
are_bytes [] = true
are_bytes (b ∷ s) = ltb b 256 && are_bytes s

pub each_byte : (s : List ℕ) → are_bytes s ≡ true → (i : ℕ) → get_or s i 0 < 256
each_byte [] h i = omega arith
each_byte (b ∷ s) h i = by (ltb b 256) refl h (each_byte s) i
  where
    by : (t : Bool) → ltb b 256 ≡ t → t && are_bytes s ≡ true → (are_bytes s ≡ true → (i : ℕ) → get_or s i 0 < 256) → (i : ℕ) → get_or (b ∷ s) i 0 < 256
    by true e h f zero = ltb-true b 256 e
    by true e h f (suc i) = f h i
    by false e h f i = absurd (true≢false (sym h))

abbrev behind : List ℕ
behind = 172 ∷ 2 ∷ 2 ∷ []

pub sound_300 : number_bytes 300 ++ (2 ∷ []) ≡ behind
unfolding read_groups groups
sound_300 = sound 4 behind (each_byte behind refl)

-- no other number's bytes stand there
pub only_300 : (n : ℕ) (rest : List ℕ) → n < 4294967296 → behind ≡ number_bytes n ++ rest → (300 ≡ n) × ((2 ∷ []) ≡ rest)
unfolding groups
only_300 n rest h e = prefix_free 300 n (2 ∷ []) rest (omega arith) h e
