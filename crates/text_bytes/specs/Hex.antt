-- Bytes as text. desk.md: "bytes as two lower-case hexadecimal digits each; `-` when empty".
use Rattle.std.specs.Prelude.{ℕ, ◌+◌, ◌*◌, ◌%◌, Bool, false, cond, ◌&&◌, ◌||◌, List, [], ◌∷◌, ◌++◌, leb, eqb, length, drop, Option, Some, None}
use Rattle.text_numbers.specs.Ascii.{dash}
use Rattle.text_numbers.specs.Numbers.{digit_of, are_digits}

unfoldable pub is_dash : List ℕ → Bool
is_dash [] = false
is_dash (c ∷ []) = eqb c dash
is_dash (c ∷ d ∷ cs) = false

-- digits, two for each byte, and at least one byte
unfoldable pub is_hex : List ℕ → Bool
is_hex s = leb 1 (length s) && (eqb (length s % 2) 0 && are_digits 16 s)

-- the bytes of the pairs of digits
unfoldable pub bytes_of : List ℕ → List ℕ
bytes_of [] = []
bytes_of (c ∷ []) = []
bytes_of (hi ∷ lo ∷ cs) = (digit_of hi * 16 + digit_of lo) ∷ bytes_of cs

-- s spells bytes, and they have room
unfoldable pub have_room : List ℕ → ℕ → Bool
have_room s room = (is_dash s || is_hex s) && leb (length (bytes_of s)) room

unfoldable pub bytes_in : List ℕ → ℕ → Option ℕ
bytes_in s room = cond (have_room s room) (Some (length (bytes_of s))) None

-- the buffer with the bytes in front, and else as it was
unfoldable pub stored_in : List ℕ → List ℕ → List ℕ
stored_in s out = cond (have_room s (length out)) (bytes_of s ++ drop (length (bytes_of s)) out) out
