-- The laws of written numbers and bytes on -125 and on the bytes 82 15.
use mathlib.Core.Path.{◌≡◌}
use mathlib.Core.List.{List, [], ◌∷◌}
use Prim.Native.Nat.{ℕ, zero, suc}
use native.Mathlib.Omega.{arith}
use lib.IntN.{negsuc}
use Rattle.text_numbers.specs.Numbers.{signed_of}
use Rattle.std.specs.Prelude.{Some}
use Rattle.text_bytes.specs.Hex.{bytes_in, stored_in}
use Rattle.text_pen.specs.Pens.{text_of}
use Rattle.text_written.specs.Words.{signed_words, hex_words}
use Rattle.text_written.proofs.Hexed.{EachByte}
use Rattle.text_written.proofs.Laws.{signed_text, bytes_hex}

pub back_125 : signed_of (text_of (signed_words (negsuc 124))) ≡ Some (negsuc 124)
back_125 = signed_text (negsuc 124) (omega arith)

abbrev duty : List ℕ
duty = 0x82 ∷ 0x15 ∷ []

each : EachByte duty
each zero = omega arith
each (suc zero) = omega arith
each (suc (suc i)) = omega arith

-- into a room of three bytes
pub back_duty : (bytes_in (text_of (hex_words duty)) 3 ≡ Some 2) × (stored_in (text_of (hex_words duty)) (7 ∷ 7 ∷ 7 ∷ []) ≡ 0x82 ∷ 0x15 ∷ 7 ∷ [])
back_duty = bytes_hex duty (7 ∷ 7 ∷ 7 ∷ []) each (omega arith)
