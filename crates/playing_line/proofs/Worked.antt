-- The laws of a line's digits and length on 300, on 02's "1 0 A0", and on the last post.
use Rattle.std.specs.Prelude.{Ok}
use mathlib.Core.Path.{◌≡◌, refl}
use mathlib.Core.Bool.{true}
use mathlib.Core.List.{List, [], ◌∷◌}
use Prim.Native.Nat.{ℕ, ◌≤◌}
use native.Mathlib.Omega.{arith}
use lib.ListN.{length}
use Rattle.text_numbers.specs.Numbers.{digit_of, are_digits, value_of, numeral}
use Rattle.playing_line.specs.Lines.{line_room, line_of}
use Rattle.playing_line.proofs.Digits.{few_digits, least_digits}
use Rattle.playing_line.proofs.Lengths.{line_short}

pub three_digits : length (numeral 10 300) ≤ 3
three_digits = few_digits 2 300 (omega arith)

-- 0300
abbrev longer : List ℕ
longer = 0x30 ∷ 0x33 ∷ 0x30 ∷ 0x30 ∷ []

digits : are_digits 10 longer ≡ true
unfolding are_digits digit_of
digits = refl

pub no_longer : length (numeral 10 300) ≤ 4
unfolding value_of digit_of
no_longer = least_digits longer (omega arith) digits

pub first_line : length (line_of 1 0 (Ok 0)) ≤ line_room
first_line = line_short 1 0 (Ok 0) (omega arith) (omega arith) (omega arith)

-- 02, Req 13: the longest count with a post of two digits
pub last_post : length (line_of 18446744073709551615 15 (Ok 4095)) ≤ line_room
last_post = line_short 18446744073709551615 15 (Ok 4095) (omega arith) (omega arith) (omega arith)
