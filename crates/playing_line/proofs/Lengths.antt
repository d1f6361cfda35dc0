-- A line has at most 40 bytes.
use Rattle.std.specs.Prelude.{Ok, Err}
use mathlib.Core.Path.{◌≡◌, refl}
use mathlib.Core.Bool.{Bool, true, false, cond}
use mathlib.Core.List.{List, [], ◌∷◌, ◌++◌}
use Prim.Native.Nat.{ℕ, ◌+◌, ◌^◌, ◌≤◌, ◌<◌}
use native.Mathlib.Omega.{arith}
use lib.Dec.{eqb}
use lib.ListN.{length, length-append}
use borrow.Author.Tests.{eqb-true}
use Rattle.refusals.specs.Refusals.{number_of, start_of}
use Rattle.text_numbers.specs.Ascii.{space, dash}
use Rattle.text_numbers.specs.Numbers.{numeral}
use Rattle.text_pen.specs.Pens.{text_of}
use Rattle.notation_answers.specs.Answers.{line_feed, capital_a, capital_r, named_words, end_words}
use Rattle.watch_rules.specs.Answer.{Answer}
use Rattle.playing_line.specs.Lines.{line_room, unheld, post_words, refused_words, answer_words, line_of, InWords}
use Rattle.playing_line.proofs.Digits.{few_digits}

abbrev size : List (List ℕ) → ℕ
size ws = length (text_of ws)

size_append : (vs ws : List (List ℕ)) → size (vs ++ ws) ≡ size vs + size ws
unfolding text_of
size_append [] ws = omega arith
size_append (v ∷ vs) ws = omega (arith, length-append v (text_of (vs ++ ws)), length-append v (text_of vs), size_append vs ws)

size_one : (w : List ℕ) → size (w ∷ []) ≡ length w
unfolding text_of
size_one w = omega (arith, length-append w [])

size_named : (name : List ℕ) (n : ℕ) → size (named_words name n) ≡ length name + length (numeral 10 n)
size_named name n = omega (arith, size_append (name ∷ []) (numeral 10 n ∷ []), size_one name, size_one (numeral 10 n))

-- 32 bits have at most 10 digits, 64 bits 20
ten_long : (n : ℕ) → n < 2 ^ 32 → length (numeral 10 n) ≤ 10
ten_long n h = few_digits 9 n (omega arith)

twenty_long : (n : ℕ) → n < 2 ^ 64 → length (numeral 10 n) ≤ 20
twenty_long n h = few_digits 19 n (omega arith)

post_long : (i : ℕ) (b : Bool) → i < 100 → size (post_words i b) ≤ 3
post_long i true h = omega (arith, size_one (space ∷ dash ∷ []))
post_long i false h = omega (arith, size_named (space ∷ []) i, few_digits 1 i (omega arith))

abbrev front : ℕ → List (List ℕ)
front n = named_words (space ∷ capital_r ∷ []) n

refused_long : (n s : ℕ) → n < 2 ^ 32 → s < 2 ^ 32 → size (refused_words n s) ≤ 14
unfolding refused_words
refused_long n s hn hs = go (eqb n 5) refl
  where
    go : (b : Bool) → eqb n 5 ≡ b → size (front n ++ cond b (named_words (space ∷ []) s) []) ≤ 14
    go true e =
        let sum = size_append (front n) (named_words (space ∷ []) s) in
        omega (arith, sum, size_named (space ∷ capital_r ∷ []) n, size_named (space ∷ []) s, few_digits 0 n (omega (arith, eqb-true n 5 e)), ten_long s hs)
    go false e = omega (arith, size_append (front n) [], size_named (space ∷ capital_r ∷ []) n, ten_long n hn)

answer_long : (a : Answer) → InWords a → size (answer_words a) ≤ 14
answer_long (Ok f) h = omega (arith, size_named (space ∷ capital_a ∷ []) f, ten_long f h)
answer_long (Err w) h = refused_long (number_of w) (start_of w) h.0 h.1

-- a count of 64 bits, a post of two digits (02, Req 13), and an answer of 32 bits
pub line_short : (n i : ℕ) (a : Answer) → n < 2 ^ 64 → i < 100 → InWords a → length (line_of n i a) ≤ line_room
unfolding line_of
line_short n i a hn hi ha =
    let count : List (List ℕ) = numeral 10 n ∷ [] in
    let post : List (List ℕ) = post_words i (unheld a) in
    let front = size_append count post in
    let back = size_append (answer_words a) end_words in
    let whole = size_append (count ++ post) (answer_words a ++ end_words) in
    omega (arith, whole, front, back, size_one (numeral 10 n), size_one (line_feed ∷ []), twenty_long n hn, post_long i (unheld a) hi, answer_long a ha)
