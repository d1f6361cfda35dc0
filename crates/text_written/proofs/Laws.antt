-- What a reader may rely on: the text of a number with a sign reads as the number, and bytes' text reads as the bytes. Assumes nothing.
use mathlib.Core.Path.{◌≡◌, refl, sym, ap, ◌∙◌, subst}
use mathlib.Core.Bool.{true}
use mathlib.Core.List.{List, [], ◌∷◌, ◌++◌, append-nil}
use Prim.Native.Nat.{ℕ, suc, ◌-◌, ◌^◌, ◌≤◌, ◌<◌}
use native.Mathlib.Omega.{arith}
use lib.IntN.{ℤ, pos, negsuc}
use lib.ListN.{length, get_or, drop}
use lib.Signed.{mag}
use Rattle.text_numbers.specs.Ascii.{dash}
use Rattle.text_numbers.specs.Numbers.{digit_of, is_shortest, number_of, numeral, negated, unsigned, signed_of}
use Rattle.text_bytes.specs.Hex.{bytes_of, bytes_in, stored_in}
use Rattle.text_pen.specs.Pens.{text_of}
use Rattle.text_written.specs.Words.{signed_words, hex_words}
use Rattle.std.specs.Prelude.{Some}
use Rattle.text_numbers.proofs.Values.{digits_at}
use Rattle.text_numbers.proofs.Spelling.{spelt, shortest}
use Rattle.text_numbers.proofs.Laws.{number_numeral}
use Rattle.text_numbers.proofs.SignedText.{with_dash, without}
use Rattle.text_bytes.proofs.Pairs.{taken}
use Rattle.text_written.proofs.Hexed.{EachByte, bytes_back, room_back}

-- ---- numbers

ten_low : ◌<◌ 1 10
ten_low = omega arith

ten_high : ◌≤◌ 10 16
ten_high = omega arith

has_digit : (s : List ℕ) → is_shortest s ≡ true → 1 ≤ length s
unfolding is_shortest
has_digit [] e = absurd (let z : ◌≡◌ {A = ℕ} 0 1 = cc in omega arith)
has_digit (c ∷ cs) e = omega arith

-- the text of a number with a sign reads as the number
pub signed_text : (z : ℤ) → mag z < 2 ^ 63 → signed_of (text_of (signed_words z)) ≡ Some z
unfolding text_of signed_words digit_of is_shortest
signed_text (pos n) h = first (numeral 10 n) refl
  where
    e : unsigned (number_of 10 (2 ^ 63 - 1) (numeral 10 n)) ≡ Some (pos n)
    e = ap unsigned (number_numeral 10 ten_low ten_high (2 ^ 63 - 1) n (omega arith))

    first : (s : List ℕ) → numeral 10 n ≡ s → signed_of (text_of (signed_words (pos n))) ≡ Some (pos n)
    first [] q = absurd (let l : 1 ≤ 0 = subst (λ (x : List ℕ). 1 ≤ length x) q (has_digit (numeral 10 n) (shortest 10 ten_low ten_high n)) in omega arith)
    first (c ∷ cs) q =
        let s : List ℕ = numeral 10 n in
        let d : digit_of (get_or s 0 0) < 10 = digits_at 10 s 0 (spelt 10 ten_low ten_high n).1 (has_digit s (shortest 10 ten_low ten_high n)) in
        let f : get_or s 0 0 ≡ c = ap (λ (x : List ℕ). get_or x 0 0) q in
        ap signed_of (append-nil s)
        ∙ without s c cs q (λ (e : c ≡ dash). let z : digit_of (get_or s 0 0) ≡ 16 = ap digit_of (f ∙ e) in omega arith)
        ∙ e
signed_text (negsuc n) h =
    let s : List ℕ = dash ∷ (numeral 10 (suc n) ++ []) in
    with_dash s dash (numeral 10 (suc n) ++ []) refl refl
    ∙ ap (λ (l : List ℕ). negated (number_of 10 (2 ^ 63) l)) (append-nil (numeral 10 (suc n)))
    ∙ ap negated (number_numeral 10 ten_low ten_high (2 ^ 63) (suc n) (omega arith))

-- ---- bytes

-- the text of bytes reads as the bytes, in a buffer that has room
pub bytes_hex : (xs out : List ℕ) → EachByte xs → length xs ≤ length out
    → (bytes_in (text_of (hex_words xs)) (length out) ≡ Some (length xs)) × (stored_in (text_of (hex_words xs)) out ≡ xs ++ drop (length xs) out)
bytes_hex xs out h l =
    let s : List ℕ = text_of (hex_words xs) in
    let e : bytes_of s ≡ xs = bytes_back xs h in
    let t = taken s out (room_back xs h (length out) l) in
    (sym t.0 ∙ ap (λ (ys : List ℕ). Some (length ys)) e, sym t.1 ∙ ap (λ (ys : List ℕ). ys ++ drop (length ys) out) e)
