-- What joining bytes gives is the number of their order, where they are no more than 8. Assumes nothing.
use Rattle.std.proofs.Common.{◌≡◌, ℕ, zero, suc, ◌+◌, ◌*◌, ◌^◌, ◌≤◌, ◌<◌, List, [], ◌∷◌, length, reverse, refl, sym, ap, ◌∙◌, subst, arith, bit_or}
use Rattle.std.specs.List.{fold}
use Rattle.std.proofs.lemmas.List.{reverse-append}
use Rattle.std.proofs.lemmas.List.Sums.{fold-append}
use native.Mathlib.Nat.{mul_comm, mul_assoc, add-mul, add_assoc, mul-one, add-zero, zero-mul, zero-add}
use lib.Arith.{digits_lt}
use lib.Bits.{or_shifted}
use lib.Pow.{shl_exact}
use Rattle.payload.specs.Joined.{joined}
use Rattle.payload.specs.Payload.{le_number, be_number, Bytes}
use Rattle.payload.proofs.Bytes.{pow8, number_lt}

joined_is : (k n b : ℕ) → n < 2 ^ (8 * k) → k < 8 → b < 256 → joined n b ≡ n * 256 + b
joined_is k n b h hk hb = ap (λ (x : ℕ). bit_or x b) (shl_exact (8 * k) 8 64 h (omega arith)) ∙ or_shifted n 8 b hb

pub le_join : (bs : List ℕ) → Bytes bs → length bs ≤ 8 → fold joined 0 (reverse bs) ≡ le_number bs
unfolding le_number
le_join [] h k = refl
le_join (b ∷ bs) h k =
    ap (fold joined 0) (reverse-append (b ∷ []) bs)
    ∙ fold-append joined 0 (reverse bs) (b ∷ [])
    ∙ ap (λ (x : ℕ). joined x b) (le_join bs (λ i. h (suc i)) (omega arith))
    ∙ joined_is (length bs) (le_number bs) b (number_lt bs (λ i. h (suc i))) (omega arith) (h zero)

-- with a number of k bytes before them
be_join_on : (bs : List ℕ) (k n : ℕ) → Bytes bs → n < 2 ^ (8 * k) → k + length bs ≤ 8 → fold joined n bs ≡ n * 2 ^ (8 * length bs) + be_number bs
unfolding be_number
be_join_on [] k n h hn hk = sym (mul-one n) ∙ sym (add-zero (n * 1))
be_join_on (b ∷ bs) k n h hn hk =
    let p = 2 ^ (8 * length bs) in
    let one : joined n b ≡ n * 256 + b = joined_is k n b hn (omega arith) (h zero) in
    let more : n * 256 + b < 2 ^ (8 * suc k) = subst (λ (x : ℕ). n * 256 + b < x) (sym (pow8 k)) (digits_lt hn (h zero)) in
    let power : n * 256 * p ≡ n * 2 ^ (8 * suc (length bs))
    = mul_assoc n 256 p ∙ ap (λ (x : ℕ). n * x) (mul_comm 256 p ∙ sym (pow8 (length bs))) in
    ap (λ (x : ℕ). fold joined x bs) one
    ∙ be_join_on bs (suc k) (n * 256 + b) (λ i. h (suc i)) more (omega arith)
    ∙ ap (λ (x : ℕ). x + be_number bs) (add-mul (n * 256) b p)
    ∙ add_assoc (n * 256 * p) (b * p) (be_number bs)
    ∙ ap (λ (x : ℕ). x + (b * p + be_number bs)) power

pub be_join : (bs : List ℕ) → Bytes bs → length bs ≤ 8 → fold joined 0 bs ≡ be_number bs
be_join bs h k = be_join_on bs 0 0 h (omega arith) (omega arith) ∙ ap (λ (x : ℕ). x + be_number bs) (zero-mul (2 ^ (8 * length bs))) ∙ zero-add (be_number bs)
