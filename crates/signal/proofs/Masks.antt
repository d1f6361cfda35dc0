-- What the shifts and masks of `mask`, `get` and `put` compute, in plain arithmetic.
-- Assumes nothing.
use mathlib.Core.Path.{◌≡◌, sym, ap, ap₂, ◌∙◌, subst}
use Prim.Native.Nat.{ℕ, zero, ◌+◌, ◌-◌, ◌*◌, ◌/◌, ◌%◌, ◌^◌, ◌≤◌, ◌<◌}
use native.Mathlib.Nat.{mod-lt, zero-mul, zero-add, add_comm, lt_of_lt_of_le, le-add_left, add_assoc}
use native.Mathlib.Omega.{arith}
use lib.Pow.{pow_pos, pow_mono, shl_exact, shl_lt, shr_mod, split, high, mod-mod-pow, ones_lt, ones_split}
use lib.Bits.{bit_and, bit_or, and_mask, and_block, or_block, or_zero_r, or_shifted_r}
use Rattle.signal.specs.Signal.{get_bits, put_bits}

-- all ones, shifted down until w are left
pub ones_shr : (w : ℕ) → w ≤ 64 → (2 ^ 64 - 1) / 2 ^ (64 - w) ≡ 2 ^ w - 1
ones_shr w h =
    let whole : w + (64 - w) ≡ 64 = omega arith in
    ap (λ (x : ℕ). (2 ^ x - 1) / 2 ^ (64 - w)) (sym whole)
    ∙ ap (λ (x : ℕ). x / 2 ^ (64 - w)) (ones_split w (64 - w))
    ∙ high (2 ^ w - 1) (64 - w) (ones_lt (64 - w))

pub get_masked : (n s w : ℕ) → bit_and (n / 2 ^ s) (2 ^ w - 1) ≡ get_bits n s w
unfolding get_bits
get_masked n s w = and_mask (n / 2 ^ s) w

-- all ones but the w from s on
holed : (u w s : ℕ) → (2 ^ (u + (w + s)) - 1) - (2 ^ w - 1) * 2 ^ s ≡ (2 ^ u - 1) * 2 ^ (w + s) + (2 ^ s - 1)
holed u w s = omega (arith, ones_split u (w + s), ones_split w s)

-- n with those cleared
cleared : (n u w s : ℕ) → n < 2 ^ (u + (w + s)) → bit_and n ((2 ^ (u + (w + s)) - 1) - (2 ^ w - 1) * 2 ^ s) ≡ n / 2 ^ (w + s) * 2 ^ (w + s) + n % 2 ^ s
cleared n u w s h =
    ap₂ bit_and (sym (split n (w + s))) (holed u w s)
    ∙ and_block (w + s) (n / 2 ^ (w + s)) (2 ^ u - 1) (n % 2 ^ (w + s)) (2 ^ s - 1) (mod-lt n (pow_pos (w + s))) (lt_of_lt_of_le (ones_lt s) (pow_mono (le-add_left s w)))
    ∙ ap₂ (λ (x y : ℕ). x * 2 ^ (w + s) + y) (and_mask (n / 2 ^ (w + s)) u ∙ shr_mod u (w + s) h) (and_mask (n % 2 ^ (w + s)) s ∙ mod-mod-pow n w s)

-- v set there
joined : (hi lo w s v : ℕ) → lo < 2 ^ s → v < 2 ^ w → bit_or (hi * 2 ^ (w + s) + lo) (v * 2 ^ s) ≡ hi * 2 ^ (w + s) + (v * 2 ^ s + lo)
joined hi lo w s v hl hv =
    ap (λ (x : ℕ). bit_or (hi * 2 ^ (w + s) + lo) x) (sym (ap (λ (x : ℕ). x + v * 2 ^ s) (zero-mul (2 ^ (w + s))) ∙ zero-add (v * 2 ^ s)))
    ∙ or_block (w + s) hi zero lo (v * 2 ^ s) (lt_of_lt_of_le hl (pow_mono (le-add_left s w))) (shl_lt w s hv)
    ∙ ap₂ (λ (x y : ℕ). x * 2 ^ (w + s) + y) (or_zero_r hi) (or_shifted_r v s lo hl)

pub put_masked : (n s w v : ℕ) → n < 2 ^ 64 → s + w ≤ 64 → v < 2 ^ w
    → bit_or (bit_and n ((2 ^ 64 - 1) - (2 ^ w - 1) * 2 ^ s % 2 ^ 64)) (v * 2 ^ s % 2 ^ 64) ≡ put_bits n s w v
unfolding put_bits
put_masked n s w v hn h hv =
    let fits : w + s ≤ 64 = omega arith in
    let whole : 64 - (w + s) + (w + s) ≡ 64 = omega arith in
    ap₂ (λ (x y : ℕ). bit_or (bit_and n ((2 ^ 64 - 1) - x)) y) (shl_exact w s 64 (ones_lt w) fits) (shl_exact w s 64 hv fits)
    ∙ ap (λ (x : ℕ). bit_or x (v * 2 ^ s))
    (ap (λ (x : ℕ). bit_and n ((2 ^ x - 1) - (2 ^ w - 1) * 2 ^ s)) (sym whole)
    ∙ cleared n (64 - (w + s)) w s (subst (λ (x : ℕ). n < 2 ^ x) (sym whole) hn))
    ∙ joined (n / 2 ^ (w + s)) (n % 2 ^ s) w s v (mod-lt n (pow_pos s)) hv
    ∙ ap (λ (x : ℕ). n / 2 ^ x * 2 ^ x + (v * 2 ^ s + n % 2 ^ s)) (add_comm w s)
    ∙ sym (add_assoc (n / 2 ^ (s + w) * 2 ^ (s + w)) (v * 2 ^ s) (n % 2 ^ s))
