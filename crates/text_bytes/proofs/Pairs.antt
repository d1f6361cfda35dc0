-- Bytes of pairs of digits, pair by pair, and whether they are taken. Assumes nothing.
use mathlib.Core.Path.{◌≡◌, refl, sym, ap, ◌∙◌}
use mathlib.Core.Bool.{true, false, ◌||◌, ◌&&◌}
use mathlib.Core.List.{List, [], ◌∷◌, ◌++◌, append-nil}
use Prim.Native.Nat.{ℕ, suc, ◌+◌, ◌*◌, ◌/◌, ◌%◌, ◌≤◌, ◌<◌}
use native.Mathlib.Numerals.{add-one}
use native.Mathlib.Omega.{arith}
use lib.Dec.{leb, ltb, eqb}
use lib.ListN.{length, get_or, take, drop, set, drop_of_length-le}
use lib.Seq.{drop-cons, take_all, take-suc-set, append_snoc}
use borrow.Author.Tests.{lt-leb, le-leb, eq-eqb, eqb-true}
use Rattle.text_numbers.specs.Numbers.{digit_of, are_digits}
use Rattle.text_bytes.specs.Hex.{is_dash, is_hex, bytes_of, have_room, bytes_in, stored_in}
use Rattle.std.specs.Prelude.{Some, None}
use Rattle.std.specs.List.{list_all}
use Rattle.text_numbers.proofs.Cases.{and_false, both}

pub length_bytes : (s : List ℕ) → length (bytes_of s) ≡ length s / 2
unfolding bytes_of
length_bytes [] = refl
length_bytes (c ∷ []) = refl
length_bytes (hi ∷ lo ∷ cs) = omega (arith, length_bytes cs)

-- ---- the loop that stores them

-- the byte of the pair i
abbrev pub pair_at : List ℕ → ℕ → ℕ
pair_at s i = digit_of (get_or s (i * 2) 0) * 16 + digit_of (get_or s (i * 2 + 1) 0)

next_pair : (s : List ℕ) (i : ℕ) → i * 2 + 1 < length s → bytes_of (drop (i * 2) s) ≡ pair_at s i ∷ bytes_of (drop ((i + 1) * 2) s)
unfolding bytes_of
next_pair s i h =
    let e : suc (i * 2) ≡ i * 2 + 1 = omega arith in
    let f : suc (i * 2 + 1) ≡ (i + 1) * 2 = omega arith in
    rw (drop-cons s (i * 2) 0 (omega arith), e, drop-cons s (i * 2 + 1) 0 h, f)

-- a byte more stands in front of the buffer
pub stored_more : (s out : List ℕ) (i : ℕ) → i < length out → i * 2 + 1 < length s
    → take i out ++ bytes_of (drop (i * 2) s) ≡ take (i + 1) (set out i (pair_at s i)) ++ bytes_of (drop ((i + 1) * 2) s)
stored_more s out i h k =
    rw (next_pair s i k, add-one i, take-suc-set out i (pair_at s i) h)
    (sym (append_snoc (take i out) (pair_at s i) (bytes_of (drop (suc i * 2) s))))

pub stored_all : (s out : List ℕ) (i : ℕ) → length out ≤ i → length s ≤ i * 2 → bytes_of s ≡ take i out ++ bytes_of (drop (i * 2) s) → out ≡ bytes_of s
unfolding bytes_of
stored_all s out i l h p =
    let z : drop (i * 2) s ≡ [] = drop_of_length-le s {i = i * 2} h in
    sym (p ∙ ap (λ (l : List ℕ). take i out ++ bytes_of l) z ∙ append-nil (take i out) ∙ take_all i out l)

-- ---- whether they are taken

module _ (s out : List ℕ) where
  pub refused : have_room s (length out) ≡ false → (None ≡ bytes_in s (length out)) × (out ≡ stored_in s out)
  unfolding bytes_in stored_in
  refused e = (rw e, rw e)

  pub taken : have_room s (length out) ≡ true → (Some (length (bytes_of s)) ≡ bytes_in s (length out)) × (bytes_of s ++ drop (length (bytes_of s)) out ≡ stored_in s out)
  unfolding bytes_in stored_in
  taken e = (rw e, rw e)

module _ (s : List ℕ) (room : ℕ) where
  pub not_hex : is_dash s ≡ false → is_hex s ≡ false → have_room s room ≡ false
  unfolding have_room
  not_hex d h = rw (d, h)

  pub no_room : room < length s / 2 → have_room s room ≡ false
  unfolding have_room
  no_room l = rw (lt-leb (length (bytes_of s)) room (omega (arith, length_bytes s)), and_false (is_dash s || is_hex s))

  pub has_hex : is_dash s ≡ false → is_hex s ≡ true → length s / 2 ≤ room → have_room s room ≡ true
  unfolding have_room
  has_hex d h l = rw (d, h, le-leb (length (bytes_of s)) room (omega (arith, length_bytes s)))

pub a_dash : (s : List ℕ) → is_dash s ≡ true → bytes_of s ≡ []
unfolding is_dash bytes_of
a_dash [] e = refl
a_dash (c ∷ []) e = refl
a_dash (c ∷ d ∷ cs) e = absurd (let z : ◌≡◌ {A = ℕ} 0 1 = cc in omega arith)

pub has_dash : (s : List ℕ) (room : ℕ) → is_dash s ≡ true → have_room s room ≡ true
unfolding have_room
has_dash s room e = rw (e, a_dash s e, le-leb 0 room (omega arith))

module _ (s : List ℕ) where
  pub hex_told : is_hex s ≡ true → (length s % 2 ≡ 0) × (are_digits 16 s ≡ true)
  unfolding is_hex
  hex_told e =
      let b = both (eqb (length s % 2) 0) (are_digits 16 s) (both (leb 1 (length s)) _ e).1 in
      (eqb-true _ _ b.0, b.1)

  pub hex_is : 1 ≤ length s → length s % 2 ≡ 0 → are_digits 16 s ≡ true → is_hex s ≡ true
  unfolding is_hex
  hex_is o e d = rw (le-leb 1 (length s) o, eq-eqb (length s % 2) 0 e, d)

pub digits_each : (s : List ℕ) → are_digits 16 s ≡ list_all (λ c. ltb (digit_of c) 16) s
unfolding are_digits
digits_each [] = refl
digits_each (c ∷ cs) = ap (λ b. ltb (digit_of c) 16 && b) (digits_each cs)
