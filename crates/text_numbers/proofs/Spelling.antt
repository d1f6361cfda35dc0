-- The digits of a number are worth the number, and digits without a leading zero are those of their worth. Assumes nothing.
use mathlib.Core.Path.{◌≡◌, refl, sym, ap, ap₂, ◌∙◌}
use mathlib.Core.Bool.{Bool, true, false, not}
use mathlib.Core.Logic.{◌⊎◌, inl, inr}
use mathlib.Core.List.{List, [], ◌∷◌, ◌++◌, append-nil}
use Prim.Native.Nat.{ℕ, zero, suc, ◌+◌, ◌*◌, ◌/◌, ◌%◌, ◌≤◌, ◌<◌}
use native.Mathlib.Nat.{div-add-mod', mod-lt, mod-eq_of_lt, div-eq_of_lt, mul-add-div_right, mul-add-mod_self_right, le-div_iff_mul-le, mul-le-mul_right, one-mul}
use native.Mathlib.Omega.{arith}
use lib.Dec.{ltb, eqb}
use lib.Seq.{append_snoc}
use borrow.Author.Tests.{lt-ltb, ltb-true, ne_eqb, eqb-false, not-true}
use Rattle.text_numbers.specs.Ascii.{zero_sign}
use Rattle.text_numbers.specs.Numbers.{digit_of, glyph_of, are_digits, value_of, is_shortest, numeral}
use Rattle.text_numbers.proofs.Cases.{which, both}
use Rattle.text_numbers.proofs.Digits.{digit_glyph, glyph_digit, low_glyph}
use Rattle.text_numbers.proofs.Values.{worth, worth_step, worth_all, worth_none}
use Rattle.text_numbers.proofs.Numerals.{one_digit, more_digits, by_digits}

-- ---- a digit more at the end

worth_append : (b v : ℕ) (xs ys : List ℕ) → worth b v (xs ++ ys) ≡ worth b (worth b v xs) ys
worth_append b v [] ys = ap (λ (x : ℕ). worth b x ys) (sym (worth_none b v))
worth_append b v (x ∷ xs) ys =
    worth_step b v x (xs ++ ys) ∙ worth_append b (v * b + digit_of x) xs ys ∙ ap (λ (y : ℕ). worth b y ys) (sym (worth_step b v x xs))

pub value_snoc : (b c : ℕ) (xs : List ℕ) → value_of b (xs ++ (c ∷ [])) ≡ value_of b xs * b + digit_of c
value_snoc b c xs =
    sym (worth_all b (xs ++ (c ∷ [])))
    ∙ worth_append b 0 xs (c ∷ [])
    ∙ ap (λ (x : ℕ). worth b x (c ∷ [])) (worth_all b xs)
    ∙ worth_step b (value_of b xs) c []
    ∙ worth_none b (value_of b xs * b + digit_of c)

value_one : (b c : ℕ) → value_of b (c ∷ []) ≡ digit_of c
value_one b c = sym (worth_all b (c ∷ [])) ∙ worth_step b 0 c [] ∙ worth_none b (0 * b + digit_of c) ∙ omega arith

pub digits_snoc : (b c : ℕ) (xs : List ℕ) → are_digits b xs ≡ true → digit_of c < b → are_digits b (xs ++ (c ∷ [])) ≡ true
unfolding are_digits
digits_snoc b c [] e h = rw (lt-ltb (digit_of c) b h)
digits_snoc b c (x ∷ xs) e h =
    let t : (ltb (digit_of x) b ≡ true) × (are_digits b xs ≡ true) = both (ltb (digit_of x) b) (are_digits b xs) e in
    rw t.0 (digits_snoc b c xs t.1 h)

-- there is a digit, and the first is not `0`
abbrev leads : List ℕ → Bool
leads [] = false
leads (c ∷ cs) = not (eqb c zero_sign)

leads_append : (xs ys : List ℕ) → leads xs ≡ true → leads (xs ++ ys) ≡ true
leads_append [] ys e = absurd (let z : ◌≡◌ {A = ℕ} 0 1 = cc in omega arith)
leads_append (x ∷ xs) ys e = e

leads_shortest : (xs : List ℕ) → leads xs ≡ true → is_shortest xs ≡ true
unfolding is_shortest
leads_shortest [] e = e
leads_shortest (c ∷ []) e = refl
leads_shortest (c ∷ d ∷ cs) e = e

-- ---- over any base of 2 to 16

module _ (b : ℕ) (o : 1 < b) (h : b ≤ 16) where
  -- the digits of n are digits, and worth n
  pub spelt : (n : ℕ) → (value_of b (numeral b n) ≡ n) × (are_digits b (numeral b n) ≡ true)
  unfolding are_digits
  spelt = by_digits b o (λ n. (value_of b (numeral b n) ≡ n) × (are_digits b (numeral b n) ≡ true)) one more
    where
      one : (n : ℕ) → n < b → (value_of b (numeral b n) ≡ n) × (are_digits b (numeral b n) ≡ true)
      one n l =
          let e : numeral b n ≡ glyph_of n ∷ [] = one_digit b o n l in
          let d : digit_of (glyph_of n) ≡ n = digit_glyph n (omega arith) in
          (ap (value_of b) e ∙ value_one b (glyph_of n) ∙ d, rw (e, d, lt-ltb n b l))

      more : (n : ℕ) → b ≤ n → (value_of b (numeral b (n / b)) ≡ n / b) × (are_digits b (numeral b (n / b)) ≡ true)
          → (value_of b (numeral b n) ≡ n) × (are_digits b (numeral b n) ≡ true)
      more n l r =
          let e : numeral b n ≡ numeral b (n / b) ++ (glyph_of (n % b) ∷ []) = more_digits b o n l in
          let m : n % b < b = mod-lt n (omega arith) in
          let d : digit_of (glyph_of (n % b)) ≡ n % b = digit_glyph (n % b) (omega arith) in (
            ap (value_of b) e
                ∙ value_snoc b (glyph_of (n % b)) (numeral b (n / b))
                ∙ ap₂ (λ (x y : ℕ). x * b + y) r.0 d
                ∙ div-add-mod' n b,
            ap (are_digits b) e ∙ digits_snoc b (glyph_of (n % b)) (numeral b (n / b)) r.1 (omega arith),
          )

  first : (n : ℕ) → 0 < n → leads (numeral b n) ≡ true
  unfolding digit_of
  first = by_digits b o (λ n. 0 < n → leads (numeral b n) ≡ true) one more
    where
      one : (n : ℕ) → n < b → 0 < n → leads (numeral b n) ≡ true
      one n l k =
          let d : digit_of (glyph_of n) ≡ n = digit_glyph n (omega arith) in
          rw (one_digit b o n l, ne_eqb (glyph_of n) zero_sign (λ (e : glyph_of n ≡ zero_sign). let z : digit_of (glyph_of n) ≡ 0 = ap digit_of e in omega arith))

      more : (n : ℕ) → b ≤ n → (0 < n / b → leads (numeral b (n / b)) ≡ true) → 0 < n → leads (numeral b n) ≡ true
      more n l r k =
          rw (more_digits b o n l)
          (leads_append (numeral b (n / b)) (glyph_of (n % b) ∷ []) (r ((le-div_iff_mul-le {k = b} {x = 1} {y = n} (omega arith)).1 (omega arith))))

  pub shortest : (n : ℕ) → is_shortest (numeral b n) ≡ true
  unfolding is_shortest
  shortest zero = rw (one_digit b o 0 (omega arith))
  shortest (suc n) = leads_shortest (numeral b (suc n)) (first (suc n) (omega arith))

  -- digits after those of v
  pub spelt_on : (v : ℕ) (cs : List ℕ) → 0 < v → are_digits b cs ≡ true → numeral b (worth b v cs) ≡ numeral b v ++ cs
  unfolding are_digits
  spelt_on v [] k e = ap (numeral b) (worth_none b v) ∙ sym (append-nil (numeral b v))
  spelt_on v (c ∷ cs) k e =
      let t : (ltb (digit_of c) b ≡ true) × (are_digits b cs ≡ true) = both (ltb (digit_of c) b) (are_digits b cs) e in
      let d : digit_of c < b = ltb-true (digit_of c) b t.0 in
      let u : ℕ = v * b + digit_of c in
      let large : b ≤ u = omega (arith, mul-le-mul_right b k, one-mul b) in
      let front : u / b ≡ v = mul-add-div_right (omega arith) v (digit_of c) ∙ omega (arith, div-eq_of_lt d) in
      let last : u % b ≡ digit_of c = mul-add-mod_self_right v b (digit_of c) ∙ mod-eq_of_lt d in
      let g : glyph_of (digit_of c) ≡ c = glyph_digit c (omega arith) in
      ap (numeral b) (worth_step b v c cs)
      ∙ spelt_on u cs (omega arith) t.1
      ∙ ap (λ (ds : List ℕ). ds ++ cs) (more_digits b o u large ∙ ap₂ (λ (x y : ℕ). numeral b x ++ (glyph_of y ∷ [])) front last)
      ∙ append_snoc (numeral b v) (glyph_of (digit_of c)) cs
      ∙ ap (λ (x : ℕ). numeral b v ++ (x ∷ cs)) g

  -- digits without a leading zero
  pub spelt_back : (s : List ℕ) → is_shortest s ≡ true → are_digits b s ≡ true → s ≡ numeral b (value_of b s)
  unfolding is_shortest are_digits
  spelt_back [] q e = absurd (let z : ◌≡◌ {A = ℕ} 0 1 = cc in omega arith)
  spelt_back (c ∷ []) q e =
      let d : digit_of c < b = ltb-true (digit_of c) b (both (ltb (digit_of c) b) true e).0 in
      let w : value_of b (c ∷ []) ≡ digit_of c = value_one b c in
      sym (ap (numeral b) w ∙ one_digit b o (digit_of c) d ∙ ap (λ (x : ℕ). x ∷ []) (glyph_digit c (omega arith)))
  spelt_back (c ∷ x ∷ cs) q e =
      let rest : List ℕ = x ∷ cs in
      let t : (ltb (digit_of c) b ≡ true) × (are_digits b rest ≡ true) = both (ltb (digit_of c) b) (are_digits b rest) e in
      let d : digit_of c < b = ltb-true (digit_of c) b t.0 in
      let g : glyph_of (digit_of c) ≡ c = glyph_digit c (omega arith) in
      let some : 0 < digit_of c = nonzero c g (eqb-false c zero_sign (not-true (eqb c zero_sign) q)) in
      let w : value_of b (c ∷ rest) ≡ worth b (digit_of c) rest =
      sym (worth_all b (c ∷ rest)) ∙ worth_step b 0 c rest ∙ ap (λ (v : ℕ). worth b v rest) (omega arith) in
      sym (ap (numeral b) w ∙ spelt_on (digit_of c) rest some t.1
      ∙ ap (λ (ds : List ℕ). ds ++ rest) (one_digit b o (digit_of c) d ∙ ap (λ (y : ℕ). y ∷ []) g))
    where
      nonzero : (c : ℕ) → glyph_of (digit_of c) ≡ c → (c ≡ zero_sign → ⊥) → 0 < digit_of c
      nonzero c g n = go (which 0 (digit_of c))
        where
          go : (0 < digit_of c) ⊎ (digit_of c ≤ 0) → 0 < digit_of c
          go (inl l) = l
          go (inr l) =
              let z : digit_of c ≡ 0 = omega arith in
              absurd (n (sym g ∙ ap glyph_of z ∙ low_glyph 0 (omega arith)))
