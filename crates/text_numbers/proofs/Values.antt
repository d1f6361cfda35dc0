-- A number read digit by digit: what stands read, with the rest of the digits after it. Assumes nothing.
use mathlib.Core.Path.{◌≡◌, sym, ap, ◌∙◌}
use mathlib.Core.Bool.{true, false, cond, ◌&&◌}
use mathlib.Core.List.{List, [], ◌∷◌}
use Prim.Native.Nat.{ℕ, zero, suc, ◌+◌, ◌*◌, ◌^◌, ◌≤◌, ◌<◌}
use native.Mathlib.Nat.{pow-succ', pow-zero, mul_assoc, add-mul, one-le-pow, le-mul_of_pos_right, mul-one}
use native.Mathlib.Numerals.{add-one}
use native.Mathlib.Omega.{arith}
use lib.Dec.{ltb, leb}
use lib.ListN.{length, get_or, drop, drop_of_length-le}
use lib.Seq.{drop-cons, drop-length}
use borrow.Author.Tests.{ltb-true, lt-ltb, le-ltb, le-leb, lt-leb}
use Rattle.text_numbers.specs.Numbers.{digit_of, are_digits, value_of, is_shortest, number_of}
use Rattle.std.specs.Prelude.{Option, Some, None}
use Rattle.text_numbers.proofs.Cases.{and_false, both}

-- ---- whether characters are digits, place by place

module _ (b : ℕ) (s : List ℕ) (i d : ℕ) (h : i < length s) (e : d ≡ digit_of (get_or s i 0)) where
  pub digits_more : d < b → are_digits b (drop i s) ≡ are_digits b (drop (i + 1) s)
  unfolding are_digits
  digits_more l = rw (add-one, drop-cons s i 0 h, ← e, lt-ltb d b l)

  pub digits_not : b ≤ d → are_digits b (drop i s) ≡ false
  unfolding are_digits
  digits_not l = rw (drop-cons s i 0 h, ← e, le-ltb d b l)

pub digits_all : (b : ℕ) (s : List ℕ) (i : ℕ) → length s ≤ i → are_digits b (drop i s) ≡ true
unfolding are_digits
digits_all b s i h = rw (drop_of_length-le s {i = i} h)

pub digits_at : (b : ℕ) (s : List ℕ) (i : ℕ) → are_digits b s ≡ true → i < length s → digit_of (get_or s i 0) < b
unfolding are_digits
digits_at b [] i e h = absurd (omega arith)
digits_at b (c ∷ cs) zero e h = ltb-true (digit_of c) b (both (ltb (digit_of c) b) (are_digits b cs) e).0
digits_at b (c ∷ cs) (suc i) e h = digits_at b cs i (both (ltb (digit_of c) b) (are_digits b cs) e).1 (omega arith)

-- ---- the number

-- what v, with the digits cs after it, is worth
abbrev pub worth : ℕ → ℕ → List ℕ → ℕ
worth b v cs = v * b ^ length cs + value_of b cs

-- the answer, when v was read and cs is left
unfoldable pub after : ℕ → ℕ → ℕ → List ℕ → Option ℕ
after b most v cs = cond (are_digits b cs && leb (worth b v cs) most) (Some (worth b v cs)) None

pub worth_step : (b v c : ℕ) (cs : List ℕ) → worth b v (c ∷ cs) ≡ worth b (v * b + digit_of c) cs
unfolding value_of
worth_step b v c cs =
    let p : ℕ = b ^ length cs in
    let e : v * b ^ suc (length cs) ≡ v * b * p = ap (λ (x : ℕ). v * x) (pow-succ' b (length cs)) ∙ sym (mul_assoc v b p) in
    let f : (v * b + digit_of c) * p ≡ v * b * p + digit_of c * p = add-mul (v * b) (digit_of c) p in
    omega arith

pub worth_all : (b : ℕ) (cs : List ℕ) → worth b 0 cs ≡ value_of b cs
worth_all b cs = omega arith

pub worth_none : (b v : ℕ) → worth b v [] ≡ v
unfolding value_of
worth_none b v = omega (arith, ap (λ (x : ℕ). v * x) (pow-zero b), mul-one v)

pub worth_least : (b v : ℕ) (cs : List ℕ) → 0 < b → v ≤ worth b v cs
worth_least b v cs h = omega (arith, le-mul_of_pos_right v (one-le-pow (length cs) b h))

module _ (b most : ℕ) where
  pub at_first : (s : List ℕ) → is_shortest s ≡ true → number_of b most s ≡ after b most 0 s
  unfolding number_of after
  at_first s e = rw (e, worth_all b s)

  pub not_shortest : (s : List ℕ) → is_shortest s ≡ false → number_of b most s ≡ None
  unfolding number_of
  not_shortest s e = rw e

  module _ (s : List ℕ) (v i d : ℕ) (h : i < length s) (e : d ≡ digit_of (get_or s i 0)) where
    pub next : d < b → after b most v (drop i s) ≡ after b most (v * b + d) (drop (i + 1) s)
    unfolding after are_digits
    next l = rw (add-one, drop-cons s i 0 h, worth_step b v (get_or s i 0) (drop (suc i) s), ← e, lt-ltb d b l)

    pub no_digit : b ≤ d → after b most v (drop i s) ≡ None
    unfolding after are_digits
    no_digit l = rw (drop-cons s i 0 h, ← e, le-ltb d b l)

  pub too_large : (v : ℕ) (cs : List ℕ) → 0 < b → most < v → after b most v cs ≡ None
  unfolding after
  too_large v cs h l =
      let m : most < worth b v cs = omega (arith, worth_least b v cs h) in
      rw (lt-leb (worth b v cs) most m, and_false (are_digits b cs))

  pub at_last : (s : List ℕ) (v i : ℕ) → i ≡ length s → v ≤ most → after b most v (drop i s) ≡ Some v
  unfolding after are_digits
  at_last s v i e l = rw (e, drop-length s, worth_none b v, le-leb v most l)
