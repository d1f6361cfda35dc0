-- Of all whole multiples of b the one that `closest` names is nearest to a, and alone in that where no two are as near. Assumes nothing.
use mathlib.Core.Path.{◌≡◌, sym, ap, subst}
use mathlib.Core.Logic.{◌⊎◌, inl, inr, ⊎_elim}
use mathlib.Core.Bool.{not}
use Prim.Native.Nat.{ℕ, suc, ◌+◌, ◌*◌, ◌/◌, ◌%◌, ◌≤◌, ◌<◌, compare, Ordering}
use native.Mathlib.Nat.{le_trans, le_of_eq, le_of_lt, ne_of_lt, ne_of_gt, suc-mul, mul-le-mul_right, mod-lt, div-add-mod'}
use native.Mathlib.Omega.{arith}
use lib.Dec.{T, is_le, compare_is_eq, eqb, leb→le, nleb→lt, eqb→eq, eqb_refl}
use lib.Arith.{lt_of_le-ne}
use lib.Ieee.{nearest}
use lib.Ieee.Nearest.{closest}
use Rattle.service.specs.Nearness.{gap}

-- what `compare` found
sides : (x y : ℕ) (P : Ordering → Type 0) → (x < y → P Ordering.lt) → (x ≡ y → P Ordering.eq) → (y < x → P Ordering.gt) → P (compare x y)
sides x y P l e g = go (compare x y) (leb→le x y) (nleb→lt x y) (eqb→eq x y) (λ (q : x ≡ y). subst (λ (v : ℕ). T (eqb x v)) q (eqb_refl x))
  where
    go : (o : Ordering) → (T (is_le o) → x ≤ y) → (T (not (is_le o)) → y < x) → (T (compare_is_eq o) → x ≡ y) → (x ≡ y → T (compare_is_eq o)) → P o
    go Ordering.lt a b c d = l (lt_of_le-ne (a tt) d)
    go Ordering.eq a b c d = e (c tt)
    go Ordering.gt a b c d = g (b tt)

-- one multiple and the next
apart_by : (w v b : ℕ) → w < v → w * b + b ≤ v * b
apart_by w v b h = le_trans (le_of_eq (sym (suc-mul w b))) (mul-le-mul_right b h)

-- a is r above the multiple A, and `closest` names A or the next; W is another multiple than the one it names
under_half_above : (A W r b a : ℕ) → A + r ≡ a → r * 2 < b → A + b ≤ W → gap A a < gap W a
under_half_above A W r b a e h w = omega arith

under_half_below : (A W r b a : ℕ) → A + r ≡ a → r * 2 < b → W + b ≤ A → gap A a < gap W a
under_half_below A W r b a e h w = omega arith

over_half_above : (A W r b a : ℕ) → A + r ≡ a → b < r * 2 → r < b → A + b + b ≤ W → gap (A + b) a < gap W a
over_half_above A W r b a e h l w = omega arith

over_half_below : (A W r b a : ℕ) → A + r ≡ a → b < r * 2 → r < b → W + b ≤ A + b → gap (A + b) a < gap W a
over_half_below A W r b a e h l w = omega arith

module _ (a b w : ℕ) (B : 0 < b) where
  -- w is another number than q: below it or above
  other : (q : ℕ) → (w ≡ q → ⊥) → (w * b + b ≤ q * b) ⊎ (q * b + b ≤ w * b)
  other q n = sides w q (λ _. (w * b + b ≤ q * b) ⊎ (q * b + b ≤ w * b)) (λ h. inl (apart_by w q b h)) (λ e. absurd (n e)) (λ h. inr (apart_by q w b h))

  pub closest_alone : (a % b * 2 ≡ b → ⊥) → (w ≡ closest a b → ⊥) → gap (closest a b * b) a < gap (w * b) a
  closest_alone t =
      let e : a / b * b + a % b ≡ a = div-add-mod' a b in
      let l : a % b < b = mod-lt a B in
      sides (a % b * 2) b (λ o. (w ≡ nearest (a / b) o → ⊥) → gap (nearest (a / b) o * b) a < gap (w * b) a)
      (λ h n. ⊎_elim (under_half_below (a / b * b) (w * b) (a % b) b a e h) (under_half_above (a / b * b) (w * b) (a % b) b a e h) (other (a / b) n))
      (λ h n. absurd (t h))
      (λ h n. rw (suc-mul (a / b) b) (⊎_elim
      (λ x. over_half_below (a / b * b) (w * b) (a % b) b a e h l (rw (sym (suc-mul (a / b) b)) x))
      (λ x. over_half_above (a / b * b) (w * b) (a % b) b a e h l (rw (sym (suc-mul (a / b) b)) x))
      (other (suc (a / b)) n)))

  pub closest_near : (a % b * 2 ≡ b → ⊥) → gap (closest a b * b) a ≤ gap (w * b) a
  closest_near t = sides w (closest a b) (λ _. gap (closest a b * b) a ≤ gap (w * b) a)
      (λ h. le_of_lt (closest_alone t (ne_of_lt h)))
      (λ e. le_of_eq (ap (λ (v : ℕ). gap (v * b) a) (sym e)))
      (λ h. le_of_lt (closest_alone t (ne_of_gt h)))
