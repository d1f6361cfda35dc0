-- 02: "rounded once". `degrees_of` is the f32 nearest to the raw number divided by ten, and every other f32 lies farther (`nearest`). Assumes nothing.
use mathlib.Core.Path.{◌≡◌, sym, ap, ◌∙◌, subst}
use mathlib.Core.Logic.{◌⊎◌, ⊎_elim}
use mathlib.Core.Bool.{Bool, true, false, not, ◌&&◌, ◌||◌, beq, true≢false, false≢true}
use Prim.Native.Nat.{ℕ, zero, suc, ◌+◌, ◌-◌, ◌*◌, ◌%◌, ◌^◌, ◌≤◌, ◌<◌}
use native.Mathlib.Nat.{not-le_of_lt, mul-one, mul_assoc, mul_right_comm, zero-mul, mul-lt-mul_of_pos_right, lt_of_mul-lt-mul_right, eq_of_mul-eq-mul_right}
use native.Mathlib.Omega.{arith, by_contra}
use lib.Dec.{T, eqb, leb, ltb, ltb→lt, leb→le}
use lib.IntN.{ℤ, pos, negsuc, nat_abs}
use lib.Signed.{mag, non_neg}
use lib.Pow.{pow-add, pow_pos, pow-lt}
use lib.Ieee.{Float, nan, inf, fin, binary32, up, down, round, fits, eq, ne}
use lib.Ieee.Fits.{down_pos, round_is, and_i, and_l, and_r, eq→eqb}
use lib.Ieee.Exact.{HasValue, units_val}
use lib.Ieee.Order.{drop, kept}
use lib.Ieee.Scale.{grid}
use mir.Facts.{T_not}
use Rattle.service.specs.Nearness.{apart, off, Nearest}
use Rattle.service.specs.Probes.{degrees_of}
use Rattle.service.proofs.Grid.{over_power, bounded}
use Rattle.service.proofs.Apart.{in_units, Other, closer}

power : (m : ℕ) (e : ℤ) → down e ≤ 2 ^ 149 → (a : ℕ) × (m * up e * 2 ^ 149 ≡ m * 2 ^ a * down e)
power m (pos j) h = (j + 149, mul_assoc m (2 ^ j) (2 ^ 149) ∙ ap (λ (v : ℕ). m * v) (sym (pow-add 2 j 149)) ∙ sym (mul-one (m * 2 ^ (j + 149))))
power m (negsuc j) h =
    (149 - suc j, ap (λ (v : ℕ). v * 2 ^ 149) (mul-one m) ∙ sym (over_power m 149 (suc j) (by_contra (suc j) 149 (λ l. not-le_of_lt (pow-lt l) h))))

-- an f32 is 24 digits times a power of two units
placed : (s : Bool) (m : ℕ) (e : ℤ) → T (fits binary32 (fin s m e)) → (m < 2 ^ 24) × (a : ℕ) × (m * up e * 2 ^ 149 ≡ m * 2 ^ a * down e)
unfolding fits
placed s zero e t = (pow_pos 24, 0, ap (λ (v : ℕ). v * 2 ^ 149) (zero-mul (up e)) ∙ sym (zero-mul (down e)))
placed s (suc m) e t =
    let odd = eqb (suc m % 2) 1 in
    let short = ltb (suc m) (2 ^ 24) in
    let fine = leb (down e) (2 ^ 149) in
    let u : T (odd && short && fine) = and_l (odd && short && fine) (ltb (suc m * up e) (2 ^ 128 * down e)) t in
    let p = power (suc m) e (leb→le (down e) (2 ^ 149) (and_r (odd && short) fine u)) in
    (ltb→lt (suc m) (2 ^ 24) (and_r odd short (and_l (odd && short) fine u)), p.0, p.1)

value : (s : Bool) (n : ℕ) → n < 2 ^ 16 → HasValue (round binary32 s n 10) s (grid binary32 n 10) (2 ^ 149)
value s n N =
    subst (λ (x : Float). HasValue x s (grid binary32 n 10) (2 ^ 149)) (sym (round_is binary32 s n 10))
    (units_val binary32 s (kept 24 (n * 2 ^ 149) 10) (drop 24 (n * 2 ^ 149) 10) (bounded n N))

-- the machine's comparison takes two as one where their sizes are equal and their signs too, or both are zero
as_one : (s t : Bool) (a b v : ℕ) → a ≡ b → (v ≡ 0 → a ≡ 0) → (t ≡ s) ⊎ (v ≡ 0) → T (eqb a b && (beq t s || eqb a 0))
as_one true true a b v p z h = and_i (eqb a b) true (eq→eqb p) tt
as_one false false a b v p z h = and_i (eqb a b) true (eq→eqb p) tt
as_one true false a b v p z h = and_i (eqb a b) (eqb a 0) (eq→eqb p) (eq→eqb (⊎_elim (λ q. absurd (false≢true q)) z h))
as_one false true a b v p z h = and_i (eqb a b) (eqb a 0) (eq→eqb p) (eq→eqb (⊎_elim (λ q. absurd (true≢false q)) z h))

told : (s t : Bool) (m k : ℕ) (e d : ℤ) (v w : ℕ) → k * up d * 2 ^ 149 ≡ v * down d → m * up e * 2 ^ 149 ≡ w * down e → T (ne (fin t k d) (fin s m e)) → Other s t v w
unfolding ne
told s t m k e d v w y x differ alike same = T_not (eq (fin t k d) (fin s m e)) (as_one s t (k * up d * down e) (m * up e * down d) v level none alike) differ
  where
    units : k * up d * down e * 2 ^ 149 ≡ v * down d * down e
    units = mul_right_comm (k * up d) (down e) (2 ^ 149) ∙ ap (λ (c : ℕ). c * down e) y

    level : k * up d * down e ≡ m * up e * down d
    level =
        eq_of_mul-eq-mul_right (2 ^ 149) (pow_pos 149) (k * up d * down e) (m * up e * down d)
        (units
        ∙ ap (λ (c : ℕ). c * down d * down e) same
        ∙ mul_right_comm w (down d) (down e)
        ∙ ap (λ (c : ℕ). c * down d) (sym x)
        ∙ mul_right_comm (m * up e) (2 ^ 149) (down d))

    none : v ≡ 0 → k * up d * down e ≡ 0
    none z =
        eq_of_mul-eq-mul_right (2 ^ 149) (pow_pos 149) (k * up d * down e) 0
        (units ∙ ap (λ (c : ℕ). c * down d * down e) z ∙ ap (λ (c : ℕ). c * down e) (zero-mul (down d)) ∙ zero-mul (down e))

near : (s : Bool) (n : ℕ) → n < 2 ^ 16 → (m : ℕ) (e : ℤ) → m * up e * 2 ^ 149 ≡ grid binary32 n 10 * down e → Nearest s n (fin s m e)
near s n N m e x t k d f differ =
    let u = 2 ^ 149 in
    let w = grid binary32 n 10 in
    let p = placed t k d f in
    let v = k * 2 ^ p.1 in
    let left : off s n s m e * down d * u ≡ apart s (w * 10) s (n * u) * down e * down d =
    mul_right_comm (off s n s m e) (down d) u ∙ ap (λ (a : ℕ). a * down d) (in_units s s n (m * up e) w u (down e) x) in
    let right : off s n t k d * down e * u ≡ apart t (v * 10) s (n * u) * down e * down d =
    mul_right_comm (off s n t k d) (down e) u
    ∙ ap (λ (a : ℕ). a * down e) (in_units s t n (k * up d) v u (down d) p.2)
    ∙ mul_right_comm (apart t (v * 10) s (n * u)) (down d) (down e) in
    lt_of_mul-lt-mul_right u
    (subst (λ (a : ℕ). a < off s n t k d * down e * u) (sym left)
    (subst (λ (a : ℕ). apart s (w * 10) s (n * u) * down e * down d < a) (sym right)
    (mul-lt-mul_of_pos_right (mul-lt-mul_of_pos_right (closer n N s t k p.1 p.0 (told s t m k e d v w p.2 x differ)) (down_pos e)) (down_pos d))))

nearest_value : (s : Bool) (n : ℕ) → n < 2 ^ 16 → (x : Float) → HasValue x s (grid binary32 n 10) (2 ^ 149) → Nearest s n x
nearest_value s n N nan h = absurd h
nearest_value s n N (inf t) h = absurd h
nearest_value true n N (fin false m e) h = absurd (false≢true h.0)
nearest_value false n N (fin true m e) h = absurd (true≢false h.0)
nearest_value true n N (fin true m e) h = near true n N m e h.1
nearest_value false n N (fin false m e) h = near false n N m e h.1

pub nearest : (z : ℤ) → mag z < 2 ^ 15 → Nearest (not (non_neg z)) (nat_abs z) (degrees_of z)
unfolding degrees_of
nearest (pos n) h = let N : n < 2 ^ 16 = omega (arith, h) in nearest_value false n N (round binary32 false n 10) (value false n N)
nearest (negsuc n) h = let N : suc n < 2 ^ 16 = omega (arith, h) in nearest_value true (suc n) N (round binary32 true (suc n) 10) (value true (suc n) N)
