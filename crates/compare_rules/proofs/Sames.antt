-- The same records: `same` is equality, and it shows in the bytes.
use mathlib.Core.Path.{◌≡◌, refl, sym, ap, subst}
use mathlib.Core.Bool.{Bool, true, false, ◌&&◌}
use mathlib.Core.List.{List, [], ◌∷◌, ◌++◌}
use Prim.Native.Nat.{ℕ}
use native.Mathlib.Omega.{arith}
use lib.Dec.{eqb}
use borrow.Author.Tests.{eq-eqb, eqb-true}
use Rattle.log_records.specs.Record.{Rec, tick, frame, Loggable, record_bytes, log_bytes}
use Rattle.log_records.proofs.Logs.{logs_differ}
use Rattle.compare_rules.specs.Records.{same_bytes, same_form, same}
use Rattle.compare_rules.proofs.Bytes.{same_refl, same_list}

both : (p q : Bool) → (p && q) ≡ true → (p ≡ true) × (q ≡ true)
both true q e = (refl, e)
both false q e = (e, absurd (let z : ◌≡◌ {A = ℕ} 0 1 = cc in omega arith))

form_same : (x y : Bool) → same_form x y ≡ true → x ≡ y
form_same true y e = sym e
form_same false true e = e
form_same false false e = refl

form_refl : (x : Bool) → same_form x x ≡ true
form_refl true = refl
form_refl false = refl

-- "equal only in all parts"
pub rec_same : (r q : Rec) → same r q ≡ true → r ≡ q
unfolding same
rec_same (tick t c) (tick u d) e =
    let h = both (eqb t u) (eqb c d) e in
    let a : t ≡ u = eqb-true t u h.0 in
    let b : c ≡ d = eqb-true c d h.1 in cc
rec_same (tick t c) (frame u d y j q) e = cc
rec_same (frame t c x i p) (tick u d) e = cc
rec_same (frame t c x i p) (frame u d y j q) e =
    let h = both (eqb t u) _ e in
    let g = both (eqb c d) _ h.1 in
    let f = both (same_form x y) _ g.1 in
    let k = both (eqb i j) (same_bytes p q) f.1 in
    let a : t ≡ u = eqb-true t u h.0 in
    let b : c ≡ d = eqb-true c d g.0 in
    let n : x ≡ y = form_same x y f.0 in
    let m : i ≡ j = eqb-true i j k.0 in
    let l : p ≡ q = same_list p q k.1 in cc

pub rec_refl : (r : Rec) → same r r ≡ true
unfolding same
rec_refl (tick t c) = rw (eq-eqb t t refl, eq-eqb c c refl)
rec_refl (frame t c x i p) = rw (eq-eqb t t refl, eq-eqb c c refl, form_refl x, eq-eqb i i refl, same_refl p)

pub same_either : (r q : Rec) (P : Bool → Type 0) → (r ≡ q → P true) → ((r ≡ q → ⊥) → P false) → P (same r q)
same_either r q P on off = by (same r q) refl where
  by : (t : Bool) → same r q ≡ t → P t
  by true e = on (rec_same r q e)
  by false e = off (λ z. let f : same r q ≡ true = subst (λ (x : Rec). same r x ≡ true) z (rec_refl r) in let b : ◌≡◌ {A = ℕ} 0 1 = cc in omega arith)

pub same_not : (r q : Rec) → (r ≡ q → ⊥) → same r q ≡ false
same_not r q h = same_either r q (λ (t : Bool). t ≡ false) (λ e. absurd (h e)) (λ e. refl)

pub same_sym : (r q : Rec) → same r q ≡ same q r
same_sym r q = same_either r q (λ (t : Bool). t ≡ same q r) (λ e. sym (subst (λ (x : Rec). same x r ≡ true) e (rec_refl r))) (λ h. sym (same_not q r (λ e. h (sym e))))

bytes_one : (x y : Rec) → Loggable x → Loggable y → record_bytes x ≡ record_bytes y → x ≡ y
unfolding log_bytes
bytes_one x y hx hy e = let l : x ∷ [] ≡ y ∷ [] = logs_differ (x ∷ []) (y ∷ []) (hx, tt) (hy, tt) (ap (λ (s : List ℕ). s ++ []) e) in cc

-- no two records have the same bytes
pub by_bytes : (x y : Rec) → Loggable x → Loggable y → same_bytes (record_bytes x) (record_bytes y) ≡ same x y
by_bytes x y hx hy = by (same_bytes (record_bytes x) (record_bytes y)) refl where
  by : (t : Bool) → same_bytes (record_bytes x) (record_bytes y) ≡ t → t ≡ same x y
  by true e = let z : x ≡ y = bytes_one x y hx hy (same_list (record_bytes x) (record_bytes y) e) in sym (subst (λ (r : Rec). same x r ≡ true) z (rec_refl x))
  by false e = sym (same_not x y (λ z.
      let f : same_bytes (record_bytes x) (record_bytes y) ≡ true = subst (λ (r : Rec). same_bytes (record_bytes x) (record_bytes r) ≡ true) z (same_refl (record_bytes x)) in
      let b : ◌≡◌ {A = ℕ} 0 1 = cc in omega arith))

pub never : {t : Bool} → t ≡ false → t ≡ true → ⊥
never e f = let z : ◌≡◌ {A = ℕ} 0 1 = cc in omega arith
