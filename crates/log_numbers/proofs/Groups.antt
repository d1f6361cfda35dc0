-- The groups of a number from the low one up: what `number_at` answers of none and one, what each turn of `several_groups` keeps, and what it answers.
use mathlib.Core.Path.{◌≡◌, refl, sym, ap, ap₂, ◌∙◌}
use mathlib.Core.Bool.{Bool, true, false, cond}
use mathlib.Core.List.{List, [], ◌∷◌}
use Prim.Native.Nat.{ℕ, zero, suc, ◌+◌, ◌-◌, ◌*◌, ◌≤◌, ◌<◌}
use native.Mathlib.Nat.{add-mul, mul_assoc, mul_comm, suc-mul, mul-le-mul_right, mul-le-mul_left}
use native.Mathlib.Omega.{arith}
use native.Mathlib.Numerals.{add-one}
use lib.ListN.{length, drop, get_or, drop_of_length-le}
use lib.Seq.{drop-cons}
use lib.Dec.{eqb}
use borrow.Author.Tests.{lt-ltb, le-ltb, ne_eqb, eqb-false}
use Rattle.std.specs.Prelude.{Ok, Err}
use Rattle.log_numbers.specs.declared.NumberError.TheVariants.{Cut, Ill}
use Rattle.log_numbers.specs.Number.{Num, more_of, read_groups, read_number, top}
use Rattle.log_numbers.proofs.Numbers.{top_some}

-- ---- weights

weighed : (w n c m : ℕ) → n + (c + m * 128) * w ≡ n + c * w + m * (w * 128)
weighed w n c m = rw (add-mul c (m * 128) w, mul_assoc m 128 w, mul_comm 128 w) (omega arith)

-- a group below m, behind n, makes less than m groups' weight
below : (w n c m : ℕ) → n < w → c < m → n + c * w < m * w
below w n c m h g = omega (arith, mul-le-mul_right w g, suc-mul c w)

-- the next group weighs 128 times as much
weight_more : (w k : ℕ) → w * top (suc k) ≡ w * 128 * top k
unfolding top
weight_more w k = rw (mul_comm (top k) 128, mul_assoc w 128 (top k))

-- ---- i groups that hold n, in front of what was read after them, whose first group weighs w

abbrev pub with_low : ℕ → ℕ → ℕ → Num → Num
with_low w i n (Ok (m, j)) = cond (eqb m 0) (Err Ill) (Ok (n + m * w, i + j))
with_low w i n (Err e) = Err e

-- as one group is
with_one : (b : ℕ) (r : Num) → 128 ≤ b → b < 256 → more_of b r ≡ with_low 128 1 (b - 128) r
with_one b (Ok (m, j)) h g = ap₂ (λ (x y : ℕ). cond (eqb m 0) (Err Ill) (Ok (x, y))) (omega arith) (omega arith)
with_one b (Err e) h g = refl

-- and one more
with_more : (w i n c : ℕ) (r : Num) → with_low w i n (with_low 128 1 c r) ≡ with_low (w * 128) (i + 1) (n + c * w) r
with_more w i n c (Ok (m, j)) = pick (eqb m 0) refl
  where
    pick : (t : Bool) → eqb m 0 ≡ t
        → with_low w i n (cond t (Err Ill) (Ok (c + m * 128, 1 + j))) ≡ cond t (Err Ill) (Ok (n + c * w + m * (w * 128), i + 1 + j))
    pick true e = refl
    pick false e =
        let some : eqb (c + m * 128) 0 ≡ false = ne_eqb (c + m * 128) 0 (λ z. eqb-false m 0 e (omega arith)) in
        let size : i + (1 + j) ≡ i + 1 + j = omega arith in
        rw (some, weighed w n c m, size)
with_more w i n c (Err e) = refl

-- ---- no group, and one

pub at_end : (s : List ℕ) (at k : ℕ) → length s ≤ at → Err Cut ≡ read_groups k (drop at s)
unfolding read_groups
at_end s at k h = rw (drop_of_length-le s h)

pub at_one : (s : List ℕ) (at : ℕ) → at < length s → get_or s at 0 < 128 → Ok (get_or s at 0, 1) ≡ read_number (drop at s)
unfolding read_groups
at_one s at h b = rw (drop-cons s at 0 h, lt-ltb (get_or s at 0) 128 b)

-- ---- a turn of `several_groups`

-- the first i groups hold n; the next weighs w, and with the 4 - i that may follow it 32 bits are full
pub record Turn (s : List ℕ) (n w i : ℕ) : Type 0 where
  pub most : i ≤ 4
  pub weighs : w * top (4 - i) ≡ 4294967296
  pub holds : n < w
  pub reads : with_low w i n (read_groups (4 - i) (drop i s)) ≡ read_number s

pub turn_start : (s : List ℕ) → get_or s 0 0 < 256 → 0 < length s → 128 ≤ get_or s 0 0 → Turn s (get_or s 0 0 - 128) 128 1
unfolding read_groups top
turn_start s u h b =
    record {
      most = omega arith;
      weighs = refl;
      holds = omega arith;
      reads = sym (ap (read_groups 4) (drop-cons s 0 0 h) ∙ rw (le-ltb (get_or s 0 0) 128 b) (with_one (get_or s 0 0) (read_groups 3 (drop 1 s)) b u));
    }

-- ---- what the next group, b, answers

via : {s : List ℕ} {n w i : ℕ} → Turn s n w i → (x : Num) → x ≡ read_groups (4 - i) (drop i s) → with_low w i n x ≡ read_number s
via t x e = ap (with_low _ _ _) e ∙ t.reads

pub turn_cut : {s : List ℕ} {n w i : ℕ} → Turn s n w i → length s ≤ i → Err Cut ≡ read_number s
turn_cut {s} {n} {w} {i} t h = via t (Err Cut) (at_end s i (4 - i) h)

-- the last one, of which k more may follow, is below 128, and below 16 as the fifth
last_one : (k i b : ℕ) (bs : List ℕ) → i + k ≡ 4 → b < 128 → (i ≡ 4 → b < 16) → (read_groups k (b ∷ bs) ≡ Ok (b, 1)) × (b < top k)
unfolding read_groups top
last_one zero i b bs e h f = let u : b < 16 = f (omega arith) in (rw (lt-ltb b 16 u), u)
last_one (suc k) i b bs e h f = (rw (lt-ltb b 128 h), omega (arith, top_some k))

module _ {s : List ℕ} {n w i : ℕ} (t : Turn s n w i) (b : get_or s i 0 < 128) (f : i ≡ 4 → get_or s i 0 < 16) where
  pub turn_fits : n + get_or s i 0 * w < 4294967296
  turn_fits =
      let l = last_one (4 - i) i (get_or s i 0) [] (omega (arith, t.most)) b f in
      omega (arith, below w n (get_or s i 0) (top (4 - i)) t.holds l.1, mul_comm w (top (4 - i)), t.weighs)

  pub turn_last : i < length s → cond (eqb (get_or s i 0) 0) (Err Ill) (Ok (n + get_or s i 0 * w, i + 1)) ≡ read_number s
  turn_last h =
      let l = last_one (4 - i) i (get_or s i 0) (drop (suc i) s) (omega (arith, t.most)) b f in
      via t (Ok (get_or s i 0, 1)) (sym (rw (drop-cons s i 0 h) l.0))

pub turn_ill : {s : List ℕ} {n w : ℕ} → Turn s n w 4 → 4 < length s → 16 ≤ get_or s 4 0 → Err Ill ≡ read_number s
unfolding read_groups
turn_ill {s} {n} {w} t h b = via t (Err Ill) (sym (ap (read_groups 0) (drop-cons s 4 0 h) ∙ rw (le-ltb (get_or s 4 0) 16 b)))

-- ---- what it leaves to the next turn

-- from 128 on it has its high bit set
pub record High (s : List ℕ) (n w i : ℕ) : Type 0 where
  pub high : 128 ≤ get_or s i 0
  pub byte : get_or s i 0 < 256
  pub holds : n + (get_or s i 0 - 128) * w < w * 128
  pub weighs : w * 128 < 4294967296

pub turn_high : {s : List ℕ} {n w i : ℕ} → Turn s n w i → i < 4 → get_or s i 0 < 256 → 128 ≤ get_or s i 0 → High s n w i
turn_high {s} {n} {w} {i} t f u b =
    let k : 4 - i ≡ suc (3 - i) = omega arith in
    record {
      high = b;
      byte = u;
      holds = omega (arith, below w n (get_or s i 0 - 128) 128 t.holds (omega (arith, u)));
      weighs = omega (arith, ap (λ (j : ℕ). w * top j) k, weight_more w (3 - i), t.weighs, t.holds, mul-le-mul_left (w * 128) (top_some (3 - i)));
    }

pub turn_more : {s : List ℕ} {n w i : ℕ} → Turn s n w i → High s n w i → i < length s → i < 4
    → Turn s (n + (get_or s i 0 - 128) * w) (w * 128) (i + 1)
unfolding read_groups
turn_more {s} {n} {w} {i} t b h f =
    let k : 4 - i ≡ suc (4 - (i + 1)) = omega arith in
    let rest = read_groups (4 - (i + 1)) (drop (i + 1) s) in
    record {
      most = omega arith;
      weighs = sym (weight_more w (4 - (i + 1))) ∙ rw (← k) t.weighs;
      holds = b.holds;
      reads = sym (with_more w i n (get_or s i 0 - 128) rest)
          ∙ via t _ (sym (with_one (get_or s i 0) rest b.high b.byte)
          ∙ rw (drop-cons s i 0 h, k, le-ltb (get_or s i 0) 128 b.high, add-one i));
    }
