-- How often a record stands in a list, and among its first.
use mathlib.Core.Path.{◌≡◌, refl, ap, ◌∙◌, subst}
use mathlib.Core.Bool.{Bool, true, false, cond}
use mathlib.Core.List.{List, [], ◌∷◌, ◌++◌}
use Prim.Native.Nat.{ℕ, zero, suc, ◌+◌, ◌-◌, ◌≤◌, ◌<◌}
use native.Mathlib.Omega.{arith}
use lib.ListN.{length, take, drop}
use lib.Seq.{take-suc, take-add, take-length}
use Rattle.log_records.specs.Record.{Rec, tick}
use Rattle.compare_rules.specs.Records.{same, at}
use Rattle.compare_rules.specs.Surplus.{count_of}
use Rattle.compare_rules.proofs.Sames.{rec_refl, rec_same, same_not}

pub count_append : (r : Rec) (xs ys : List Rec) → count_of r (xs ++ ys) ≡ count_of r xs + count_of r ys
unfolding count_of
count_append r [] ys = omega arith
count_append r (x ∷ xs) ys = by (same r x) (count_append r xs ys) where
  by : (t : Bool) → count_of r (xs ++ ys) ≡ count_of r xs + count_of r ys
      → cond t (suc (count_of r (xs ++ ys))) (count_of r (xs ++ ys)) ≡ cond t (suc (count_of r xs)) (count_of r xs) + count_of r ys
  by true e = omega arith
  by false e = e

count_one : (r x : Rec) → count_of r (x ∷ []) ≡ cond (same r x) 1 0
unfolding count_of
count_one r x = refl

-- one more
pub count_more : (rs : List Rec) (r : Rec) (i : ℕ) → i < length rs → count_of r (take (suc i) rs) ≡ count_of r (take i rs) + cond (same r (at rs i)) 1 0
count_more rs r i h =
    ap (count_of r) (take-suc rs i (tick 0 0) h) ∙ count_append r (take i rs) (at rs i ∷ []) ∙ ap (λ (k : ℕ). count_of r (take i rs) + k) (count_one r (at rs i))

pub count_here : (rs : List Rec) (r : Rec) (i : ℕ) → i < length rs → r ≡ at rs i → count_of r (take (suc i) rs) ≡ count_of r (take i rs) + 1
count_here rs r i h e =
    count_more rs r i h ∙ ap (λ (t : Bool). count_of r (take i rs) + cond t 1 0) (subst (λ (x : Rec). same r x ≡ true) e (rec_refl r))

pub count_past : (rs : List Rec) (r : Rec) (i : ℕ) → i < length rs → (r ≡ at rs i → ⊥) → count_of r (take (suc i) rs) ≡ count_of r (take i rs)
count_past rs r i h e =
    count_more rs r i h ∙ ap (λ (t : Bool). count_of r (take i rs) + cond t 1 0) (same_not r (at rs i) e) ∙ omega arith

-- of more there are as many at least
pub count_up : (rs : List Rec) (r : Rec) (i j : ℕ) → i ≤ j → count_of r (take i rs) ≤ count_of r (take j rs)
count_up rs r i j h =
    let z : j ≡ i + (j - i) = omega arith in
    omega (arith, ap (λ (k : ℕ). count_of r (take k rs)) z ∙ ap (count_of r) (take-add i (j - i) rs) ∙ count_append r (take i rs) (take (j - i) (drop i rs)))

pub count_all : (rs : List Rec) (r : Rec) → count_of r (take (length rs) rs) ≡ count_of r rs
count_all rs r = ap (count_of r) (take-length rs)

-- the rank of a record among those that are the same
abbrev pub rank : List Rec → ℕ → ℕ
rank rs j = count_of (at rs j) (take (suc j) rs)

-- where none of the first j that is r has a rank above k, there are no more than k of it
pub ranked : (rs : List Rec) (r : Rec) (k j : ℕ) → j ≤ length rs → ((l : ℕ) → l < j → r ≡ at rs l → rank rs l ≤ k) → count_of r (take j rs) ≤ k
unfolding count_of
ranked rs r k zero h f = omega arith
ranked rs r k (suc j) h f = by (same r (at rs j)) refl (ranked rs r k j (omega arith) (λ l p q. f l (omega arith) q)) where
  by : (t : Bool) → same r (at rs j) ≡ t → count_of r (take j rs) ≤ k → count_of r (take (suc j) rs) ≤ k
  by true e g =
      let z : r ≡ at rs j = rec_same r (at rs j) e in
      omega (arith, f j (omega arith) z, ap (λ (x : Rec). count_of x (take (suc j) rs)) z)
  by false e g =
      omega (arith, count_more rs r j (omega arith) ∙ ap (λ (t : Bool). count_of r (take j rs) + cond t 1 0) e)

-- two places with the same record have different ranks
pub rank_less : (rs : List Rec) (i j : ℕ) → i < j → j < length rs → at rs i ≡ at rs j → rank rs i < rank rs j
rank_less rs i j h g e =
    omega (arith, count_here rs (at rs j) j g refl, count_up rs (at rs j) (suc i) j (omega arith), ap (λ (x : Rec). count_of x (take (suc i) rs)) e)
