-- The places of the channels: none exactly where the two sequences are equal, and the same for swapped logs.
use mathlib.Core.Path.{◌≡◌, refl, sym, ap, ap₂, ◌∙◌}
use mathlib.Core.Bool.{Bool, true, false, cond}
use mathlib.Core.List.{List, [], ◌∷◌}
use Prim.Native.Nat.{ℕ, zero, suc}
use native.Mathlib.Omega.{arith}
use Rattle.log_records.specs.Record.{Rec}
use Rattle.compare_rules.specs.Records.{same}
use Rattle.compare_rules.specs.Places.{on_channel, differ, place_on, places_from, places_of}
use Rattle.compare_rules.proofs.Sames.{rec_refl, rec_same, same_sym}

differ_sym : (k : ℕ) (xs ys : List Rec) → differ k xs ys ≡ differ k ys xs
unfolding differ
differ_sym k [] [] = refl
differ_sym k [] (y ∷ ys) = refl
differ_sym k (x ∷ xs) [] = refl
differ_sym k (x ∷ xs) (y ∷ ys) = ap₂ (λ (t : Bool) (d : ℕ). cond t d k) (same_sym x y) (differ_sym (suc k) xs ys)

swap_from : (a b : List Rec) (k c : ℕ) → places_from a b c k ≡ places_from b a c k
unfolding places_from
swap_from a b zero c = refl
swap_from a b (suc k) c = ap₂ (λ (d : ℕ) (l : List ℕ). d ∷ l) (differ_sym _ _ _) (swap_from a b k (suc c))

-- swapping the logs keeps the places (and swaps the lists, which are `surplusOf a b` and `surplusOf b a`)
pub places_swap : (a b : List Rec) → places_of a b ≡ places_of b a
places_swap a b = swap_from a b 32 0

differ_none : (k : ℕ) (xs ys : List Rec) → differ (suc k) xs ys ≡ 0 → xs ≡ ys
unfolding differ
differ_none k [] [] e = refl
differ_none k [] (y ∷ ys) e = absurd (omega arith)
differ_none k (x ∷ xs) [] e = absurd (omega arith)
differ_none k (x ∷ xs) (y ∷ ys) e = by (same x y) refl e (differ_none (suc k) xs ys) where
  by : (t : Bool) → same x y ≡ t → cond t (differ (suc (suc k)) xs ys) (suc k) ≡ 0 → (differ (suc (suc k)) xs ys ≡ 0 → xs ≡ ys) → x ∷ xs ≡ y ∷ ys
  by true p q f = ap₂ (λ (z : Rec) (l : List Rec). z ∷ l) (rec_same x y p) (f q)
  by false p q f = absurd (omega arith)

differ_self : (k : ℕ) (xs : List Rec) → differ k xs xs ≡ 0
unfolding differ
differ_self k [] = refl
differ_self k (x ∷ xs) = ap (λ (t : Bool). cond t (differ (suc k) xs xs) k) (rec_refl x) ∙ differ_self (suc k) xs

-- no place exactly where the two sequences are equal
pub none_place : (c : ℕ) (a b : List Rec) → on_channel c a ≡ on_channel c b → place_on c a b ≡ 0
none_place c a b e = ap (differ _ _) (sym e) ∙ differ_self _ _

pub place_none : (c : ℕ) (a b : List Rec) → place_on c a b ≡ 0 → on_channel c a ≡ on_channel c b
place_none c a b e = differ_none _ (on_channel c a) (on_channel c b) e

pub nowhere : (c : ℕ) (a : List Rec) → place_on c a a ≡ 0
nowhere c a = none_place c a a refl
