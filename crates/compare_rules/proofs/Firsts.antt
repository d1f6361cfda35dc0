-- A place is the first where two sequences differ: what stands before it is the same in both, and with it no more; so also where one of them only ends.
use mathlib.Core.Path.{◌≡◌, refl, ap, ap₂, ◌∙◌, subst}
use mathlib.Core.Logic.{◌⊎◌, inl, inr}
use mathlib.Core.Bool.{Bool, true, false, cond}
use mathlib.Core.List.{List, [], ◌∷◌}
use Prim.Native.Nat.{ℕ, zero, suc, ◌+◌, ◌<◌}
use native.Mathlib.Omega.{arith}
use lib.ListN.{length, get_or, take}
use Rattle.log_records.specs.Record.{Rec}
use Rattle.compare_rules.specs.Records.{same}
use Rattle.compare_rules.specs.Places.{on_channel, differ, channels, place_on, places_from, places_of}
use Rattle.compare_rules.proofs.Sames.{rec_refl, rec_same, never}

-- behind the first j there is no place up to j
low : (j : ℕ) (xs ys : List Rec) → (differ (suc j) xs ys ≡ 0) ⊎ (j < differ (suc j) xs ys)
unfolding differ
low j [] [] = inl refl
low j [] (y ∷ ys) = inr (omega arith)
low j (x ∷ xs) [] = inr (omega arith)
low j (x ∷ xs) (y ∷ ys) = by (same x y) (low (suc j) xs ys) where
  by : (t : Bool) → (differ (suc (suc j)) xs ys ≡ 0) ⊎ (suc j < differ (suc (suc j)) xs ys)
      → (cond t (differ (suc (suc j)) xs ys) (suc j) ≡ 0) ⊎ (j < cond t (differ (suc (suc j)) xs ys) (suc j))
  by true (inl e) = inl e
  by true (inr h) = inr (omega arith)
  by false h = inr (omega arith)

heads : {x y : Rec} {xs ys : List Rec} → x ∷ xs ≡ y ∷ ys → x ≡ y
heads e = cc

tails : {x y : Rec} {xs ys : List Rec} → x ∷ xs ≡ y ∷ ys → xs ≡ ys
tails e = cc

alike : (x y : Rec) → same x y ≡ false → x ≡ y → ⊥
alike x y e f = never e (subst (λ (z : Rec). same x z ≡ true) f (rec_refl x))

-- the first k are the same, and the first k + 1 are not
abbrev pub FirstApart : ℕ → List Rec → List Rec → Type 0
FirstApart k xs ys = (take k xs ≡ take k ys) × (take (suc k) xs ≡ take (suc k) ys → ⊥)

apart_at : (j k : ℕ) (xs ys : List Rec) → differ (suc j) xs ys ≡ suc (j + k) → FirstApart k xs ys
unfolding differ
apart_at j k [] [] e = absurd (omega arith)
apart_at j zero [] (y ∷ ys) e = (refl, λ f. let z : ◌≡◌ {A = ℕ} 0 1 = cc in omega arith)
apart_at j (suc k) [] (y ∷ ys) e = absurd (omega arith)
apart_at j zero (x ∷ xs) [] e = (refl, λ f. let z : ◌≡◌ {A = ℕ} 0 1 = cc in omega arith)
apart_at j (suc k) (x ∷ xs) [] e = absurd (omega arith)
apart_at j zero (x ∷ xs) (y ∷ ys) e = (refl, by (same x y) refl e (low (suc j) xs ys)) where
  by : (t : Bool) → same x y ≡ t → cond t (differ (suc (suc j)) xs ys) (suc j) ≡ suc (j + 0)
      → (differ (suc (suc j)) xs ys ≡ 0) ⊎ (suc j < differ (suc (suc j)) xs ys) → x ∷ [] ≡ y ∷ [] → ⊥
  by true p q (inl z) f = omega arith
  by true p q (inr z) f = omega arith
  by false p q h f = alike x y p (heads f)
apart_at j (suc k) (x ∷ xs) (y ∷ ys) e = by (same x y) refl e (apart_at (suc j) k xs ys) where
  by : (t : Bool) → same x y ≡ t → cond t (differ (suc (suc j)) xs ys) (suc j) ≡ suc (j + suc k)
      → (differ (suc (suc j)) xs ys ≡ suc (suc j + k) → FirstApart k xs ys) → FirstApart (suc k) (x ∷ xs) (y ∷ ys)
  by true p q more =
      let w = more (omega arith) in
      (ap₂ (λ (z : Rec) (l : List Rec). z ∷ l) (rec_same x y p) w.0, λ f. w.1 (tails f))
  by false p q more = absurd (omega arith)

at_apart : (j k : ℕ) (xs ys : List Rec) → FirstApart k xs ys → differ (suc j) xs ys ≡ suc (j + k)
unfolding differ
at_apart j k [] [] w = absurd (w.1 refl)
at_apart j zero [] (y ∷ ys) w = omega arith
at_apart j (suc k) [] (y ∷ ys) w = absurd (let z : ◌≡◌ {A = ℕ} 0 1 = cc w.0 in omega arith)
at_apart j zero (x ∷ xs) [] w = omega arith
at_apart j (suc k) (x ∷ xs) [] w = absurd (let z : ◌≡◌ {A = ℕ} 0 1 = cc w.0 in omega arith)
at_apart j zero (x ∷ xs) (y ∷ ys) w = by (same x y) refl where
  by : (t : Bool) → same x y ≡ t → cond t (differ (suc (suc j)) xs ys) (suc j) ≡ suc (j + 0)
  by true p = absurd (w.1 (ap (λ (z : Rec). z ∷ []) (rec_same x y p)))
  by false p = omega arith
at_apart j (suc k) (x ∷ xs) (y ∷ ys) w = by (same x y) refl (at_apart (suc j) k xs ys) where
  by : (t : Bool) → same x y ≡ t → (FirstApart k xs ys → differ (suc (suc j)) xs ys ≡ suc (suc j + k))
      → cond t (differ (suc (suc j)) xs ys) (suc j) ≡ suc (j + suc k)
  by true p more =
      let d = more (tails w.0, λ f. w.1 (ap₂ (λ (z : Rec) (l : List Rec). z ∷ l) (rec_same x y p) f)) in
      omega (arith, d)
  by false p more = absurd (alike x y p (heads w.0))

module _ (c k : ℕ) (a b : List Rec) where
  pub place_first : place_on c a b ≡ suc k → FirstApart k (on_channel c a) (on_channel c b)
  place_first e = let z : suc k ≡ suc (0 + k) = omega arith in apart_at 0 k (on_channel c a) (on_channel c b) (e ∙ z)

  pub first_place : FirstApart k (on_channel c a) (on_channel c b) → place_on c a b ≡ suc k
  first_place w = let z : suc (0 + k) ≡ suc k = omega arith in at_apart 0 k (on_channel c a) (on_channel c b) w ∙ z

-- ---- the places, channel by channel

places_from_lem : (a b : List Rec) (k c i : ℕ) → i < k → get_or (places_from a b c k) i 0 ≡ place_on (c + i) a b
unfolding places_from
places_from_lem a b zero c i h = absurd (omega arith)
places_from_lem a b (suc k) c zero h = let z : c ≡ c + 0 = omega arith in ap (λ (d : ℕ). place_on d a b) z
places_from_lem a b (suc k) c (suc i) h = let z : suc c + i ≡ c + suc i = omega arith in places_from_lem a b k (suc c) i (omega arith) ∙ ap (λ (d : ℕ). place_on d a b) z

pub place_of_channel : (a b : List Rec) (c : ℕ) → c < channels → get_or (places_of a b) c 0 ≡ place_on c a b
place_of_channel a b c h = let z : 0 + c ≡ c = omega arith in places_from_lem a b channels 0 c h ∙ ap (λ (d : ℕ). place_on d a b) z

length_from : (a b : List Rec) (k c : ℕ) → length (places_from a b c k) ≡ k
unfolding places_from
length_from a b zero c = refl
length_from a b (suc k) c = ap suc (length_from a b k (suc c))

pub as_many_places : (a b : List Rec) → length (places_of a b) ≡ channels
as_many_places a b = length_from a b channels 0
