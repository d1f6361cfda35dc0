-- Each refusal of a comparison exactly in its case and in 02's order, and then nothing changes.
use mathlib.Core.Path.{◌≡◌, refl, ap, subst}
use mathlib.Core.Logic.{inl, inr}
use mathlib.Core.Bool.{Bool, true, false, cond}
use mathlib.Core.Option.{Option, none, some}
use mathlib.Core.List.{List}
use Prim.Native.Nat.{ℕ}
use native.Mathlib.Omega.{arith}
use lib.ListN.{length}
use lib.Dec.{ltb}
use borrow.Author.Tests.{ltb-true, ltb-false, lt-ltb, le-ltb}
use Rattle.std.specs.Prelude.{Ok, Err}
use Rattle.refusals.specs.declared.Refusal.{Refusal}
use Rattle.refusals.specs.declared.Refusal.TheVariants.{ShortBuffer, CompareLog, CompareRecords, CompareRoom}
use Rattle.log_records.specs.Reading.{log_of}
use Rattle.compare_rules.specs.Places.{channels}
use Rattle.compare_rules.specs.Compare.{Compared, listed_in, refused_for, most, records_of, broken_at, unbroken, judged, listed_of, compared_of, first_after, second_after, places_after}
use Rattle.compare_rules.specs.Cases.{Broken, Sound, Many, Short, NoPlaces, Taken}

abbrev pub Exactly : Type 0 → Type 0 → Type 0
Exactly A B = (A → B) × (B → A)

-- the parts of a refusal
abbrev why_by : Compared → Option Refusal
why_by (Ok x) = none
why_by (Err e) = some e.why

abbrev side_by : Compared → ℕ
side_by (Ok x) = 0
side_by (Err e) = e.side

abbrev at_by : Compared → ℕ
at_by (Ok x) = 0
at_by (Err e) = e.at

module _ (a b : List ℕ) (x y z : ℕ) where
  abbrev n : ℕ
  n = length (records_of a)

  abbrev m : ℕ
  m = length (records_of b)

  abbrev go : Compared
  go = listed_of (records_of a) (records_of b)

  -- there is no other case
  module _ (P : Compared → Type 0)
      (broken : (side at : ℕ) → Broken a b side at → P (refused_for CompareLog side at))
      (many : (side : ℕ) → Many a b side → P (refused_for CompareRecords side 0))
      (short : (side : ℕ) → Short a b x y side → P (refused_for CompareRoom side 0))
      (few : NoPlaces a b x y z → P (refused_for ShortBuffer 0 0))
      (taken : Taken a b x y z → P go) where
    by-numbers : Sound a b → P (judged n m x y z go)
    by-numbers s = by (ltb most n) (ltb most m) (ltb x most) (ltb y most) (ltb z channels) refl refl refl refl refl where
      by : (t u v w q : Bool) → ltb most n ≡ t → ltb most m ≡ u → ltb x most ≡ v → ltb y most ≡ w → ltb z channels ≡ q
          → P (cond t (refused_for CompareRecords 1 0) (cond u (refused_for CompareRecords 2 0) (cond v (refused_for CompareRoom 1 0) (cond w (refused_for CompareRoom 2 0) (cond q (refused_for ShortBuffer 0 0) go)))))
      by true u v w q e f g h k = many 1 (s, inl (refl, ltb-true most n e))
      by false true v w q e f g h k = many 2 (s, inr (refl, ltb-false most n e, ltb-true most m f))
      by false false true w q e f g h k = short 1 ((s, ltb-false most n e, ltb-false most m f), inl (refl, ltb-true x most g))
      by false false false true q e f g h k = short 2 ((s, ltb-false most n e, ltb-false most m f), inr (refl, ltb-false x most g, ltb-true y most h))
      by false false false false true e f g h k = few (((s, ltb-false most n e, ltb-false most m f), ltb-false x most g, ltb-false y most h), ltb-true z channels k)
      by false false false false false e f g h k = taken (((s, ltb-false most n e, ltb-false most m f), ltb-false x most g, ltb-false y most h), ltb-false z channels k)

    pub by_case : P (compared_of a b x y z)
    unfolding compared_of
    by_case = by (broken_at (log_of a)) (broken_at (log_of b)) refl refl where
      by : (o p : Option ℕ) → broken_at (log_of a) ≡ o → broken_at (log_of b) ≡ p → P (unbroken 1 o (unbroken 2 p (judged n m x y z go)))
      by (some at) p e f = broken 1 at (inl (refl, e))
      by none (some at) e f = broken 2 at (inr (refl, e, f))
      by none none e f = by-numbers (e, f)

  -- ---- each case gives its answer

  module _ (side : ℕ) where
    pub broken_is : (at : ℕ) → Broken a b side at → compared_of a b x y z ≡ refused_for CompareLog side at
    unfolding compared_of
    broken_is at (inl (s, e)) = rw (e, s) refl
    broken_is at (inr (s, e, f)) = rw (e, f, s) refl

    pub many_is : Many a b side → compared_of a b x y z ≡ refused_for CompareRecords side 0
    unfolding compared_of
    many_is ((e, f), inl (s, g)) = rw (e, f, lt-ltb most n g, s) refl
    many_is ((e, f), inr (s, g, h)) = rw (e, f, le-ltb most n g, lt-ltb most m h, s) refl

    pub short_is : Short a b x y side → compared_of a b x y z ≡ refused_for CompareRoom side 0
    unfolding compared_of
    short_is (((e, f), g, h), inl (s, k)) = rw (e, f, le-ltb most n g, le-ltb most m h, lt-ltb x most k, s) refl
    short_is (((e, f), g, h), inr (s, k, l)) = rw (e, f, le-ltb most n g, le-ltb most m h, le-ltb x most k, lt-ltb y most l, s) refl

  pub few_is : NoPlaces a b x y z → compared_of a b x y z ≡ refused_for ShortBuffer 0 0
  unfolding compared_of
  few_is ((((e, f), g, h), k, l), q) = rw (e, f, le-ltb most n g, le-ltb most m h, le-ltb x most k, le-ltb y most l, lt-ltb z channels q) refl

  pub taken_is : Taken a b x y z → compared_of a b x y z ≡ go
  unfolding compared_of
  taken_is ((((e, f), g, h), k, l), q) = rw (e, f, le-ltb most n g, le-ltb most m h, le-ltb x most k, le-ltb y most l, le-ltb z channels q) refl

  -- ---- and only that one

  pub refused_26 : (side at : ℕ) → Exactly (compared_of a b x y z ≡ refused_for CompareLog side at) (Broken a b side at)
  refused_26 side at = (
    by_case (λ (r : Compared). r ≡ refused_for CompareLog side at → Broken a b side at)
        (λ s i w e. let p : s ≡ side = ap side_by e in let q : i ≡ at = ap at_by e in subst (λ (k : ℕ). Broken a b k at) p (subst (Broken a b s) q w))
        (λ s w e. absurd (let f : ◌≡◌ {A = ℕ} 0 1 = cc (ap why_by e) in omega arith))
        (λ s w e. absurd (let f : ◌≡◌ {A = ℕ} 0 1 = cc (ap why_by e) in omega arith))
        (λ w e. absurd (let f : ◌≡◌ {A = ℕ} 0 1 = cc (ap why_by e) in omega arith))
        (λ w e. absurd (let f : ◌≡◌ {A = ℕ} 0 1 = cc (ap why_by e) in omega arith)),
    broken_is side at,
  )

  pub refused_27 : (side : ℕ) → Exactly (compared_of a b x y z ≡ refused_for CompareRecords side 0) (Many a b side)
  refused_27 side = (
    by_case (λ (r : Compared). r ≡ refused_for CompareRecords side 0 → Many a b side)
        (λ s i w e. absurd (let f : ◌≡◌ {A = ℕ} 0 1 = cc (ap why_by e) in omega arith))
        (λ s w e. let p : s ≡ side = ap side_by e in subst (Many a b) p w)
        (λ s w e. absurd (let f : ◌≡◌ {A = ℕ} 0 1 = cc (ap why_by e) in omega arith))
        (λ w e. absurd (let f : ◌≡◌ {A = ℕ} 0 1 = cc (ap why_by e) in omega arith))
        (λ w e. absurd (let f : ◌≡◌ {A = ℕ} 0 1 = cc (ap why_by e) in omega arith)),
    many_is side,
  )

  pub refused_28 : (side : ℕ) → Exactly (compared_of a b x y z ≡ refused_for CompareRoom side 0) (Short a b x y side)
  refused_28 side = (
    by_case (λ (r : Compared). r ≡ refused_for CompareRoom side 0 → Short a b x y side)
        (λ s i w e. absurd (let f : ◌≡◌ {A = ℕ} 0 1 = cc (ap why_by e) in omega arith))
        (λ s w e. absurd (let f : ◌≡◌ {A = ℕ} 0 1 = cc (ap why_by e) in omega arith))
        (λ s w e. let p : s ≡ side = ap side_by e in subst (Short a b x y) p w)
        (λ w e. absurd (let f : ◌≡◌ {A = ℕ} 0 1 = cc (ap why_by e) in omega arith))
        (λ w e. absurd (let f : ◌≡◌ {A = ℕ} 0 1 = cc (ap why_by e) in omega arith)),
    short_is side,
  )

  pub accepted : Exactly ((k : ℕ) × (l : ℕ) × (compared_of a b x y z ≡ listed_in k l)) (Taken a b x y z)
  accepted = (
    λ w.
        by_case (λ (r : Compared). r ≡ listed_in w.0 w.1 → Taken a b x y z)
        (λ s i h e. absurd (let f : ◌≡◌ {A = ℕ} 0 1 = cc in omega arith))
        (λ s h e. absurd (let f : ◌≡◌ {A = ℕ} 0 1 = cc in omega arith))
        (λ s h e. absurd (let f : ◌≡◌ {A = ℕ} 0 1 = cc in omega arith))
        (λ h e. absurd (let f : ◌≡◌ {A = ℕ} 0 1 = cc in omega arith))
        (λ h e. h) w.2,
    λ h. (_, _, taken_is h),
  )

-- refused, all that is lent stays as it was
pub refused_nothing : (a b : List ℕ) {r : Compared} (w : Refusal) (side at : ℕ) → r ≡ refused_for w side at → (old : List ℕ)
    → (first_after a b r old ≡ old) × (second_after a b r old ≡ old) × (places_after a b r old ≡ old)
refused_nothing a b w side at e old = (
  ap (λ (r : Compared). first_after a b r old) e,
  ap (λ (r : Compared). second_after a b r old) e,
  ap (λ (r : Compared). places_after a b r old) e,
)
