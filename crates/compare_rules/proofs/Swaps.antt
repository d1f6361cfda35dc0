-- Swapping the logs, and their lists, swaps what the lists hold and keeps the places.
use mathlib.Core.Path.{◌≡◌, refl, sym, ap, ap₂, ◌∙◌}
use mathlib.Core.Bool.{Bool, true, false, cond}
use mathlib.Core.Option.{Option, none, some}
use mathlib.Core.List.{List}
use Prim.Native.Nat.{ℕ}
use native.Mathlib.Omega.{arith}
use lib.ListN.{length}
use lib.Seq.{sets}
use lib.Dec.{ltb}
use Rattle.std.specs.Prelude.{Ok, Err}
use Rattle.refusals.specs.declared.Refusal.TheVariants.{ShortBuffer, CompareRecords, CompareRoom}
use Rattle.log_records.specs.Reading.{log_of}
use Rattle.compare_rules.specs.Surplus.{surplus_of}
use Rattle.compare_rules.specs.Places.{channels, places_of}
use Rattle.compare_rules.specs.Compare.{Compared, listed_in, refused_for, most, records_of, broken_at, unbroken, judged, compared_of, after, first_after, second_after, places_after}
use Rattle.compare_rules.proofs.Differs.{places_swap}

abbrev first_by : Compared → ℕ
first_by (Ok x) = x.first
first_by (Err e) = 0

abbrev second_by : Compared → ℕ
second_by (Ok x) = x.second
second_by (Err e) = 0

five : (t u v w q : Bool) (go : Compared) (n m : ℕ)
    → cond t (refused_for CompareRecords 1 0) (cond u (refused_for CompareRecords 2 0) (cond v (refused_for CompareRoom 1 0) (cond w (refused_for CompareRoom 2 0) (cond q (refused_for ShortBuffer 0 0) go)))) ≡ listed_in n m
    → (t ≡ false) × (u ≡ false) × (v ≡ false) × (w ≡ false) × (q ≡ false) × (go ≡ listed_in n m)
five true u v w q go n m e = absurd (let z : ◌≡◌ {A = ℕ} 0 1 = cc in omega arith)
five false true v w q go n m e = absurd (let z : ◌≡◌ {A = ℕ} 0 1 = cc in omega arith)
five false false true w q go n m e = absurd (let z : ◌≡◌ {A = ℕ} 0 1 = cc in omega arith)
five false false false true q go n m e = absurd (let z : ◌≡◌ {A = ℕ} 0 1 = cc in omega arith)
five false false false false true go n m e = absurd (let z : ◌≡◌ {A = ℕ} 0 1 = cc in omega arith)
five false false false false false go n m e = (refl, refl, refl, refl, refl, e)

swap_judged : (i j x y z k l n m : ℕ) → judged i j x y z (listed_in k l) ≡ listed_in n m → judged j i y x z (listed_in l k) ≡ listed_in m n
swap_judged i j x y z k l n m e =
    let f = five (ltb most i) (ltb most j) (ltb x most) (ltb y most) (ltb z channels) (listed_in k l) n m e in
    let p : listed_in k l ≡ listed_in n m = f.5 in
    let a : k ≡ n = ap first_by p in
    let b : l ≡ m = ap second_by p in
    rw (f.1, f.0, f.3, f.2, f.4) (ap₂ listed_in b a)

swap_broken : (p q : Option ℕ) (go back : Compared) (n m : ℕ) → (go ≡ listed_in n m → back ≡ listed_in m n)
    → unbroken 1 p (unbroken 2 q go) ≡ listed_in n m → unbroken 1 q (unbroken 2 p back) ≡ listed_in m n
swap_broken none none go back n m f e = f e
swap_broken none (some c) go back n m f e = absurd (let z : ◌≡◌ {A = ℕ} 0 1 = cc in omega arith)
swap_broken (some c) none go back n m f e = absurd (let z : ◌≡◌ {A = ℕ} 0 1 = cc in omega arith)
swap_broken (some c) (some d) go back n m f e = absurd (let z : ◌≡◌ {A = ℕ} 0 1 = cc in omega arith)

accepted : {r : Compared} {n m : ℕ} (found old : List ℕ) → r ≡ listed_in n m → after r found old ≡ sets old 0 found
accepted found old e = ap (λ (r : Compared). after r found old) e

module _ (a b : List ℕ) (x y z n m : ℕ) (e : compared_of a b x y z ≡ listed_in n m) where
  pub swap_answer : compared_of b a y x z ≡ listed_in m n
  unfolding compared_of
  swap_answer =
      swap_broken (broken_at (log_of a)) (broken_at (log_of b)) _ _ n m
      (swap_judged (length (records_of a)) (length (records_of b)) x y z (length (surplus_of (records_of a) (records_of b))) (length (surplus_of (records_of b) (records_of a))) n m) e

  module _ (old : List ℕ) where
    pub swap_first : first_after b a (compared_of b a y x z) old ≡ second_after a b (compared_of a b x y z) old
    swap_first = accepted (surplus_of (records_of b) (records_of a)) old swap_answer ∙ sym (accepted (surplus_of (records_of b) (records_of a)) old e)

    pub swap_second : second_after b a (compared_of b a y x z) old ≡ first_after a b (compared_of a b x y z) old
    swap_second = accepted (surplus_of (records_of a) (records_of b)) old swap_answer ∙ sym (accepted (surplus_of (records_of a) (records_of b)) old e)

    pub swap_places : places_after b a (compared_of b a y x z) old ≡ places_after a b (compared_of a b x y z) old
    swap_places =
        accepted (places_of (records_of b) (records_of a)) old swap_answer ∙ ap (sets old 0) (places_swap (records_of b) (records_of a))
        ∙ sym (accepted (places_of (records_of a) (records_of b)) old e)
