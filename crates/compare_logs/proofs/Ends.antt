-- The ends of `listing` and `compare`.
use mathlib.Core.Path.{◌≡◌, refl, sym, ap, ap₂, ◌∙◌}
use mathlib.Core.Bool.{Bool, true, false, cond}
use mathlib.Core.Option.{Option, none, some}
use mathlib.Core.List.{List, ◌∷◌, ◌++◌}
use Prim.Native.Nat.{ℕ, zero, suc, ◌+◌, ◌≤◌, ◌<◌}
use native.Mathlib.Omega.{arith}
use lib.ListN.{length, get_or, take, drop}
use lib.Seq.{sets, sets-eq}
use lib.Dec.{eqb}
use Rattle.std.specs.Prelude.{Some, None, Err, ok_or}
use Rattle.std.specs.Prelude as prelude
use Rattle.std.proofs.Common.{append_assoc}
use Rattle.std.proofs.lemmas.List.{take-append-drop, drop-append-le, length-take-le}
use Rattle.compare_rules.specs.declared.Unlisted.{Unlisted}
use borrow.Author.Tests.{lt-ltb, le-ltb}
use Rattle.log_records.specs.Record.{Rec}
use Rattle.refusals.specs.declared.Refusal.{Refusal}
use Rattle.refusals.specs.declared.Refusal.TheVariants.{ShortBuffer, CompareLog, CompareRecords, CompareRoom}
use Rattle.compare_rules.specs.Surplus.{is_surplus, surplus_from, surplus_of}
use Rattle.compare_rules.specs.Places.{channels, places_of}
use Rattle.compare_rules.specs.Compare.{Compared, listed_in, refused_for, most, unbroken, judged, listed_of, after}
use Rattle.compare_logs.specs.Held.{free_from, Comes}

-- a log that is all records, and one that is not
module _ (side : ℕ) where
  pub none_broken : {o : Option ℕ} (go : Compared) → o ≡ none → unbroken side o go ≡ go
  none_broken go e = ap (λ (o : Option ℕ). unbroken side o go) e

  pub some_broken : (byte : ℕ) {o : Option ℕ} (go : Compared) → o ≡ some byte → unbroken side o go ≡ refused_for CompareLog side byte
  some_broken byte go e = ap (λ (o : Option ℕ). unbroken side o go) e

-- a refusal leaves what is lent
pub refusing : (a b : List Rec) (first second places : List ℕ) {r x : Compared} (w : Refusal) (side byte : ℕ) → x ≡ refused_for w side byte → r ≡ refused_for w side byte
    → Comes r a b first second places x first second places
refusing a b first second places w side byte e f = (
  e ∙ sym f,
  sym (ap (λ (z : Compared). after z (surplus_of a b) first) e),
  sym (ap (λ (z : Compared). after z (surplus_of b a) second) e),
  sym (ap (λ (z : Compared). after z (places_of a b) places) e),
)

module _ (n m x y z : ℕ) (go : Compared) where
  pub many_first : most < n → judged n m x y z go ≡ refused_for CompareRecords 1 0
  many_first h = rw (lt-ltb most n h)

  pub many_second : n ≤ most → most < m → judged n m x y z go ≡ refused_for CompareRecords 2 0
  many_second h g = rw (le-ltb most n h, lt-ltb most m g)

  pub short_first : n ≤ most → m ≤ most → x < most → judged n m x y z go ≡ refused_for CompareRoom 1 0
  short_first h g k = rw (le-ltb most n h, le-ltb most m g, lt-ltb x most k)

  pub short_second : n ≤ most → m ≤ most → most ≤ x → y < most → judged n m x y z go ≡ refused_for CompareRoom 2 0
  short_second h g k l = rw (le-ltb most n h, le-ltb most m g, le-ltb x most k, lt-ltb y most l)

  pub few_places : n ≤ most → m ≤ most → most ≤ x → most ≤ y → z < channels → judged n m x y z go ≡ refused_for ShortBuffer 0 0
  few_places h g k l p = rw (le-ltb most n h, le-ltb most m g, le-ltb x most k, le-ltb y most l, lt-ltb z channels p)

  pub taken : n ≤ most → m ≤ most → most ≤ x → most ≤ y → channels ≤ z → judged n m x y z go ≡ go
  taken h g k l p = rw (le-ltb most n h, le-ltb most m g, le-ltb x most k, le-ltb y most l, le-ltb z channels p)

-- what none took is the surplus of the second log
free_test : (t : Bool) → eqb (cond t 0 1) 0 ≡ t
free_test true = refl
free_test false = refl

free_surplus : (a b : List Rec) (used : List ℕ) → ((j : ℕ) → j < length b → get_or used j 0 ≡ cond (is_surplus b a j) 0 1) → (k j : ℕ) → j + k ≤ length b
    → free_from used j k ≡ surplus_from b a j k
unfolding free_from surplus_from
free_surplus a b used w zero j h = refl
free_surplus a b used w (suc k) j h =
    ap₂ (λ (t : Bool) (l : List ℕ). cond t (suc j ∷ l) l) (ap (λ (x : ℕ). eqb x 0) (w j (omega arith)) ∙ free_test (is_surplus b a j)) (free_surplus a b used w k (suc j) (omega arith))

pub listed : (a b : List Rec) (first second places used : List ℕ) (m x y : ℕ) {first' second' places' : List ℕ} → m ≡ length b
    → (x ≡ length (surplus_of a b)) × (first' ≡ sets first 0 (surplus_of a b)) × ((j : ℕ) → j < m → get_or used j 0 ≡ cond (is_surplus b a j) 0 1)
    → (y ≡ length (free_from used 0 m)) × (second' ≡ sets second 0 (free_from used 0 m))
    → places' ≡ sets places 0 (places_of a b)
    → Comes (listed_of a b) a b first second places (listed_in x y) first' second' places'
listed a b first second places used m x y e p q r =
    let f : free_from used 0 m ≡ surplus_of b a = ap (free_from used 0) e ∙ free_surplus a b used (λ j h. p.2 j (omega arith)) (length b) 0 (omega arith) in
    (ap₂ listed_in p.0 (q.0 ∙ ap length f), p.1, q.1 ∙ ap (sets second 0) f, r)

-- ---- a lent list, of whose first n places an array was made

pub lent_back : (old front : List ℕ) (n : ℕ) → front ≡ take n old → front ++ drop n old ≡ old
lent_back old front n e = ap (λ (l : List ℕ). l ++ drop n old) e ∙ take-append-drop n old

pub lent_first : (found old front front' : List ℕ) (n : ℕ) → n ≤ length old → length found ≤ n → front ≡ take n old → front' ≡ sets front 0 found → front' ++ drop n old ≡ sets old 0 found
lent_first found old front front' n h few e f =
    let long : length (take n old) ≡ n = length-take-le n old h in
    let k : ℕ = 0 + length found in
    ap (λ (l : List ℕ). l ++ drop n old) (f ∙ ap (λ (l : List ℕ). sets l 0 found) e ∙ sets-eq found (take n old) 0 (omega (arith, long)))
    ∙ append_assoc found (drop (0 + length found) (take n old)) (drop n old)
    ∙ ap (λ (l : List ℕ). found ++ l)
    (sym (drop-append-le (0 + length found) (take n old) (drop n old) (omega (arith, long))) ∙ ap (drop (0 + length found)) (take-append-drop n old))
    ∙ sym (sets-eq found old 0 (omega arith))

-- ---- what was asked for with a refusal in its place

pub refused_with : {A : Type 0} (o : prelude.Option A) (w e : Unlisted) → ok_or o w ≡ Err e → (o ≡ None) × (e ≡ w)
refused_with None w e h = (refl, cc)
refused_with (Some x) w e h = absurd (let z : ◌≡◌ {A = ℕ} 0 1 = cc in omega arith)
