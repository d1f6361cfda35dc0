-- What is lent, after an accepted comparison: the numbers or places that were found, and behind them what stood there.
use mathlib.Core.Path.{◌≡◌, ap, ◌∙◌}
use mathlib.Core.List.{List, ◌++◌}
use Prim.Native.Nat.{ℕ, ◌≤◌}
use native.Mathlib.Omega.{arith}
use native.Mathlib.Nat.{zero-add}
use lib.ListN.{length, drop}
use lib.Seq.{sets, sets-eq}
use Rattle.compare_rules.specs.Surplus.{surplus_of}
use Rattle.compare_rules.specs.Places.{channels, places_of}
use Rattle.compare_rules.specs.Compare.{Compared, records_of, first_after, second_after, places_after}
use Rattle.compare_rules.specs.Cases.{Taken}
use Rattle.compare_rules.specs.Words.{compared_for}
use Rattle.compare_rules.proofs.Lists.{few_listed}
use Rattle.compare_rules.proofs.Firsts.{as_many_places}
use Rattle.compare_rules.proofs.Cases.{taken_is}

in_front : (found old : List ℕ) → length found ≤ length old → sets old 0 found ≡ found ++ drop (length found) old
in_front found old h = sets-eq found old 0 (omega arith) ∙ ap (λ (k : ℕ). found ++ drop k old) (zero-add (length found))

module _ (a b first second places : List ℕ) (t : Taken a b (length first) (length second) (length places)) where
  abbrev mine : List ℕ
  mine = surplus_of (records_of a) (records_of b)

  abbrev yours : List ℕ
  yours = surplus_of (records_of b) (records_of a)

  abbrev theirs : List ℕ
  theirs = places_of (records_of a) (records_of b)

  pub first_holds : first_after a b (compared_for a b first second places) first ≡ mine ++ drop (length mine) first
  first_holds =
      ap (λ (r : Compared). first_after a b r first) (taken_is a b (length first) (length second) (length places) t)
      ∙ in_front mine first (omega (arith, few_listed (records_of a) (records_of b), t.0.0.1, t.0.1))

  pub second_holds : second_after a b (compared_for a b first second places) second ≡ yours ++ drop (length yours) second
  second_holds =
      ap (λ (r : Compared). second_after a b r second) (taken_is a b (length first) (length second) (length places) t)
      ∙ in_front yours second (omega (arith, few_listed (records_of b) (records_of a), t.0.0.2, t.0.2))

  pub places_hold : places_after a b (compared_for a b first second places) places ≡ theirs ++ drop channels places
  places_hold =
      ap (λ (r : Compared). places_after a b r places) (taken_is a b (length first) (length second) (length places) t)
      ∙ in_front theirs places (omega (arith, as_many_places (records_of a) (records_of b), t.1))
      ∙ ap (λ (k : ℕ). theirs ++ drop k places) (as_many_places (records_of a) (records_of b))
