-- What the word of `rokemaipu_compare` tells, of every call (`Told` of `plain_words`), and that a refusal leaves the lists and places as they were.
use mathlib.Core.Path.{◌≡◌, refl}
use mathlib.Core.Bool.{Bool, true, false, cond, true≢false}
use mathlib.Core.List.{List}
use Prim.Native.Nat.{ℕ, ◌≤◌}
use native.Mathlib.Omega.{arith}
use lib.Dec.{ltb}
use lib.ListN.{length}
use Rattle.refusals.specs.declared.Refusal.TheVariants.{ShortBuffer}
use Rattle.std.specs.Prelude.{Ok, Err}
use Rattle.plain_words.specs.Words.{refuses, is_accepted, Within, Told}
use Rattle.plain_words.proofs.WordLaws.{either, word_tells, not_accepted}
use Rattle.compare_rules.specs.Compare.{Compared, first_after, second_after, places_after}
use Rattle.compare_rules.specs.Words.{outcome_of, compared_for, compared_outcome, compared_word, with_numbers}
use Rattle.compare_rules.proofs.Cases.{by_case}

module _ (a b first second places : List ℕ) (k : ℕ) where
  abbrev answer : Compared
  answer = compared_for a b first second places

  pub compare_within : Within 0 (compared_outcome k answer)
  compare_within =
      either (Within 0) (ltb k 2) (omega arith)
      (by_case a b (length first) (length second) (length places) (λ (r : Compared). Within 0 (outcome_of r))
      (λ side at h. omega arith) (λ side h. omega arith) (λ side h. omega arith) (λ h. omega arith) (λ h. omega arith))

  pub compare_told : Told 0 (compared_outcome k answer) (compared_word k answer)
  compare_told = word_tells 0 (compared_outcome k answer) (omega arith) compare_within

  pub compare_refused : 65536 ≤ compared_word k answer
      → (with_numbers k (first_after a b answer first) first ≡ first)
      × (with_numbers k (second_after a b answer second) second ≡ second)
      × (with_numbers k (places_after a b answer places) places ≡ places)
  compare_refused l = by (ltb k 2) answer (not_accepted 0 (compared_outcome k answer) (omega arith) compare_within l) where
    by : (t : Bool) (r : Compared) → is_accepted (cond t (refuses ShortBuffer) (outcome_of r)) ≡ false
        → (cond t first (first_after a b r first) ≡ first) × (cond t second (second_after a b r second) ≡ second) × (cond t places (places_after a b r places) ≡ places)
    by true r e = (refl, refl, refl)
    by false (Ok x) e = absurd (true≢false e)
    by false (Err x) e = (refl, refl, refl)
