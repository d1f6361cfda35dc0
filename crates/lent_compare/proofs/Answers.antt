-- What `compare` answered, told as a word and two numbers where there are places for these.
use mathlib.Core.Path.{◌≡◌, ap, ◌∙◌}
use mathlib.Core.List.{List}
use Prim.Native.Nat.{ℕ, ◌≤◌}
use lib.ListN.{length}
use lib.Seq.{sets}
use borrow.Author.Tests.{le-ltb}
use Rattle.plain_words.specs.Words.{outcome_word}
use Rattle.compare_rules.specs.Compare.{Compared, first_after, second_after, places_after}
use Rattle.compare_rules.specs.Words.{outcome_of, numbers_of, compared_for, compared_word, with_numbers, numbers_after}

module _ (a b first second places numbers : List ℕ) where
  abbrev answer : Compared
  answer = compared_for a b first second places

  pub told_word : {r : Compared} {w : ℕ} {first' second' places' numbers' : List ℕ} → 2 ≤ length numbers
      → (r ≡ answer) × (first' ≡ first_after a b r first) × (second' ≡ second_after a b r second) × (places' ≡ places_after a b r places)
      → (w ≡ outcome_word (outcome_of r)) × (numbers' ≡ sets numbers 0 (numbers_of r))
      → (w ≡ compared_word (length numbers) answer)
      × (first' ≡ with_numbers (length numbers) (first_after a b answer first) first)
      × (second' ≡ with_numbers (length numbers) (second_after a b answer second) second)
      × (places' ≡ with_numbers (length numbers) (places_after a b answer places) places)
      × (numbers' ≡ numbers_after answer numbers)
  told_word h p q = rw (le-ltb (length numbers) 2 h) (
    q.0 ∙ ap (λ (x : Compared). outcome_word (outcome_of x)) p.0,
    p.1 ∙ ap (λ (x : Compared). first_after a b x first) p.0,
    p.2 ∙ ap (λ (x : Compared). second_after a b x second) p.0,
    p.3 ∙ ap (λ (x : Compared). places_after a b x places) p.0,
    q.1 ∙ ap (λ (x : Compared). sets numbers 0 (numbers_of x)) p.0,
  )
