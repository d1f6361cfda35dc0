-- Counting an event more in the head is counting over the longer history, while that has room for it.
use Prim.Native.Nat.{ℕ, suc, ◌+◌, ◌*◌, ◌/◌, ◌%◌, ◌≤◌, ◌<◌}
use native.Mathlib.Nat.{zero-add}
use native.Mathlib.Omega.{arith}
use mathlib.Core.Path.{◌≡◌, refl, sym, ap, ap₂, ◌∙◌}
use mathlib.Core.List.{List, [], ◌∷◌}
use mathlib.Core.Bool.{Bool, true, false, cond}
use lib.Dec.{eqb}
use lib.ListN.{length}
use borrow.Author.Tests.{leb-false}
use Rattle.rule_limits.specs.declared.PlainLimits.{PlainLimits}
use Rattle.rule_asks.specs.Judgements.{bit}
use Rattle.rules.specs.History.{Event, History}
use Rattle.rules.specs.Rules.{Rule, rules01, found, bits_from, findings01}
use Rattle.rules.specs.Counts.{times_found, tallies_by, tallies_of, counts_of, largest, is_full}
use Rattle.rules.specs.After.{with_bits, counted}

-- flags as a number: its lowest bit is the first flag, and the rest of it the others

bit_double : (b : Bool) (w : ℕ) → bit b (w + w) ≡ bit b w + bit b w
bit_double true w = refl
bit_double false w = refl

bits_double : (w : ℕ) (bs : List Bool) → bits_from (w + w) bs ≡ bits_from w bs + bits_from w bs
bits_double w [] = refl
bits_double w (b ∷ bs) = omega (arith, bit_double b w, bits_double (w + w) bs)

bit_small : (b : Bool) → bit b 1 ≤ 1
bit_small true = omega arith
bit_small false = omega arith

-- no rule finds something of more events than there are
pub times_few : (f : Rule) (lim : PlainLimits) (h : History) → times_found f lim h ≤ length h
times_few f lim [] = omega arith
times_few f lim (e ∷ h) = omega (arith, times_few f lim h, bit_small (f lim h e))

module _ (lim : PlainLimits) (h : History) (e : Event) (room : is_full h ≡ false) where
  few : length h < largest
  few = leb-false largest (length h) room

  -- one tally more, with its bit at the bottom of n
  one_more_lem : (f : Rule) (x : ℕ)
      → cond (eqb ((bit (f lim h e) 1 + (x + x)) % 2) 1) ((times_found f lim h + 1) % 4294967296) (times_found f lim h) ≡ bit (f lim h e) 1 + times_found f lim h
  one_more_lem f x = go (f lim h e)
    where
      go : (b : Bool) → cond (eqb ((bit b 1 + (x + x)) % 2) 1) ((times_found f lim h + 1) % 4294967296) (times_found f lim h) ≡ bit b 1 + times_found f lim h
      go true = let odd : (1 + (x + x)) % 2 ≡ 1 = omega arith in rw odd (omega (arith, few, times_few f lim h))
      go false = let even : (0 + (x + x)) % 2 ≡ 0 = omega arith in rw even (sym (zero-add (times_found f lim h)))

  others : (b : Bool) (x : ℕ) → (bit b 1 + (x + x)) / 2 ≡ x
  others true x = omega arith
  others false x = omega arith

  tallies-look : (rs : List Rule) → with_bits (bits_from 1 (found rs lim h e)) (tallies_by rs lim h) ≡ tallies_by rs lim (e ∷ h)
  tallies-look [] = refl
  tallies-look (f ∷ rs) =
      rw (bits_double 1 (found rs lim h e))
      (ap₂ ◌∷◌ (one_more_lem f (bits_from 1 (found rs lim h e)))
      (ap (λ (n : ℕ). with_bits n (tallies_by rs lim h)) (others (f lim h e) (bits_from 1 (found rs lim h e))) ∙ tallies-look rs))

  pub counts_look : counted (findings01 lim h e) (counts_of lim h) ≡ counts_of lim (e ∷ h)
  unfolding counted tallies_of findings01
  counts_look =
      ap₂ ◌∷◌ (first (findings01 lim h e))
      (ap (λ (n : ℕ). with_bits n (tallies_by rules01 lim h)) (halved (bits_from 1 (found rules01 lim h e))) ∙ tallies-look rules01)
    where
      first : (n : ℕ) → cond (eqb ((1 + 2 * n) % 2) 1) ((length h + 1) % 4294967296) (length h) ≡ suc (length h)
      first n = let odd : (1 + 2 * n) % 2 ≡ 1 = omega arith in rw odd (omega (arith, few))

      halved : (n : ℕ) → (1 + 2 * n) / 2 ≡ n
      halved n = omega arith
