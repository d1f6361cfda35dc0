-- Where a word ends, place by place, and what the word is. Assumes nothing.
use mathlib.Core.Path.{◌≡◌, refl, sym, ap, ◌∙◌}
use mathlib.Core.Bool.{Bool, true, false, cond, not}
use mathlib.Core.List.{List, [], ◌∷◌}
use Prim.Native.Nat.{ℕ, suc, ◌+◌, ◌-◌, ◌≤◌, ◌<◌}
use native.Mathlib.Numerals.{add-one}
use native.Mathlib.Omega.{arith}
use lib.Dec.{eqb, ltb}
use lib.ListN.{length, get_or, take, drop, drop_of_length-le, length-drop}
use lib.Seq.{drop-cons}
use borrow.Author.Tests.{eq-eqb, ne_eqb, ltb-false}
use Rattle.std.specs.Prelude.{Option, Some, None, unwrap_or}
use Rattle.std.specs.List.{position, position_or_len}
use Rattle.text_numbers.specs.Ascii.{space}
use Rattle.text_lines.specs.Lines.{part_length, part_end, word_end, word_at}

module _ (stop : ℕ) (s : List ℕ) (i : ℕ) where
  pub goes_on : i < length s → (get_or s i 0 ≡ stop → ⊥) → part_end stop s i ≡ part_end stop s (i + 1)
  unfolding part_end part_length
  goes_on h n = rw (add-one, drop-cons s i 0 h, ne_eqb (get_or s i 0) stop n) (omega arith)

  pub stops : i < length s → get_or s i 0 ≡ stop → part_end stop s i ≡ i
  unfolding part_end part_length
  stops h e = rw (drop-cons s i 0 h, eq-eqb (get_or s i 0) stop e) (omega arith)

  pub is_past : length s ≤ i → part_end stop s i ≡ i
  unfolding part_end part_length
  is_past h = rw (drop_of_length-le s {i = i} h) (omega arith)

pub within : (stop : ℕ) (s : List ℕ) → part_length stop s ≤ length s
unfolding part_length
within stop [] = omega arith
within stop (c ∷ cs) = go (eqb c stop) (within stop cs)
  where
    go : (b : Bool) → part_length stop cs ≤ length cs → cond b 0 (suc (part_length stop cs)) ≤ suc (length cs)
    go true h = omega arith
    go false h = omega arith

pub to_high : (stop : ℕ) (s : List ℕ) (i : ℕ) → part_end stop s i ≤ i + (length s - i)
unfolding part_end
to_high stop s i = omega (arith, within stop (drop i s), length-drop i s)

pub the_word : (s : List ℕ) (i e : ℕ) → e ≡ word_end s i → take (e - i) (drop i s) ≡ word_at s i
unfolding part_end word_at
the_word s i e q = let k : e - i ≡ part_length space (drop i s) = omega arith in rw k

pub by_position : (stop : ℕ) (s : List ℕ) → part_length stop s ≡ position_or_len (λ c. eqb c stop) s
unfolding part_length
by_position stop [] = refl
by_position stop (c ∷ cs) = go (eqb c stop) (by_position stop cs)
  where
    go : (b : Bool) → part_length stop cs ≡ position_or_len (λ x. eqb x stop) cs → cond b 0 (suc (part_length stop cs)) ≡ cond (not b) (1 + position_or_len (λ x. eqb x stop) cs) 0
    go true e = refl
    go false e = omega arith

-- what `position` answers, or the length
pub or_length : (stop : ℕ) (s : List ℕ) (r : Option ℕ) → r ≡ position (λ c. eqb c stop) s → unwrap_or r (length s) ≡ part_length stop s
or_length stop s r e = ap (λ (x : Option ℕ). unwrap_or x (length s)) e ∙ go (ltb n (length s)) refl ∙ sym (by_position stop s)
  where
    n : ℕ
    n = position_or_len (λ c. eqb c stop) s

    go : (b : Bool) → ltb n (length s) ≡ b → unwrap_or (cond b (Some n) None) (length s) ≡ n
    go true t = refl
    go false t =
        let l : length s ≤ n = ltb-false _ _ t in
        omega (arith, within stop s, by_position stop s)
