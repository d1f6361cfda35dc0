-- Turns of `list_free`: what is still to be listed goes behind what is.
use mathlib.Core.Path.{◌≡◌, refl, ap, ◌∙◌, subst}
use mathlib.Core.List.{List, [], ◌∷◌}
use Prim.Native.Nat.{ℕ, suc, ◌+◌, ◌-◌, ◌≤◌, ◌<◌}
use native.Mathlib.Omega.{arith}
use native.Mathlib.Numerals.{add-one}
use native.Mathlib.Nat.{sub-zero}
use lib.ListN.{length, get_or, set, length-set}
use lib.Seq.{sets}
use borrow.Author.Tests.{eq-eqb, ne_eqb}
use Rattle.compare_logs.specs.Held.{free_from}

-- `rest` goes behind the k that the list holds already, and `all` into the list as it was
abbrev pub Onto : List ℕ → List ℕ → List ℕ → ℕ → List ℕ → Type 0
Onto all list₀ list k rest = (k + length rest ≡ length all) × (sets list k rest ≡ sets list₀ 0 all) × (length list ≡ length list₀)

pub onto_more : (all list₀ list : List ℕ) (k v : ℕ) (rest : List ℕ) → Onto all list₀ list k (v ∷ rest) → Onto all list₀ (set list k v) (k + 1) rest
onto_more all list₀ list k v rest w =
    (omega (arith, w.0), ap (λ (i : ℕ). sets (set list k v) i rest) (add-one k) ∙ w.1, length-set list k v ∙ w.2)

pub onto_end : (all list₀ list : List ℕ) (k : ℕ) → Onto all list₀ list k [] → (k ≡ length all) × (list ≡ sets list₀ 0 all)
onto_end all list₀ list k w = (omega (arith, w.0), w.1)

-- ---- `list_free`
abbrev pub Listing : List ℕ → ℕ → List ℕ → List ℕ → ℕ → ℕ → Type 0
Listing used m list₀ list j k = (j ≤ m) × (k ≤ j) × Onto (free_from used 0 m) list₀ list k (free_from used j (m - j))

pub listing_start : (used : List ℕ) (m : ℕ) (list₀ : List ℕ) → Listing used m list₀ list₀ 0 0
listing_start used m list₀ =
    let e : free_from used 0 (m - 0) ≡ free_from used 0 m = ap (free_from used 0) (sub-zero m) in
    (omega arith, omega arith, (omega (arith, ap length e), ap (sets list₀ 0) e, refl))

-- one turn
step : (m j : ℕ) → j < m → m - j ≡ suc (m - (j + 1))
step m j h = omega arith

free_more : (used : List ℕ) (m j : ℕ) → get_or used j 0 ≡ 0 → j < m → free_from used j (m - j) ≡ (j + 1) ∷ free_from used (j + 1) (m - (j + 1))
unfolding free_from
free_more used m j e h = ap (free_from used j) (step m j h) ∙ rw (eq-eqb (get_or used j 0) 0 e, add-one)

free_skip : (used : List ℕ) (m j : ℕ) → (get_or used j 0 ≡ 0 → ⊥) → j < m → free_from used j (m - j) ≡ free_from used (j + 1) (m - (j + 1))
unfolding free_from
free_skip used m j e h = ap (free_from used j) (step m j h) ∙ rw (ne_eqb (get_or used j 0) 0 e, add-one)

module _ (used : List ℕ) (m : ℕ) (list₀ list : List ℕ) (j k : ℕ) where
  pub listing_more : get_or used j 0 ≡ 0 → j < m → Listing used m list₀ list j k → Listing used m list₀ (set list k (j + 1)) (j + 1) (k + 1)
  listing_more e h w =
      (omega arith, omega (arith, w.1), onto_more (free_from used 0 m) list₀ list k (j + 1) (free_from used (j + 1) (m - (j + 1))) (subst (Onto (free_from used 0 m) list₀ list k) (free_more used m j e h) w.2))

  pub listing_skip : (get_or used j 0 ≡ 0 → ⊥) → j < m → Listing used m list₀ list j k → Listing used m list₀ list (j + 1) k
  listing_skip e h w = (omega arith, omega (arith, w.1), subst (Onto (free_from used 0 m) list₀ list k) (free_skip used m j e h) w.2)

  pub listing_end : m ≤ j → Listing used m list₀ list j k → (k ≡ length (free_from used 0 m)) × (list ≡ sets list₀ 0 (free_from used 0 m))
  unfolding free_from
  listing_end h w =
      let none : m - j ≡ 0 = omega arith in
      onto_end (free_from used 0 m) list₀ list k (subst (λ (i : ℕ). Onto (free_from used 0 m) list₀ list k (free_from used j i)) none w.2)
