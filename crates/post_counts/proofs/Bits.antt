-- The loop over the counts: what stands after k of its turns.
use Rattle.std.proofs.Common.{◌≡◌, ℕ, zero, suc, ◌+◌, ◌/◌, ◌%◌, ◌<◌, ◌≤◌, cond, eqb, List, [], ◌∷◌, length, get_or, set, sym, refl, ap, add-one, arith}
use Rattle.rules.specs.After.{with_bits, counted}

-- n without its lowest bits
abbrev pub halves : ℕ → ℕ → ℕ
halves zero n = n
halves (suc i) n = halves i (n / 2)

halves_suc : (i n : ℕ) → halves (suc i) n ≡ halves i n / 2
halves_suc zero n = refl
halves_suc (suc i) n = halves_suc i (n / 2)

pub halves_next : (i n : ℕ) → halves (i + 1) n ≡ halves i n / 2
halves_next i n = rw (add-one i) (halves_suc i n)

abbrev pub one : ℕ → ℕ → ℕ
one x n = cond (eqb (n % 2) 1) ((x + 1) % 4294967296) x

-- the first i counts have their bits
abbrev pub bits_up_to : ℕ → ℕ → List ℕ → List ℕ
bits_up_to zero n l = l
bits_up_to (suc i) n [] = []
bits_up_to (suc i) n (x ∷ l) = one x n ∷ bits_up_to i (n / 2) l

-- the next count still stands as it did
pub bits_untouched : (i n : ℕ) (l : List ℕ) → get_or (bits_up_to i n l) i 0 ≡ get_or l i 0
bits_untouched zero n l = refl
bits_untouched (suc i) n [] = refl
bits_untouched (suc i) n (x ∷ l) = bits_untouched i (n / 2) l

bits_set : (i n : ℕ) (l : List ℕ) → i < length l → set (bits_up_to i n l) i (one (get_or l i 0) (halves i n)) ≡ bits_up_to (suc i) n l
bits_set i n [] lt = absurd (let z : ⊥ = omega (arith, lt) in z)
bits_set zero n (x ∷ l) lt = refl
bits_set (suc i) n (x ∷ l) lt = ap (λ (r : List ℕ). one x n ∷ r) (bits_set i (n / 2) l (omega (arith, lt)))

pub bits_next : (i n : ℕ) (l : List ℕ) → i < length l → set (bits_up_to i n l) i (one (get_or l i 0) (halves i n)) ≡ bits_up_to (i + 1) n l
bits_next i n l lt = rw (add-one i) (bits_set i n l lt)

pub bits_all : (i n : ℕ) (l : List ℕ) → length l ≤ i → bits_up_to i n l ≡ with_bits n l
bits_all zero n [] le = refl
bits_all zero n (x ∷ l) le = absurd (let z : ⊥ = omega (arith, le) in z)
bits_all (suc i) n [] le = refl
bits_all (suc i) n (x ∷ l) le = ap (λ (r : List ℕ). one x n ∷ r) (bits_all i (n / 2) l (omega (arith, le)))

-- without findings the first count alone changes
no_bits : (l : List ℕ) → with_bits 0 l ≡ l
no_bits [] = refl
no_bits (x ∷ l) = ap (λ (r : List ℕ). x ∷ r) (no_bits l)

pub nothing_found : (l : List ℕ) → 0 < length l → set l 0 ((get_or l 0 0 + 1) % 4294967296) ≡ counted 0 l
unfolding counted
nothing_found [] lt = absurd (let z : ⊥ = omega (arith, lt) in z)
nothing_found (x ∷ l) lt = ap (λ (r : List ℕ). ((x + 1) % 4294967296) ∷ r) (sym (no_bits l))
