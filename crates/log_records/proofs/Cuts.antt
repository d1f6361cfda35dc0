-- No cut record has 20 bytes: five of its time, one of its channel, five of its identifier part, one of its length and eight of its payload. So a piece with 20
-- bytes from the record on shows it whole or refused.
use mathlib.Core.Path.{◌≡◌, refl}
use mathlib.Core.Logic.{◌⊎◌, inl, inr, ⊎_elim}
use mathlib.Core.Bool.{Bool, true, false, cond}
use mathlib.Core.List.{List, [], ◌∷◌}
use Prim.Native.Nat.{ℕ, zero, suc, ◌+◌, ◌-◌, ◌*◌, ◌/◌, ◌%◌, ◌≤◌, ◌<◌}
use native.Mathlib.Omega.{arith}
use lib.ListN.{length, drop, length-drop}
use lib.Seq.{length-take-le}
use lib.Dec.{ltb, leb, eqb}
use borrow.Author.Tests.{ltb-true, ltb-false, leb-true, leb-false, eqb-false}
use Rattle.std.specs.Prelude.{Ok, Err}
use Rattle.log_numbers.specs.declared.NumberError.TheVariants as num
use Rattle.log_records.specs.declared.RecordError.TheVariants.{Cut, Bad}
use Rattle.log_records.specs.declared.Found.{Found}
use Rattle.log_records.specs.declared.Found.TheVariants as found
use Rattle.log_numbers.specs.Number.{Num, more_of, read_groups, read_number}
use Rattle.log_records.specs.Record.{identifiers, longest_record}
use Rattle.log_records.specs.Reading.{Taken, on_number, part, length_part, identifier_part, channel_part, time_part, record_at, placed, found_at}
use Rattle.log_records.specs.Pieces.{piece_of, is_firm}
use Rattle.log_records.proofs.Wholes.{by_test}

-- ---- a number among l bytes, of which k more groups may follow the first
abbrev Few : ℕ → ℕ → Num → Type 0
Few k l (Ok (n, j)) = (j ≤ suc k) × (n < 128 → j ≡ 1)
Few k l (Err num.Cut) = l ≤ k
Few k l (Err num.Ill) = Unit {0}

few_test : (k l : ℕ) (t : Bool) (x y : Num) → Few k l x → (t ≡ false → Few k l y) → Few k l (cond t x y)
few_test k l true x y p q = p
few_test k l false x y p q = q refl

few_more : (k l b : ℕ) (x : Num) → Few k l x → Few (suc k) (suc l) (more_of b x)
few_more k l b (Ok (n, j)) h =
    few_test (suc k) (suc l) (eqb n 0) (Err num.Ill) (Ok (n * 128 + b % 128, j + 1)) tt
    (λ e. let some : n ≡ 0 → ⊥ = eqb-false n 0 e in (omega (arith, h.0), λ lt. absurd (omega arith)))
few_more k l b (Err num.Cut) h = omega arith
few_more k l b (Err num.Ill) h = tt

few : (k : ℕ) (s : List ℕ) → Few k (length s) (read_groups k s)
unfolding read_groups
few zero [] = omega arith
few (suc k) [] = omega arith
few zero (b ∷ bs) = few_test zero (length (b ∷ bs)) (ltb b 16) (Ok (b, 1)) (Err num.Ill) (omega arith, λ lt. refl) (λ e. tt)
few (suc k) (b ∷ bs) = few_test (suc k) (length (b ∷ bs)) (ltb b 128) (Ok (b, 1)) (more_of b (read_groups k bs)) (omega arith, λ lt. refl) (λ e. few_more k (length bs) b (read_groups k bs) (few k bs))

-- ---- a cut record ends before byte m of the log s
abbrev Lacks : List ℕ → ℕ → Taken → Type 0
Lacks s m (Ok e) = Unit {0}
Lacks s m (Err Cut) = length s < m
Lacks s m (Err (Bad w)) = Unit {0}

module _ (s : List ℕ) (m : ℕ) where
  lacks-number : (i : ℕ) (go : ℕ → ℕ → Taken) (x : Num) → i + 4 < m → Few 4 (length (drop i s)) x → ((n j : ℕ) → j ≤ i + 5 → (n < 128 → j ≡ i + 1) → Lacks s m (go n j))
      → Lacks s m (on_number i go x)
  lacks-number i go (Ok (n, j)) le h f = f n (i + j) (omega (arith, h.0)) (λ lt. omega (arith, h.1 lt))
  lacks-number i go (Err num.Cut) le h f = omega (arith, length-drop i s)
  lacks-number i go (Err num.Ill) le h f = tt

  lacks-part : (i : ℕ) (go : ℕ → ℕ → Taken) → i + 4 < m → ((n j : ℕ) → j ≤ i + 5 → (n < 128 → j ≡ i + 1) → Lacks s m (go n j)) → Lacks s m (part s i go)
  lacks-part i go le f = lacks-number i go (read_number (drop i s)) le (few 4 (drop i s)) f

  test : (t : Bool) (x y : Taken) → (t ≡ true → Lacks s m x) → (t ≡ false → Lacks s m y) → Lacks s m (cond t x y)
  test = by_test (Lacks s m)

  lacks-length : (t c p l i : ℕ) → (l < 128 → i + 8 ≤ m) → Lacks s m (length_part s t c p l i)
  unfolding length_part
  lacks-length t c p l i le =
      test (ltb 9 l) _ _ (λ e. tt)
      (λ e9. test (eqb l 9) _ _ (λ e. test (eqb p 0) _ _ (λ f. tt) (λ f. tt))
      (λ e. test (ltb (length s - i) l) _ _
      (λ f.
      let few : l ≡ 9 → ⊥ = eqb-false l 9 e in
      let eight : l ≤ 8 = omega (arith, ltb-false 9 l e9) in
      omega (arith, ltb-true (length s - i) l f, le (omega arith)))
      (λ f. tt)))

  lacks-identifier : (t c p i : ℕ) → i + 9 ≤ m → Lacks s m (identifier_part s t c p i)
  unfolding identifier_part
  lacks-identifier t c p i le =
      test (leb (identifiers (eqb (p % 2) 1)) (p / 2)) _ _ (λ e. tt)
      (λ e. lacks-part i (length_part s t c p) (omega arith) (λ l j u one. lacks-length t c p l j (λ lt. omega (arith, one lt))))

  lacks-channel : (t c i : ℕ) → (c < 128 → i + 14 ≤ m) → Lacks s m (channel_part s t c i)
  unfolding channel_part
  lacks-channel t c i le =
      test (ltb 31 c) _ _ (λ e. tt)
      (λ e.
      let room : i + 14 ≤ m = le (omega (arith, ltb-false 31 c e)) in
      lacks-part i (identifier_part s t c) (omega arith) (λ p j u one. lacks-identifier t c p j (omega arith)))

  lacks-record : (at : ℕ) → at + longest_record ≤ m → Lacks s m (record_at s at)
  unfolding record_at time_part
  lacks-record at le =
      lacks-part at (time_part s) (omega arith)
      (λ t i u one. lacks-part i (channel_part s t) (omega arith) (λ c j v one. lacks-channel t c j (λ lt. omega (arith, one lt))))

-- ---- what a piece leaves open ends in it
abbrev Lies : List ℕ → ℕ → Found → Type 0
Lies s m x = is_firm x ≡ true ⊎ length s < m

lies : (s : List ℕ) (at : ℕ) → Lies s (at + longest_record) (found_at s at)
lies s at = go (leb (length s) at) refl
  where
    by : (x : Taken) → Lacks s (at + longest_record) x → Lies s (at + longest_record) (placed at x)
    by (Ok e) h = inl refl
    by (Err Cut) h = inr h
    by (Err (Bad w)) h = inl refl

    go : (t : Bool) → leb (length s) at ≡ t → Lies s (at + longest_record) (cond t found.End (placed at (record_at s at)))
    go true e = inr (omega (arith, leb-true (length s) at e))
    go false e = by (record_at s at) (lacks-record s (at + longest_record) at (omega arith))

-- a piece with 20 bytes from its byte i on, or to the log's end: no more bytes are needed there (the premise of `in_pieces`)
pub enough : (s : List ℕ) (a k i : ℕ) → i + longest_record ≤ k → is_firm (found_at (piece_of s a k) i) ≡ true ⊎ length s ≤ a + k
enough s a k i le = ⊎_elim inl (λ h. inr (short (leb k (length (drop a s))) refl h)) (lies (piece_of s a k) i)
  where
    short : (t : Bool) → leb k (length (drop a s)) ≡ t → length (piece_of s a k) < i + longest_record → length s ≤ a + k
    short true e h = absurd (omega (arith, length-take-le k (drop a s) (leb-true k (length (drop a s)) e)))
    short false e h = omega (arith, length-drop a s, leb-false k (length (drop a s)) e)
