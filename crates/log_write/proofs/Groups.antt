-- A number's groups into a buffer: a turn of `store_number`.
use mathlib.Core.Path.{◌≡◌, refl, sym, ap, ◌∙◌}
use mathlib.Core.Bool.{Bool, true, false}
use mathlib.Core.List.{List, [], ◌∷◌}
use Prim.Native.Nat.{ℕ, ◌+◌, ◌/◌, ◌%◌, ◌≤◌, ◌<◌}
use native.Mathlib.Omega.{arith}
use native.Mathlib.Numerals.{add-one}
use lib.ListN.{length, set, length-set}
use lib.Seq.{sets}
use lib.Dec.{ltb}
use borrow.Author.Tests.{ltb-true, ltb-false}
use Rattle.log_numbers.specs.Number.{number_bytes, size_of}
use Rattle.log_numbers.proofs.Numbers.{bytes_one, bytes_more}

abbrev pub Wrote : List ℕ → ℕ → ℕ → List ℕ → ℕ → ℕ → Type 0
Wrote out₀ at n out i rest =
    (i + size_of rest ≡ at + size_of n) × (length out ≡ length out₀) × (sets out i (number_bytes rest) ≡ sets out₀ at (number_bytes n)) × (rest ≤ n)

pub wrote_room : (out₀ : List ℕ) (at n : ℕ) (out : List ℕ) (i rest : ℕ) → at + size_of n ≤ length out₀ → n < 4294967296 → Wrote out₀ at n out i rest → i < length out
wrote_room out₀ at n out i rest h u w = room (ltb rest 128) refl where
  room : (t : Bool) → ltb rest 128 ≡ t → i < length out
  room true e = omega (arith, ap length (bytes_one rest (ltb-true rest 128 e)))
  room false e = omega (arith, ap length (bytes_more rest (ltb-false rest 128 e) (omega arith)))

pub wrote_more : (out₀ : List ℕ) (at n : ℕ) (out : List ℕ) (i rest : ℕ) → 128 ≤ rest → n < 4294967296
    → Wrote out₀ at n out i rest → Wrote out₀ at n (set out i (rest % 128 + 128)) (i + 1) (rest / 128)
wrote_more out₀ at n out i rest h u w =
    let e : number_bytes rest ≡ (rest % 128 + 128) ∷ number_bytes (rest / 128) = bytes_more rest h (omega arith) in (
      omega (arith, ap length e, w.0),
      length-set out i (rest % 128 + 128) ∙ w.1,
      ap (λ (j : ℕ). sets (set out i (rest % 128 + 128)) j (number_bytes (rest / 128))) (add-one i)
          ∙ sym (ap (sets out i) e) ∙ w.2,
      omega arith,
    )

pub wrote_last : (out₀ : List ℕ) (at n : ℕ) (out : List ℕ) (i rest : ℕ) → rest < 128
    → Wrote out₀ at n out i rest → (i + 1 ≡ at + size_of n) × (set out i rest ≡ sets out₀ at (number_bytes n))
wrote_last out₀ at n out i rest h w =
    let e : number_bytes rest ≡ rest ∷ [] = bytes_one rest h in
    (omega (arith, ap length e, w.0), sym (ap (sets out i) e) ∙ w.2)
