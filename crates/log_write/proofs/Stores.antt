-- Stores: a record's bytes, stored part after part, are stored at once, since each run of stores begins where the one before it ended.
use mathlib.Core.Path.{◌≡◌, refl, sym, ap, ◌∙◌}
use mathlib.Core.Bool.{Bool}
use mathlib.Core.List.{List, [], ◌∷◌, ◌++◌, append_assoc, append-nil}
use Prim.Native.Nat.{ℕ, suc, ◌+◌, ◌≤◌, ◌<◌}
use native.Mathlib.Omega.{arith}
use native.Mathlib.Numerals.{add-one}
use lib.ListN.{length, drop, get_or, set, length-append, length-set, drop_of_length-le}
use lib.Seq.{drop-cons, sets}
use Rattle.log_numbers.specs.Number.{number_bytes, size_of}
use Rattle.log_records.specs.Record.{tick, frame, part_of, parts_bytes, record_bytes}
use Rattle.log_numbers.proofs.Numbers.{size_le}

-- one run of stores after another
pub sets_append : (l : List ℕ) (i : ℕ) (a b : List ℕ) → sets (sets l i a) (i + length a) b ≡ sets l i (a ++ b)
sets_append l i [] b = ap (λ (k : ℕ). sets l k b) (let z : i + 0 ≡ i = omega arith in z)
sets_append l i (x ∷ a) b =
    let z : i + suc (length a) ≡ suc i + length a = omega arith in
    ap (λ (k : ℕ). sets (sets (set l i x) (suc i) a) k b) z ∙ sets_append (set l i x) (suc i) a b

-- ---- a record's parts

abbrev pub head_size : ℕ → ℕ → ℕ → ℕ → ℕ
head_size t c p l = size_of t + size_of c + size_of p + size_of l

pub parts_length : (t c p l : ℕ) (body : List ℕ) → length (parts_bytes t c p l body) ≡ head_size t c p l + length body
parts_length t c p l body = simp length-append (omega arith)

-- four numbers of at most five bytes each
pub head_le : (t c p l : ℕ) → head_size t c p l ≤ 20
head_le t c p l = omega (arith, size_le 4 t, size_le 4 c, size_le 4 p, size_le 4 l)

pub tick_length : (t c : ℕ) → length (record_bytes (tick t c)) ≡ head_size t c 0 9
unfolding record_bytes
tick_length t c = omega (arith, parts_length t c 0 9 [])

pub tick_bytes : (t c : ℕ) → parts_bytes t c 0 9 [] ≡ record_bytes (tick t c)
unfolding record_bytes
tick_bytes t c = refl

pub frame_bytes : (t c p : ℕ) (x : Bool) (i : ℕ) (body : List ℕ) → p ≡ part_of x i → parts_bytes t c p (length body) body ≡ record_bytes (frame t c x i body)
unfolding record_bytes
frame_bytes t c p x i body e = ap (λ (q : ℕ). parts_bytes t c q (length body) body) e

pub frame_length : (t c p : ℕ) (x : Bool) (i : ℕ) (body : List ℕ) → p ≡ part_of x i
    → length (record_bytes (frame t c x i body)) ≡ head_size t c p (length body) + length body
frame_length t c p x i body e = sym (ap length (frame_bytes t c p x i body e)) ∙ parts_length t c p (length body) body

-- what stands at the front of a buffer, and the place behind it
abbrev pub Stored : List ℕ → List ℕ → ℕ → List ℕ → Type 0
Stored out₀ out at bytes = (at ≡ length bytes) × (out ≡ sets out₀ 0 bytes)

pub stored_next : (out₀ out out' : List ℕ) (at at' : ℕ) (bytes more : List ℕ) → Stored out₀ out at bytes
    → (at' ≡ at + length more) × (out' ≡ sets out at more) → Stored out₀ out' at' (bytes ++ more)
stored_next out₀ out out' at at' bytes more w n =
    let z : 0 + length bytes ≡ at = omega (arith, w.0) in
    let s : sets out at more ≡ sets (sets out₀ 0 bytes) (0 + length bytes) more = (cc (z, w.1)) in
    (omega (arith, n.0, w.0, length-append bytes more), n.1 ∙ s ∙ sets_append out₀ 0 bytes more)

-- `store_head`, call by call
pub head_stored : (out₀ out₁ out₂ out₃ out₄ : List ℕ) (t c p l a₁ a₂ a₃ a₄ : ℕ)
    → (a₁ ≡ 0 + size_of t) × (out₁ ≡ sets out₀ 0 (number_bytes t)) → (a₂ ≡ a₁ + size_of c) × (out₂ ≡ sets out₁ a₁ (number_bytes c))
    → (a₃ ≡ a₂ + size_of p) × (out₃ ≡ sets out₂ a₂ (number_bytes p)) → (a₄ ≡ a₃ + size_of l) × (out₄ ≡ sets out₃ a₃ (number_bytes l))
    → (a₄ ≡ head_size t c p l) × (out₄ ≡ sets out₀ 0 (parts_bytes t c p l []))
head_stored out₀ out₁ out₂ out₃ out₄ t c p l a₁ a₂ a₃ a₄ s₁ s₂ s₃ s₄ =
    let w₁ : Stored out₀ out₁ a₁ (number_bytes t) = (omega (arith, s₁.0), s₁.1) in
    let w₂ = stored_next out₀ out₁ out₂ a₁ a₂ (number_bytes t) (number_bytes c) w₁ s₂ in
    let w₃ = stored_next out₀ out₂ out₃ a₂ a₃ (number_bytes t ++ number_bytes c) (number_bytes p) w₂ s₃ in
    let w₄ = stored_next out₀ out₃ out₄ a₃ a₄ ((number_bytes t ++ number_bytes c) ++ number_bytes p) (number_bytes l) w₃ s₄ in
    let all : ((number_bytes t ++ number_bytes c) ++ number_bytes p) ++ number_bytes l ≡ parts_bytes t c p l [] = simp (append_assoc, append-nil) in
    (omega (arith, s₁.0, s₂.0, s₃.0, s₄.0), w₄.1 ∙ ap (sets out₀ 0) all)

-- the payload behind the head
pub body_stored : (out₀ out₁ out₂ : List ℕ) (t c p l a : ℕ) (body : List ℕ)
    → (a ≡ head_size t c p l) × (out₁ ≡ sets out₀ 0 (parts_bytes t c p l [])) → out₂ ≡ sets out₁ a body → out₂ ≡ sets out₀ 0 (parts_bytes t c p l body)
body_stored out₀ out₁ out₂ t c p l a body h s =
    let w : Stored out₀ out₁ a (parts_bytes t c p l []) = (omega (arith, h.0, parts_length t c p l []), h.1) in
    let all : parts_bytes t c p l [] ++ body ≡ parts_bytes t c p l body = simp append_assoc in
    (stored_next out₀ out₁ out₂ a (a + length body) (parts_bytes t c p l []) body w (refl, s)).1 ∙ ap (sets out₀ 0) all

-- ---- a turn of `store_bytes`

abbrev pub Copied : List ℕ → ℕ → List ℕ → List ℕ → ℕ → Type 0
Copied out₀ at bytes out i = (i ≤ length bytes) × (length out ≡ length out₀) × (sets out (at + i) (drop i bytes) ≡ sets out₀ at bytes)

pub copied_none : (out : List ℕ) (at : ℕ) (bytes : List ℕ) → Copied out at bytes out 0
copied_none out at bytes = (omega arith, refl, ap (λ (k : ℕ). sets out k bytes) (let z : at + 0 ≡ at = omega arith in z))

pub copied_more : (out₀ : List ℕ) (at : ℕ) (bytes out : List ℕ) (i : ℕ) → i < length bytes
    → Copied out₀ at bytes out i → Copied out₀ at bytes (set out (at + i) (get_or bytes i 0)) (i + 1)
copied_more out₀ at bytes out i h w =
    let z : at + (i + 1) ≡ suc (at + i) = omega arith in (
      omega arith,
      length-set out (at + i) (get_or bytes i 0) ∙ w.1,
      rw (z, add-one i) (sym (ap (sets out (at + i)) (drop-cons bytes i 0 h)) ∙ w.2),
    )

pub copied_all : (out₀ : List ℕ) (at : ℕ) (bytes out : List ℕ) (i : ℕ) → length bytes ≤ i → Copied out₀ at bytes out i → out ≡ sets out₀ at bytes
copied_all out₀ at bytes out i h w = sym (ap (sets out (at + i)) (drop_of_length-le bytes h)) ∙ w.2
