-- A list each of whose elements is the one that its type's default is.
use Rattle.std.proofs.Common.{◌≡◌, sym, ◌∙◌, ℕ, List, replicate, arith}
use Rattle.std.specs.Array.{AllOfLen}
use Rattle.std.proofs.lemmas.List.{ext_get_or, get_or-replicate, length-replicate}

pub all_same : {A : Type 0} (P : A → Type 0) (d : A) → ((x : A) → P x → x ≡ d) → (xs : List A) (n : ℕ) → AllOfLen P xs n → xs ≡ replicate n d
all_same P d same xs n h =
    ext_get_or d xs (replicate n d) (h.long ∙ sym (length-replicate n d))
    (λ i below. same _ (h.at i d (omega (arith, h.long))) ∙ sym (get_or-replicate n i d d (omega (arith, h.long))))
