-- Turns of `same_bytes`.
use mathlib.Core.Path.{◌≡◌, refl, sym, ap, subst}
use mathlib.Core.Bool.{Bool, true, false}
use mathlib.Core.List.{List}
use Prim.Native.Nat.{ℕ, ◌<◌}
use lib.ListN.{length, get_or}
use lib.Seq.{ext_get_or}
use Rattle.std.specs.Bool.{MatchBool}
use Rattle.compare_rules.specs.Records.{same_bytes}
use Rattle.compare_rules.proofs.Bytes.{same_refl, same_list}

same_false : (a b : List ℕ) → (a ≡ b → ⊥) → false ≡ same_bytes a b
same_false a b h = by (same_bytes a b) refl where
  by : (t : Bool) → same_bytes a b ≡ t → false ≡ t
  by true e = absurd (h (same_list a b e))
  by false e = refl

pub same_short : (a b : List ℕ) → (length a ≡ length b → ⊥) → false ≡ same_bytes a b
same_short a b h = same_false a b (λ e. h (ap length e))

-- byte by byte
pub same_all : (a b : List ℕ) (r : Bool) → length a ≡ length b
    → MatchBool r ((k : ℕ) → k < length a → get_or a k 0 ≡ get_or b k 0) ((k : ℕ) × (k < length a) × (get_or a k 0 ≡ get_or b k 0 → ⊥)) → r ≡ same_bytes a b
same_all a b true e w =
    let all : a ≡ b = ext_get_or 0 a b e w in
    sym (subst (λ (l : List ℕ). same_bytes a l ≡ true) all (same_refl a))
same_all a b false e w = same_false a b (λ all. w.2 (ap (λ (l : List ℕ). get_or l w.0 0) all))
