-- A message with one signal changed, of any type of messages.
use Rattle.std.specs.Prelude.{ℕ, ◌≡◌, List, ℤ, set}

-- y is x with the raw number z at signal j: of the same kind, and no other number changed
abbrev pub WithRaw : {M : Type 0} → (M → ℕ) → (M → List ℤ) → ℕ → ℤ → M → M → Type 0
WithRaw kind raws j z x y = (kind y ≡ kind x) × (raws y ≡ set (raws x) j z)
