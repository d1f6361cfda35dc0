-- When a comparison is refused and when it is taken, said of the logs a and b, lists of x and y places, and z places for the channels. 02, Req 10:
-- "a malformed or cut log, with side and byte, then more records, then lent lists of under 512 places. At each step the first log comes first".
use Rattle.std.specs.Prelude.{ℕ, ◌≤◌, ◌<◌, ◌≡◌, ◌⊎◌, List, length}
use Rattle.std.proofs.Math.Option.{none, some}
use Rattle.log_records.specs.Reading.{log_of}
use Rattle.compare_rules.specs.Places.{channels}
use Rattle.compare_rules.specs.Compare.{most, records_of, broken_at}

-- one of a pair of sides is so: the first, or else the second
abbrev pub OnSide : ℕ → Type 0 → Type 0 → Type 0 → Type 0
OnSide side first else second = ((side ≡ 1) × first) ⊎ ((side ≡ 2) × else × second)

-- "a malformed or cut log, with side and byte"
abbrev pub Broken : List ℕ → List ℕ → ℕ → ℕ → Type 0
Broken a b side at = OnSide side (broken_at (log_of a) ≡ some at) (broken_at (log_of a) ≡ none) (broken_at (log_of b) ≡ some at)

abbrev pub Sound : List ℕ → List ℕ → Type 0
Sound a b = (broken_at (log_of a) ≡ none) × (broken_at (log_of b) ≡ none)

-- "then more records"
abbrev pub Many : List ℕ → List ℕ → ℕ → Type 0
Many a b side = Sound a b × OnSide side (most < length (records_of a)) (length (records_of a) ≤ most) (most < length (records_of b))

abbrev pub Few : List ℕ → List ℕ → Type 0
Few a b = Sound a b × (length (records_of a) ≤ most) × (length (records_of b) ≤ most)

-- "then lent lists of under 512 places"
abbrev pub Short : List ℕ → List ℕ → ℕ → ℕ → ℕ → Type 0
Short a b x y side = Few a b × OnSide side (x < most) (most ≤ x) (y < most)

abbrev pub Roomy : List ℕ → List ℕ → ℕ → ℕ → Type 0
Roomy a b x y = Few a b × (most ≤ x) × (most ≤ y)

abbrev pub NoPlaces : List ℕ → List ℕ → ℕ → ℕ → ℕ → Type 0
NoPlaces a b x y z = Roomy a b x y × (z < channels)

abbrev pub Taken : List ℕ → List ℕ → ℕ → ℕ → ℕ → Type 0
Taken a b x y z = Roomy a b x y × (channels ≤ z)
