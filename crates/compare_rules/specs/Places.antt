-- 02, Req 10: "for each channel the first place, from 1, where its two sequences differ (the place after the shorter, if that one only ends), or
-- none".
use Rattle.std.specs.Prelude.{ℕ, zero, suc, ◌<◌, ◌≡◌, cond, List, [], ◌∷◌, replicate, eqb}
use Rattle.log_records.specs.Record.{Rec}
use Rattle.compare_rules.specs.Records.{same, channel_of}
use Rattle.compare_rules.specs.Surplus.{surplus_of}

-- a channel's sequence
unfoldable pub on_channel : ℕ → List Rec → List Rec
on_channel c [] = []
on_channel c (r ∷ rs) = cond (eqb (channel_of r) c) (r ∷ on_channel c rs) (on_channel c rs)

-- the first place where two sequences differ, the first of all being k; 0 for none
unfoldable pub differ : ℕ → List Rec → List Rec → ℕ
differ k [] [] = 0
differ k [] (y ∷ ys) = k
differ k (x ∷ xs) [] = k
differ k (x ∷ xs) (y ∷ ys) = cond (same x y) (differ (suc k) xs ys) k

abbrev pub place_on : ℕ → List Rec → List Rec → ℕ
place_on c a b = differ 1 (on_channel c a) (on_channel c b)

-- of k channels from c on
unfoldable pub places_from : List Rec → List Rec → ℕ → ℕ → List ℕ
places_from a b c zero = []
places_from a b c (suc k) = place_on c a b ∷ places_from a b (suc c) k

abbrev pub channels : ℕ
channels = 32

abbrev pub places_of : List Rec → List Rec → List ℕ
places_of a b = places_from a b 0 channels

-- ---- when nothing is found

-- the same records in the same order on each channel
abbrev pub SameOnEach : List Rec → List Rec → Type 0
SameOnEach a b = (c : ℕ) → c < channels → on_channel c a ≡ on_channel c b

-- both lists are empty, and no channel has a place
abbrev pub NothingFound : List Rec → List Rec → Type 0
NothingFound a b = (surplus_of a b ≡ []) × (surplus_of b a ≡ []) × (places_of a b ≡ replicate channels 0)
