-- 02, Req 10: "list the records in one and not the other, counting repeats, as record numbers from 1 in that log's order over all channels, the
-- later repeats being the surplus".
use Rattle.std.specs.Prelude.{ℕ, zero, suc, ◌-◌, ◌≤◌, ◌<◌, ◌≡◌, ◌⊎◌, Bool, cond, List, [], ◌∷◌, length, take, ltb, eqb}
use Rattle.log_records.specs.Record.{Rec}
use Rattle.compare_rules.specs.Records.{same, at}

-- how many of them are the record r
unfoldable pub count_of : Rec → List Rec → ℕ
count_of r [] = 0
count_of r (x ∷ xs) = cond (same r x) (suc (count_of r xs)) (count_of r xs)

-- of record i + 1 more stand among the first i + 1 of its own log, itself included, than in the whole of the other
abbrev pub is_surplus : List Rec → List Rec → ℕ → Bool
is_surplus own other i = ltb (count_of (at own i) other) (count_of (at own i) (take (suc i) own))

-- the numbers, ascending, of the k records behind the first i that are surplus
unfoldable pub surplus_from : List Rec → List Rec → ℕ → ℕ → List ℕ
surplus_from own other i zero = []
surplus_from own other i (suc k) = cond (is_surplus own other i) (suc i ∷ surplus_from own other (suc i) k) (surplus_from own other (suc i) k)

abbrev pub surplus_of : List Rec → List Rec → List ℕ
surplus_of own other = surplus_from own other 0 (length own)

-- a log without the records whose numbers are listed, ascending, where i came before
unfoldable pub taken_out : List ℕ → ℕ → List Rec → List Rec
taken_out [] i rs = rs
taken_out (n ∷ ns) i [] = []
taken_out (n ∷ ns) i (r ∷ rs) = cond (eqb n (suc i)) (taken_out ns (suc i) rs) (r ∷ taken_out (n ∷ ns) (suc i) rs)

-- ---- what is said of a list

-- the number n stands in it
abbrev pub Stands : ℕ → List ℕ → Type 0
Stands n [] = ⊥
Stands n (m ∷ ms) = (n ≡ m) ⊎ Stands n ms

-- record n, from 1, is surplus
abbrev pub SurplusRecord : List Rec → List Rec → ℕ → Type 0
SurplusRecord own other n = (0 < n) × (n ≤ length own) × (count_of (at own (n - 1)) other < count_of (at own (n - 1)) (take n own))

-- each number is above the one before it, and the first above i
abbrev pub Ascends : ℕ → List ℕ → Type 0
Ascends i [] = Unit {0}
Ascends i (n ∷ ns) = (i < n) × Ascends n ns
