-- What the arrays beside a log hold of its records, and what the inner functions answer by them.
use Rattle.std.specs.Prelude.{ℕ, zero, suc, ◌+◌, ◌*◌, ◌-◌, ◌/◌, ◌≤◌, ◌<◌, ◌≡◌, Bool, true, false, cond, List, [], ◌∷◌, length, get_or, take, drop, eqb, Result, Ok, Err}
use Rattle.std.proofs.Props.{props}
use Rattle.log_records.specs.Record.{Rec, tick, frame, Loggable, record_bytes}
use Rattle.log_records.specs.Reading.{Log, ends, then, clean, piece, refused}
use Rattle.compare_rules.specs.Records.{same, channel_of, at}
use Rattle.compare_rules.specs.Surplus.{surplus_of}
use Rattle.compare_rules.specs.Places.{channels, places_of}
use Rattle.compare_rules.specs.Compare.{Compared, most, records_of, after}

-- what a log of which n records came before comes to: all its records, or the byte of one that is malformed or cut
unfoldable pub split_of : ℕ → Log → Result ℕ ℕ
split_of n (ends clean) = Ok n
split_of n (ends (piece at)) = Err at
split_of n (ends (refused w at)) = Err at
split_of n (then r l) = split_of (n + 1) l

abbrev pub time_of : Rec → ℕ
time_of (tick t c) = t
time_of (frame t c x i p) = t

-- channel and time in one number
abbrev pub key_of : Rec → ℕ
key_of r = channel_of r * 4294967296 + time_of r

-- the record r stands from byte i up to byte e of s, and k is its key
abbrev pub Holds : List ℕ → Rec → ℕ → ℕ → ℕ → Type 0
Holds s r i e k = (i ≤ e) × (e ≤ length s) × (k ≡ key_of r) × (k / 4294967296 ≡ channel_of r) × Loggable r × (take (e - i) (drop i s) ≡ record_bytes r)

-- there is one proof of it at most
pub Loggable-prop : (r : Rec) → IsProp (Loggable r)
Loggable-prop (tick t c) = Prim.hlevel props
Loggable-prop (frame t c x i p) = Prim.hlevel props

-- starts and keys are those of the first n of rs
abbrev pub Held : List ℕ → List Rec → List ℕ → List ℕ → ℕ → Type 0
Held s rs starts keys n = (i : ℕ) → i < n → Holds s (at rs i) (get_or starts i 0) (get_or starts (i + 1) 0) (get_or keys i 0)

-- of all n, which are not too many
abbrev pub Ready : List ℕ → List ℕ → List ℕ → ℕ → Type 0
Ready s starts keys n = (n ≤ most) × (n ≡ length (records_of s)) × Held s (records_of s) starts keys n

pub Ready-prop : (s starts keys : List ℕ) (n : ℕ) → IsProp (Ready s starts keys n)
Ready-prop s starts keys n = Prim.hlevel (props, Loggable-prop)

-- the first from `low` on that is free and the same as record i of a; m where there is none
abbrev pub FirstFree : List Rec → List Rec → List ℕ → ℕ → ℕ → ℕ → ℕ → Type 0
FirstFree a b used i low m r =
    (r ≤ m) × ((j : ℕ) → j < r → low ≤ j → get_or used j 0 ≡ 0 → same (at a i) (at b j) ≡ true → ⊥)
    × (r < m → (get_or used r 0 ≡ 0) × (same (at a i) (at b r) ≡ true))

-- all in front of it are used
abbrev pub UsedBelow : List ℕ → ℕ → Type 0
UsedBelow used low = (j : ℕ) → j < low → get_or used j 0 ≡ 0 → ⊥

-- the numbers, from j + 1 on, of those of k that are free
unfoldable pub free_from : List ℕ → ℕ → ℕ → List ℕ
free_from used j zero = []
free_from used j (suc k) = cond (eqb (get_or used j 0) 0) (suc j ∷ free_from used (suc j) k) (free_from used (suc j) k)

-- the next from `from` on, before n, whose key has the channel c
abbrev pub NextOn : List ℕ → ℕ → ℕ → ℕ → ℕ → Type 0
NextOn keys c from n r =
    (from ≤ r) × (r ≤ n) × ((j : ℕ) → j < r → from ≤ j → get_or keys j 0 / 4294967296 ≡ c → ⊥) × (r < n → get_or keys r 0 / 4294967296 ≡ c)

-- a channel that is not marked after the first n keys was not before, and none of them has it
abbrev pub Marked : List ℕ → List Bool → List Bool → ℕ → Type 0
Marked keys seen₀ seen n =
    (length seen ≡ channels) × ((c : ℕ) → c < channels → get_or seen c false ≡ false → (get_or seen₀ c false ≡ false) × ((j : ℕ) → j < n → get_or keys j 0 / 4294967296 ≡ c → ⊥))

-- the answer r' is r, and the lists and places hold afterwards what they should
abbrev pub Comes : Compared → List Rec → List Rec → List ℕ → List ℕ → List ℕ → Compared → List ℕ → List ℕ → List ℕ → Type 0
Comes r a b first second places r' first' second' places' =
    (r' ≡ r) × (first' ≡ after r' (surplus_of a b) first) × (second' ≡ after r' (surplus_of b a) second) × (places' ≡ after r' (places_of a b) places)
