-- What is wrong with a record, by its parts and not by how they are read. 02, Req 01: "Lengths above 9, length 9 with another identifier part,
-- channels above 31, standard identifiers above 2,047, extended ones above 29 bits and ill-formed numbers each get a refusal above 15, the earliest
-- bad part deciding and going before a cut": nothing is asked of the bytes behind the bad part.
use Rattle.std.specs.Prelude.{ℕ, zero, suc, ◌/◌, ◌%◌, ◌≤◌, ◌<◌, ◌≡◌, ◌⊎◌, Bool, List, [], ◌∷◌, ◌++◌, eqb}
use Rattle.refusals.specs.declared.Refusal.{Refusal}
use Rattle.refusals.specs.declared.Refusal.TheVariants.{IllNumber, LogChannel, LogLength, LogTick}
use Rattle.log_numbers.specs.Number.{number_bytes, InWord}
use Rattle.log_records.specs.Record.{identifiers}
use Rattle.log_records.specs.Reading.{above_of}

abbrev pub EmptyGroup : List ℕ → Type 0
EmptyGroup [] = ⊥
EmptyGroup (b ∷ bs) = b ≡ 0

-- a number of which k more groups may follow the first: its last group is empty, so that it is not the shortest form; or the fifth group has its
-- high bit set, so that there are more than five, or a value that takes it over 32 bits
unfoldable pub IllFormed : ℕ → List ℕ → Type 0
IllFormed k [] = ⊥
IllFormed zero (b ∷ bs) = 16 ≤ b
IllFormed (suc k) (b ∷ bs) = (128 ≤ b) × (EmptyGroup bs ⊎ IllFormed k bs)

-- the part in front of bs is ill-formed; or it is a number n, and with n and the bytes r behind it the record is bad
abbrev pub BadFrom : Refusal → (ℕ → List ℕ → Type 0) → List ℕ → Type 0
BadFrom w rest bs = (IllFormed 4 bs × (w ≡ IllNumber)) ⊎ ((n : ℕ) × (r : List ℕ) × InWord n × (bs ≡ number_bytes n ++ r) × rest n r)

-- length, behind the identifier part p
abbrev pub BadLength : Refusal → ℕ → ℕ → Type 0
BadLength w p l = ((9 < l) × (w ≡ LogLength)) ⊎ ((l ≡ 9) × (¬ (p ≡ 0)) × (w ≡ LogTick))

-- identifier part, odd for an extended identifier
abbrev pub is_extended : ℕ → Bool
is_extended p = eqb (p % 2) 1

abbrev pub BadIdentifier : Refusal → ℕ → List ℕ → Type 0
BadIdentifier w p r =
    ((identifiers (is_extended p) ≤ p / 2) × (w ≡ above_of (is_extended p))) ⊎ ((p / 2 < identifiers (is_extended p)) × BadFrom w (λ l q. BadLength w p l) r)

abbrev pub BadChannel : Refusal → ℕ → List ℕ → Type 0
BadChannel w c r = ((31 < c) × (w ≡ LogChannel)) ⊎ ((c ≤ 31) × BadFrom w (BadIdentifier w) r)

-- a record whose earliest bad part is refused with w
unfoldable pub Malformed : Refusal → List ℕ → Type 0
Malformed w bs = BadFrom w (λ t r. BadFrom w (BadChannel w) r) bs
