-- When two records are the same: the requests ask for "the records in one and not the other", and a record is its parts (02, Req 01).
use Rattle.std.specs.Prelude.{ℕ, Bool, true, false, ◌&&◌, List, [], ◌∷◌, get_or, eqb}
use Rattle.log_records.specs.Record.{Rec, tick, frame}

unfoldable pub same_bytes : List ℕ → List ℕ → Bool
same_bytes [] [] = true
same_bytes [] (y ∷ ys) = false
same_bytes (x ∷ xs) [] = false
same_bytes (x ∷ xs) (y ∷ ys) = eqb x y && same_bytes xs ys

abbrev pub same_form : Bool → Bool → Bool
same_form true y = y
same_form false true = false
same_form false false = true

-- equal only in all parts
unfoldable pub same : Rec → Rec → Bool
same (tick t c) (tick u d) = eqb t u && eqb c d
same (tick t c) (frame u d y j q) = false
same (frame t c x i p) (tick u d) = false
same (frame t c x i p) (frame u d y j q) = eqb t u && (eqb c d && (same_form x y && (eqb i j && same_bytes p q)))

abbrev pub channel_of : Rec → ℕ
channel_of (tick t c) = c
channel_of (frame t c x i p) = c

-- the record in front of which i stand; past the end, any
abbrev pub at : List Rec → ℕ → Rec
at rs i = get_or rs i (tick 0 0)
