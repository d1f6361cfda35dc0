-- The lines of records: as many as the records, each with its count; and a cut log's are the first of the whole log's.
use Prim.Native.Nat.{ℕ, suc, ◌+◌, ◌-◌}
use native.Mathlib.Omega.{arith}
use mathlib.Core.Path.{◌≡◌, refl, ap, ◌∙◌}
use mathlib.Core.Bool.{Bool, true, false, cond}
use mathlib.Core.List.{List, [], ◌∷◌, ◌++◌}
use lib.Dec.{leb, eqb}
use lib.ListN.{length, take, get_or}
use Rattle.log_records.specs.Record.{Rec, record_bytes}
use Rattle.log_records.specs.Reading.{Ending, Log, ends, then, clean, piece, wholly, records_in}
use Rattle.watch_rules.specs.declared.Table.{Table}
use Rattle.playing_nights.specs.Fed.{fed_with, fed_all, line_for, lines_from}

pub as_many : (xs : List Rec) (t : Table) (n : ℕ) → length (lines_from t n xs) ≡ length xs
unfolding lines_from
as_many [] t n = refl
as_many (x ∷ xs) t n = ap suc (as_many xs (fed_with t x).table (n + 1))

-- "count from 1": the line of the record behind k others is the k + 1st of a log, and says so
pub line_at : (before : List Rec) (x : Rec) (later : List Rec) (t : Table) (n : ℕ)
    → get_or (lines_from t n (before ++ (x ∷ later))) (length before) [] ≡ line_for (fed_all t before) (n + length before + 1) x
unfolding lines_from fed_all
line_at [] x later t n = ap (λ (m : ℕ). line_for t m x) (omega arith)
line_at (b ∷ before) x later t n =
    line_at before x later (fed_with t b).table (n + 1) ∙ ap (λ (m : ℕ). line_for (fed_all (fed_with t b).table before) m x) (omega arith)

-- the records wholly before a cut are the first, and so are their lines
pub cut_first : (rs : List Rec) (at i : ℕ) (t : Table) (n : ℕ)
    → lines_from t n (records_in (wholly at i rs)) ≡ take (length (records_in (wholly at i rs))) (lines_from t n rs)
unfolding wholly records_in lines_from
cut_first [] at i t n = refl
cut_first (x ∷ rs) at i t n =
    let size : ℕ = length (record_bytes x) in
    go (leb size i) (wholly (at + size) (i - size) rs) (cond (eqb i 0) clean (piece at)) (cut_first rs (at + size) (i - size) (fed_with t x).table (n + 1))
  where
    go : (b : Bool) (l : Log) (e : Ending) → lines_from (fed_with t x).table (n + 1) (records_in l) ≡ take (length (records_in l)) (lines_from (fed_with t x).table (n + 1) rs)
        → lines_from t n (records_in (cond b (then x l) (ends e))) ≡ take (length (records_in (cond b (then x l) (ends e)))) (lines_from t n (x ∷ rs))
    go true l e h = ap (λ (ls : List (List ℕ)). line_for t (n + 1) x ∷ ls) h
    go false l e h = refl
