-- Logs as they are written: one of whole records is all its records, and one that ends in a piece of a record is broken at that piece's first byte,
-- however many records stand before it.
use mathlib.Core.Path.{◌≡◌, refl, sym, ap, ◌∙◌}
use mathlib.Core.Option.{none, some}
use mathlib.Core.List.{List, [], ◌∷◌, ◌++◌, append_assoc, append-nil}
use Prim.Native.Nat.{ℕ, zero, suc, ◌+◌, ◌-◌, ◌≤◌, ◌<◌}
use native.Mathlib.Omega.{arith}
use lib.ListN.{length, take, replicate, length-append}
use lib.Seq.{take-append-add}
use borrow.Author.Tests.{le-leb, lt-leb, ne_eqb}
use Rattle.log_records.specs.Record.{Rec, Loggable, AllLoggable, record_bytes, log_bytes}
use Rattle.log_records.specs.Reading.{log_of, whole, wholly, records_in}
use Rattle.log_records.proofs.Logs.{log_reads, log_cut, records_whole}
use Rattle.compare_rules.specs.Compare.{records_of, broken_at}

whole_sound : (rs : List Rec) → broken_at (whole rs) ≡ none
unfolding whole broken_at
whole_sound [] = refl
whole_sound (r ∷ rs) = whole_sound rs

module _ (rs : List Rec) (h : AllLoggable rs) where
  pub written_sound : broken_at (log_of (log_bytes rs)) ≡ none
  written_sound = ap broken_at (log_reads rs h) ∙ whole_sound rs

  pub written_records : records_of (log_bytes rs) ≡ rs
  written_records = ap records_in (log_reads rs h) ∙ records_whole rs

-- ---- a piece of the record x behind the records

module _ (x : Rec) (i : ℕ) (Some-of : 0 < i) (less : i < length (record_bytes x)) where
  broken-from : (rs : List Rec) (at : ℕ) → broken_at (wholly at (length (log_bytes rs) + i) (rs ++ x ∷ [])) ≡ some (at + length (log_bytes rs))
  unfolding wholly log_bytes broken_at
  broken-from [] at =
      let z : at ≡ at + 0 = omega arith in
      rw (lt-leb (length (record_bytes x)) (0 + i) (omega arith), ne_eqb (0 + i) 0 (λ e. omega arith)) (ap some z)
  broken-from (r ∷ rs) at =
      let n : ℕ = length (record_bytes r) in
      let sum : length (record_bytes r ++ log_bytes rs) ≡ n + length (log_bytes rs) = length-append (record_bytes r) (log_bytes rs) in
      let rest : length (record_bytes r ++ log_bytes rs) + i - n ≡ length (log_bytes rs) + i = omega (arith, sum) in
      let byte : at + n + length (log_bytes rs) ≡ at + length (record_bytes r ++ log_bytes rs) = omega (arith, sum) in
      rw (le-leb n (length (record_bytes r ++ log_bytes rs) + i) (omega (arith, sum)))
      (ap (λ (k : ℕ). broken_at (wholly (at + n) k (rs ++ x ∷ []))) rest ∙ broken-from rs (at + n) ∙ ap some byte)

  written_then : (rs : List Rec) → log_bytes (rs ++ x ∷ []) ≡ log_bytes rs ++ record_bytes x
  unfolding log_bytes
  written_then [] = append-nil (record_bytes x)
  written_then (r ∷ rs) = ap (λ (l : List ℕ). record_bytes r ++ l) (written_then rs) ∙ sym (append_assoc (record_bytes r) (log_bytes rs) (record_bytes x))

  all_of : (rs : List Rec) → AllLoggable rs → Loggable x → AllLoggable (rs ++ x ∷ [])
  all_of [] h hx = (hx, tt)
  all_of (r ∷ rs) h hx = (h.0, all_of rs h.1 hx)

  pub piece_broken : (rs : List Rec) → AllLoggable rs → Loggable x → broken_at (log_of (log_bytes rs ++ take i (record_bytes x))) ≡ some (length (log_bytes rs))
  piece_broken rs h hx =
      let n : ℕ = length (log_bytes rs) in
      let cut : take (n + i) (log_bytes (rs ++ x ∷ [])) ≡ log_bytes rs ++ take i (record_bytes x) = ap (take (n + i)) (written_then rs) ∙ take-append-add (log_bytes rs) (record_bytes x) i in
      let fits : n + i ≤ length (log_bytes (rs ++ x ∷ [])) = omega (arith, ap length (written_then rs), length-append (log_bytes rs) (record_bytes x)) in
      let byte : 0 + n ≡ n = omega arith in
      ap (λ (s : List ℕ). broken_at (log_of s)) (sym cut) ∙ ap broken_at (log_cut (rs ++ x ∷ []) (n + i) (all_of rs h hx) fits) ∙ broken-from rs 0 ∙ ap some byte

pub all_alike : (r : Rec) → Loggable r → (n : ℕ) → AllLoggable (replicate n r)
all_alike r h zero = tt
all_alike r h (suc n) = (h, all_alike r h n)
