-- A record, part by part: what follows a number that is read, and that nothing follows where none is.
use Rattle.std.proofs.Common.{◌≡◌, ◌≤◌, ◌<◌, ◌/◌, ◌%◌, ◌∙◌, ◌+◌, refl, sym, ap, ℕ, List, drop, Result, Ok, Err, nat_eq}
use borrow.Author.Tests.{le-ltb, lt-ltb, le-leb, lt-leb}
use Rattle.refusals.specs.declared.Refusal.TheVariants.{LogChannel}
use Rattle.log_numbers.specs.Number.{Num, read_number}
use Rattle.log_records.specs.declared.RecordError.{RecordError}
use Rattle.log_records.specs.declared.RecordError.TheVariants.{Bad}
use Rattle.log_records.specs.Record.{identifiers}
use Rattle.log_records.specs.Reading.{on_number, part, length_part, identifier_part, channel_part, time_part, record_at, above_of}

abbrev pub Part : Type 0
Part = Result (ℕ × ℕ) RecordError

-- r is what `part_at` answers
abbrev pub IsPart : List ℕ → ℕ → Part → Type 0
IsPart s i r = r ≡ part {A = ℕ × ℕ} s i (λ n j. Ok (n, j))

on_ok : {A : Type 0} (i : ℕ) (go : ℕ → ℕ → Result A RecordError) (n j : ℕ) (x : Num) → on_number {A = ℕ × ℕ} i (λ m k. Ok (m, k)) x ≡ Ok (n, j) → on_number i go x ≡ go n j
on_ok i go n j (Ok (m, k)) h = let same : (m, i + k) ≡ (n, j) = cc in ap (λ (p : ℕ × ℕ). go p.0 p.1) same
on_ok i go n j (Err e) h = cc

on_err : {A : Type 0} (i : ℕ) (go : ℕ → ℕ → Result A RecordError) (e : RecordError) (x : Num) → on_number {A = ℕ × ℕ} i (λ m k. Ok (m, k)) x ≡ Err e → on_number i go x ≡ Err e
on_err i go e (Ok (m, k)) h = cc
on_err i go e (Err d) h = cc

pub part_ok : {A : Type 0} (s : List ℕ) (i : ℕ) (go : ℕ → ℕ → Result A RecordError) {r : Part} {n j : ℕ} → IsPart s i r → r ≡ Ok (n, j) → part s i go ≡ go n j
part_ok s i go f e = on_ok i go _ _ (read_number (drop i s)) (sym f ∙ e)

pub part_err : {A : Type 0} (s : List ℕ) (i : ℕ) (go : ℕ → ℕ → Result A RecordError) {r : Part} {e : RecordError} → IsPart s i r → r ≡ Err e → part s i go ≡ Err e
part_err s i go f e = on_err i go _ (read_number (drop i s)) (sym f ∙ e)

-- ---- the parts of a record, each behind those before it
module _ (s : List ℕ) where
  pub at_time : (at : ℕ) → record_at s at ≡ part s at (time_part s)
  unfolding record_at
  at_time at = refl

  pub behind_time : (at : ℕ) {r : Part} {t i : ℕ} → IsPart s at r → r ≡ Ok (t, i) → record_at s at ≡ part s i (channel_part s t)
  unfolding record_at time_part
  behind_time at f e = part_ok s at (time_part s) f e

  module _ (t : ℕ) where
    pub no_channel : (i : ℕ) {r : Part} {c j : ℕ} → IsPart s i r → r ≡ Ok (c, j) → 31 < c → part s i (channel_part s t) ≡ Err (Bad LogChannel)
    unfolding channel_part
    no_channel i {r} {c} f e h = part_ok s i (channel_part s t) f e ∙ rw (lt-ltb 31 c h)

    pub behind_channel : (i : ℕ) {r : Part} {c j : ℕ} → IsPart s i r → r ≡ Ok (c, j) → c ≤ 31 → part s i (channel_part s t) ≡ part s j (identifier_part s t c)
    unfolding channel_part
    behind_channel i {r} {c} f e h = part_ok s i (channel_part s t) f e ∙ rw (le-ltb 31 c h)

    module _ (c : ℕ) where
      pub no_identifier : (i : ℕ) {r : Part} {p j : ℕ} → IsPart s i r → r ≡ Ok (p, j) → identifiers (nat_eq (p % 2) 1) ≤ p / 2
          → part s i (identifier_part s t c) ≡ Err (Bad (above_of (nat_eq (p % 2) 1)))
      unfolding identifier_part
      no_identifier i {r} {p} f e h = part_ok s i (identifier_part s t c) f e ∙ rw (le-leb (identifiers (nat_eq (p % 2) 1)) (p / 2) h)

      pub behind_identifier : (i : ℕ) {r : Part} {p j : ℕ} → IsPart s i r → r ≡ Ok (p, j) → p / 2 < identifiers (nat_eq (p % 2) 1)
          → part s i (identifier_part s t c) ≡ part s j (length_part s t c p)
      unfolding identifier_part
      behind_identifier i {r} {p} f e h = part_ok s i (identifier_part s t c) f e ∙ rw (lt-leb (identifiers (nat_eq (p % 2) 1)) (p / 2) h)
