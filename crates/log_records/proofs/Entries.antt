-- An entry that was found in a log: its payload lies in the log, and the next record begins behind its first byte.
use mathlib.Core.Path.{◌≡◌, refl, subst}
use mathlib.Core.Bool.{Bool, true, false, cond}
use mathlib.Core.List.{List}
use Prim.Native.Nat.{ℕ, ◌+◌, ◌-◌, ◌/◌, ◌%◌, ◌≤◌, ◌<◌}
use native.Mathlib.Omega.{arith}
use lib.Dec.{ltb, leb, eqb}
use lib.ListN.{length}
use borrow.Author.Tests.{leb-false, ltb-false}
use Rattle.log_records.specs.declared.Entry.{Entry}
use Rattle.log_records.specs.declared.Found.{Found}
use Rattle.log_records.specs.declared.Found.TheVariants as found
use Rattle.log_records.specs.Record.{identifiers}
use Rattle.log_records.specs.Reading.{length_part, identifier_part, channel_part, time_part, record_at, placed, found_at}
use Rattle.log_records.proofs.Wholes.{by_part, by_test}

abbrev pub InLog : List ℕ → ℕ → Entry → Type 0
InLog s at e = (e.start + e.length ≤ length s) × (at < e.next) × (e.next ≤ length s)

abbrev Lies : List ℕ → ℕ → Found → Type 0
Lies s at (found.Record e) = InLog s at e
Lies s at found.End = Unit {0}
Lies s at (found.Cut b) = Unit {0}
Lies s at (found.Refused w b) = Unit {0}

module _ (s : List ℕ) (at : ℕ) where
  length-lies : (t c p l i : ℕ) → at < i → i ≤ length s → Lies s at (placed at (length_part s t c p l i))
  unfolding length_part
  length-lies t c p l i lt le =
      by_test (λ x. Lies s at (placed at x)) (ltb 9 l) _ _ (λ e. tt)
      (λ e. by_test (λ x. Lies s at (placed at x)) (eqb l 9) _ _
      (λ e. by_test (λ x. Lies s at (placed at x)) (eqb p 0) _ _ (λ e. (omega arith, lt, le)) (λ e. tt))
      (λ e. by_test (λ x. Lies s at (placed at x)) (ltb (length s - i) l) _ _ (λ e. tt)
      (λ e.
      let h : l ≤ length s - i = ltb-false (length s - i) l e in
      (omega arith, omega arith, omega arith))))

  identifier-lies : (t c p i : ℕ) → at < i → i ≤ length s → Lies s at (placed at (identifier_part s t c p i))
  unfolding identifier_part
  identifier-lies t c p i lt le =
      by_test (λ x. Lies s at (placed at x)) (leb (identifiers (eqb (p % 2) 1)) (p / 2)) _ _ (λ e. tt)
      (λ e. by_part (λ x. Lies s at (placed at x)) tt (λ w. tt) s i (length_part s t c p) le (λ l j k. length-lies t c p l j (omega (arith, k.0)) k.1))

  channel-lies : (t c i : ℕ) → at < i → i ≤ length s → Lies s at (placed at (channel_part s t c i))
  unfolding channel_part
  channel-lies t c i lt le =
      by_test (λ x. Lies s at (placed at x)) (ltb 31 c) _ _ (λ e. tt)
      (λ e. by_part (λ x. Lies s at (placed at x)) tt (λ w. tt) s i (identifier_part s t c) le (λ p j k. identifier-lies t c p j (omega (arith, k.0)) k.1))

  time-lies : (t i : ℕ) → at < i → i ≤ length s → Lies s at (placed at (time_part s t i))
  unfolding time_part
  time-lies t i lt le =
      by_part (λ x. Lies s at (placed at x)) tt (λ w. tt) s i (channel_part s t) le (λ c j k. channel-lies t c j (omega (arith, k.0)) k.1)

  record-lies : at ≤ length s → Lies s at (placed at (record_at s at))
  unfolding record_at
  record-lies le = by_part (λ x. Lies s at (placed at x)) tt (λ w. tt) s at (time_part s) le (λ t j k. time-lies t j k.0 k.1)

  lies : Lies s at (found_at s at)
  lies = go (leb (length s) at) refl
    where
      go : (b : Bool) → leb (length s) at ≡ b → Lies s at (cond b found.End (placed at (record_at s at)))
      go true e = tt
      go false e = record-lies (omega (arith, leb-false (length s) at e))

  pub entry_lies : (e : Entry) → found_at s at ≡ found.Record e → InLog s at e
  entry_lies e h = subst (Lies s at) h lies
