-- A record has four bytes or more: one for its time, one for its channel, one for its identifier part and one for its length.
use Rattle.std.specs.Prelude.{Ok, Err}
use Rattle.std.proofs.Common.{◌≡◌, ℕ, zero, suc, ◌+◌, ◌-◌, ◌*◌, ◌/◌, ◌%◌, ◌<◌, ◌≤◌, Bool, true, false, cond, eqb, ltb, leb, List, length, refl, subst, arith, leb-false}
use Rattle.log_records.specs.declared.RecordError.TheVariants.{Cut, Bad}
use Rattle.log_records.specs.declared.Found.{Found}
use Rattle.log_records.specs.declared.Found.TheVariants as found
use Rattle.log_records.specs.Record.{identifiers}
use Rattle.log_records.specs.Reading.{Taken, part as onPart, length_part, identifier_part, channel_part, time_part, record_at, placed, found_at, onward, read_from, log_of, records_in}
use Rattle.log_records.proofs.Entries.{entry_lies}
use Rattle.log_records.proofs.Wholes.{by_part, by_test}

-- the record that was read from `at` on
abbrev Long : ℕ → Taken → Type 0
Long at (Ok e) = at + 4 ≤ e.next
Long at (Err Cut) = Unit {0}
Long at (Err (Bad w)) = Unit {0}

module _ (s : List ℕ) (at : ℕ) where
  test : (t : Bool) (x y : Taken) → Long at x → Long at y → Long at (cond t x y)
  test t x y p q = by_test (Long at) t x y (λ e. p) (λ e. q)

  part : (i : ℕ) (go : ℕ → ℕ → Taken) → i ≤ length s → ((n j : ℕ) → i < j → j ≤ length s → Long at (go n j)) → Long at (onPart s i go)
  part i go le f = by_part (Long at) tt (λ w. tt) s i go le (λ n j k. f n j k.0 k.1)

  long-length : (t c p l i : ℕ) → at + 4 ≤ i → Long at (length_part s t c p l i)
  unfolding length_part
  long-length t c p l i h =
      test (ltb 9 l) _ _ tt (test (eqb l 9) _ _ (test (eqb p 0) _ _ h tt) (test (ltb (length s - i) l) _ _ tt (omega arith)))

  long-identifier : (t c p i : ℕ) → at + 3 ≤ i → i ≤ length s → Long at (identifier_part s t c p i)
  unfolding identifier_part
  long-identifier t c p i h le =
      test (leb (identifiers (eqb (p % 2) 1)) (p / 2)) _ _ tt (part i (length_part s t c p) le (λ l j lt k. long-length t c p l j (omega arith)))

  long-channel : (t c i : ℕ) → at + 2 ≤ i → i ≤ length s → Long at (channel_part s t c i)
  unfolding channel_part
  long-channel t c i h le = test (ltb 31 c) _ _ tt (part i (identifier_part s t c) le (λ p j lt k. long-identifier t c p j (omega arith) k))

  long-time : (t i : ℕ) → at + 1 ≤ i → i ≤ length s → Long at (time_part s t i)
  unfolding time_part
  long-time t i h le = part i (channel_part s t) le (λ c j lt k. long-channel t c j (omega arith) k)

  long-record : at ≤ length s → Long at (record_at s at)
  unfolding record_at
  long-record le = part at (time_part s) le (λ t j lt k. long-time t j (omega arith) k)

abbrev LongFound : ℕ → Found → Type 0
LongFound at (found.Record e) = at + 4 ≤ e.next
LongFound at found.End = Unit {0}
LongFound at (found.Cut b) = Unit {0}
LongFound at (found.Refused w b) = Unit {0}

found_long : (s : List ℕ) (at : ℕ) → LongFound at (found_at s at)
found_long s at = go (leb (length s) at) refl
  where
    by : (x : Taken) → Long at x → LongFound at (placed at x)
    by (Ok e) h = h
    by (Err Cut) h = tt
    by (Err (Bad w)) h = tt

    go : (b : Bool) → leb (length s) at ≡ b → LongFound at (cond b found.End (placed at (record_at s at)))
    go true e = tt
    go false e = by (record_at s at) (long-record s at (omega (arith, leb-false (length s) at e)))

four_by : (k : ℕ) (s : List ℕ) (at : ℕ) (f : Found) → found_at s at ≡ f → at ≤ length s → ((n : ℕ) → n ≤ length s → n + 4 * length (records_in (read_from k s n)) ≤ length s)
    → at + 4 * length (records_in (onward s (read_from k s) f)) ≤ length s
unfolding records_in
four_by k s at (found.Record e) here le go =
    let w = entry_lies s at e here in
    let l : at + 4 ≤ e.next = subst (LongFound at) here (found_long s at) in
    omega (arith, go e.next w.2)
four_by k s at found.End here le go = omega arith
four_by k s at (found.Cut b) here le go = omega arith
four_by k s at (found.Refused w b) here le go = omega arith

four_from : (k : ℕ) (s : List ℕ) (at : ℕ) → at ≤ length s → at + 4 * length (records_in (read_from k s at)) ≤ length s
unfolding read_from records_in
four_from zero s at le = omega arith
four_from (suc k) s at le = four_by k s at (found_at s at) refl le (λ n m. four_from k s n m)

pub four_bytes : (s : List ℕ) → 4 * length (records_in (log_of s)) ≤ length s
four_bytes s = omega (arith, four_from (length s) s 0 (omega arith))
