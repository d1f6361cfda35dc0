-- Going through a log record by record: the count of turns does not matter where it is enough, and so each turn of `scan_log` keeps its answer.
use mathlib.Core.Path.{◌≡◌, refl, sym, ap, ◌∙◌, subst}
use mathlib.Core.Bool.{Bool, true, false, cond}
use mathlib.Core.List.{List}
use Prim.Native.Nat.{ℕ, zero, suc, ◌+◌, ◌-◌, ◌≤◌, ◌<◌}
use native.Mathlib.Omega.{arith}
use lib.ListN.{length}
use lib.Dec.{leb}
use borrow.Author.Tests.{leb-true, leb-false}
use Rattle.std.specs.Prelude.{Ok, Err, Option, Some, None}
use Rattle.std.specs.Borrow.{Bor}
use Rattle.std.specs.Result.{result_ok}
use Rattle.log_records.specs.declared.Entry.{Entry}
use Rattle.log_records.specs.declared.Found.{Found}
use Rattle.log_records.specs.declared.Found.TheVariants as found
use Rattle.log_records.specs.declared.RecordError.TheVariants.{Cut, Bad}
use Rattle.log_read.specs.declared.Ending.{Ending}
use Rattle.log_read.specs.declared.Ending.TheVariants as ending
use Rattle.log_read.specs.declared.records.Records.{Records}
use Rattle.log_read.specs.Records.{entry_in, behind, Reads, ending_in, ended}
use Rattle.log_records.specs.Reading.{Taken, rec_of, placed, found_at, record_at, Log, then, onward, read_from, log_of}
use Rattle.log_read.specs.Scan.{scan_of}
use Rattle.log_records.proofs.Wholes.{Exact, exact}
use Rattle.log_records.proofs.Logs.{turn_end, turn_some}

same_onward : (s : List ℕ) (at : ℕ) (f g : ℕ → Log) (t : Taken) → Exact s at t → ((n : ℕ) → at < n → f n ≡ g n) → onward s f (placed at t) ≡ onward s g (placed at t)
same_onward s at f g (Ok e) x h = ap (then (rec_of s e)) (h e.next x.0)
same_onward s at f g (Err Cut) x h = refl
same_onward s at f g (Err (Bad w)) x h = refl

enough_by : (k m : ℕ) (s : List ℕ) (at : ℕ) (t : Bool) → leb (length s) at ≡ t → ((n : ℕ) → at < n → at < length s → read_from k s n ≡ read_from m s n)
    → read_from (suc k) s at ≡ read_from (suc m) s at
enough_by k m s at true e f = turn_end (suc k) s at (leb-true (length s) at e) ∙ sym (turn_end (suc m) s at (leb-true (length s) at e))
enough_by k m s at false e f =
    let lt : at < length s = leb-false (length s) at e in
    turn_some k s at (record_at s at) lt refl
    ∙ same_onward s at (read_from k s) (read_from m s) (record_at s at) (exact s at (omega arith)) (λ n p. f n p lt)
    ∙ sym (turn_some m s at (record_at s at) lt refl)

enough : (k m : ℕ) (s : List ℕ) (at : ℕ) → length s - at ≤ k → length s - at ≤ m → read_from k s at ≡ read_from m s at
enough zero m s at h g = turn_end zero s at (omega arith) ∙ sym (turn_end m s at (omega arith))
enough (suc k) zero s at h g = turn_end (suc k) s at (omega arith) ∙ sym (turn_end zero s at (omega arith))
enough (suc k) (suc m) s at h g = enough_by k m s at (leb (length s) at) refl (λ n p q. enough k m s n (omega arith) (omega arith))

-- the log from byte `at` on
abbrev pub log_at : List ℕ → ℕ → Log
log_at s at = read_from (length s) s at

pub unroll : (s : List ℕ) (at : ℕ) (t : Taken) → at < length s → record_at s at ≡ t → log_at s at ≡ onward s (log_at s) (placed at t)
unroll s at t h e =
    enough (length s) (suc (length s)) s at (omega arith) (omega arith)
    ∙ turn_some (length s) s at t h e

-- ---- what is found at a byte

whole_of : (at : ℕ) (t : Taken) (e : Entry) → placed at t ≡ found.Record e → t ≡ Ok e
whole_of at (Ok d) e h = cc
whole_of at (Err Cut) e h = cc
whole_of at (Err (Bad w)) e h = cc

module _ (s : List ℕ) (at : ℕ) where
  found_by : (P : Found → Type 0) → (length s ≤ at → P found.End) → (at < length s → P (placed at (record_at s at))) → P (found_at s at)
  found_by P f g = by (leb (length s) at) refl
    where
      by : (t : Bool) → leb (length s) at ≡ t → P (cond t found.End (placed at (record_at s at)))
      by true e = f (leb-true (length s) at e)
      by false e = g (leb-false (length s) at e)

  -- it decides how the log goes on
  pub found_turn : log_at s at ≡ onward s (log_at s) (found_at s at)
  found_turn = found_by (λ (x : Found). log_at s at ≡ onward s (log_at s) x) (turn_end (length s) s at) (λ h. unroll s at (record_at s at) h refl)

  -- a record that is found is exactly what is written for it
  pub found_exact : (e : Entry) → found_at s at ≡ found.Record e → (at < length s) × Exact s at (Ok e)
  found_exact e =
      found_by (λ (x : Found). x ≡ found.Record e → (at < length s) × Exact s at (Ok e)) (λ h f. absurd (none f))
      (λ h f. (h, subst (Exact s at) (whole_of at (record_at s at) e f) (exact s at (omega arith))))
    where
      none : found.End ≡ found.Record e → ⊥
      none f = cc

-- a record takes a byte at least, and ends within the log
pub read_exact : (s : List ℕ) (at : ℕ) (e : Entry) {r : Taken} → at < length s → r ≡ record_at s at → result_ok r ≡ Some e → (at < e.next) × (e.next ≤ length s)
read_exact s at e {r} h f g = let x = subst (Exact s at) (sym f ∙ whole r g) (exact s at (omega arith)) in (x.0, x.1)
  where
    whole : (r : Taken) → result_ok r ≡ Some e → r ≡ Ok e
    whole (Ok d) h = cc
    whole (Err w) h = cc

-- ---- a reader of the log s, at a byte
pub record Over (s : List ℕ) (at : ℕ) (r : Records) : Type 0 where
  pub log : r.log.now ≡ s
  pub place : r.at ≡ at

pub over_start : {s : Bor (List ℕ)} {r q : Records} → r ≡ q → q ≡ record { log = s; at = 0 } → Over s.now 0 r
over_start e f = record { log = ap (λ (r : Records). r.log.now) (e ∙ f); place = ap (λ (r : Records). r.at) (e ∙ f) }

here : {s : List ℕ} {at : ℕ} {r t : Records} {x : Option Entry} → Over s at r → Reads r x t → x ≡ entry_in (found_at s at)
here w h = rw (← w.log, ← w.place) h.gives

-- it reads a record, and stands behind it
pub over_more : {s : List ℕ} {at : ℕ} {r t : Records} {x : Option Entry} {e : Entry} → Over s at r → Reads r x t → x ≡ Some e
    → (found_at s at ≡ found.Record e) × Over s e.next t
over_more {s} {at} {r} {t} {x} {e} w h f =
    (record_of (found_at s at) (sym f ∙ here w h), record { log = ap (λ (b : Bor (List ℕ)). b.now) h.same_log ∙ w.log; place = h.goes ∙ ap (behind r.at) f })
  where
    record_of : (f : Found) → Some e ≡ entry_in f → f ≡ found.Record e
    record_of (found.Record d) h = cc
    record_of found.End h = cc
    record_of (found.Cut at) h = cc
    record_of (found.Refused w at) h = cc

-- it reads none: so the log ends
pub over_end : {s : List ℕ} {at : ℕ} {r t : Records} {x : Option Entry} → Over s at r → Reads r x t → x ≡ None
    → log_at s at ≡ ended (ending_in (found_at s at))
over_end {s} {at} {r} {t} {x} w h f = found_turn s at ∙ none (found_at s at) (sym f ∙ here w h)
  where
    none : (f : Found) → None ≡ entry_in f → onward s (log_at s) f ≡ ended (ending_in f)
    none (found.Record e) h = cc
    none found.End h = refl
    none (found.Cut at) h = refl
    none (found.Refused w at) h = refl

-- ---- `scan_log` at byte `at`, after n records
pub record Scanned (s : List ℕ) (at n : ℕ) : Type 0 where
  pub within : at ≤ length s
  pub few : n ≤ at
  pub left : scan_of n (log_at s at) ≡ scan_of 0 (log_of s)

pub scan_more : {s : List ℕ} {at n : ℕ} {e : Entry} → Scanned s at n → found_at s at ≡ found.Record e → Scanned s e.next (n + 1)
unfolding scan_of
scan_more {s} {at} {n} {e} w h =
    let x = found_exact s at e h in
    record {
      within = x.1.1;
      few = omega (arith, w.few, x.1.0);
      left = sym (ap (scan_of n) (found_turn s at ∙ ap (onward s (log_at s)) h)) ∙ w.left;
    }

pub scan_end : {s : List ℕ} {at n : ℕ} (x : Ending) → Scanned s at n → log_at s at ≡ ended x → record { records = n; ending = x } ≡ scan_of 0 (log_of s)
unfolding scan_of
scan_end {s} {at} {n} x w h = by x ∙ sym (ap (scan_of n) h) ∙ w.left
  where
    by : (x : Ending) → record { records = n; ending = x } ≡ scan_of n (ended x)
    by ending.Clean = refl
    by (ending.Cut at) = refl
    by (ending.Refused w at) = refl
