-- Whole logs: what is written reads back, a log that is cut reads as the records wholly before the cut, two lists of records never write the same
-- bytes, and whatever reads as records is what these write.
use mathlib.Core.Path.{◌≡◌, refl, sym, ap, ap₂, ◌∙◌, subst}
use mathlib.Core.Bool.{Bool, true, false, cond}
use mathlib.Core.List.{List, [], ◌∷◌, ◌++◌, append_assoc, append-nil}
use Prim.Native.Nat.{ℕ, zero, suc, ◌+◌, ◌-◌, ◌≤◌, ◌<◌}
use native.Mathlib.Omega.{arith}
use lib.ListN.{length, take, drop, length-append, length-drop}
use lib.Seq.{drop-append_seam, drop-drop, take-append-le, take-append-add, take-nil, take_all, take-length, length-take-le}
use lib.Dec.{leb, eqb}
use borrow.Author.Tests.{leb-true, leb-false, le-leb, lt-leb, ne_eqb}
use Rattle.std.specs.Prelude.{Ok, Err}
use Rattle.log_records.specs.declared.RecordError.TheVariants.{Cut, Bad}
use Rattle.log_records.specs.declared.Found.TheVariants as found
use Rattle.log_records.specs.Record.{Rec, Loggable, AllLoggable, record_bytes, log_bytes}
use Rattle.log_records.specs.Reading.{Taken, rec_of, placed, found_at, record_at, Log, ends, then, clean, piece, onward, read_from, log_of, whole, wholly, records_in, end_in}
use Rattle.log_records.proofs.Records.{entry_at, record_reads, record_of_lem, next_is, record_cut, record_some}
use Rattle.log_records.proofs.Wholes.{Bytes, Exact, exact}

-- ---- one turn

found_end : (s : List ℕ) (at : ℕ) → length s ≤ at → found_at s at ≡ found.End
found_end s at h = rw (le-leb (length s) at h)

found_some : (s : List ℕ) (at : ℕ) → at < length s → found_at s at ≡ placed at (record_at s at)
found_some s at h = rw (lt-leb (length s) at h)

pub turn_end : (k : ℕ) (s : List ℕ) (at : ℕ) → length s ≤ at → read_from k s at ≡ ends clean
unfolding read_from
turn_end zero s at h = refl
turn_end (suc k) s at h = ap (onward s (read_from k s)) (found_end s at h)

pub turn_some : (k : ℕ) (s : List ℕ) (at : ℕ) (t : Taken) → at < length s → record_at s at ≡ t → read_from (suc k) s at ≡ onward s (read_from k s) (placed at t)
unfolding read_from
turn_some k s at t h e = ap (onward s (read_from k s)) (found_some s at h ∙ ap (placed at) e)

-- bytes from `at` on lie before the end
within : (s : List ℕ) (at : ℕ) (l : List ℕ) → drop at s ≡ l → 0 < length l → at < length s
within s at l e h = omega (arith, length-drop at s, ap length e)

past : (s : List ℕ) (at : ℕ) → drop at s ≡ [] → length s ≤ at
past s at e = omega (arith, length-drop at s, ap length e)

module _ (x : Rec) (s : List ℕ) (at : ℕ) (r : List ℕ) (h : Loggable x) (e : drop at s ≡ record_bytes x ++ r) where
  -- a whole record in front
  step : (k : ℕ) → read_from (suc k) s at ≡ then x (read_from k s (at + length (record_bytes x)))
  step k =
      turn_some k s at (Ok (entry_at at x)) (within s at _ e (omega (arith, length-append (record_bytes x) r, record_some x))) (record_reads x s at r h e)
      ∙ ap₂ (λ (y : Rec) (n : ℕ). then y (read_from k s n)) (record_of_lem x s at r h e) (next_is x at)

  rest : drop (at + length (record_bytes x)) s ≡ r
  rest = sym (drop-drop (length (record_bytes x)) at s) ∙ ap (drop (length (record_bytes x))) e ∙ drop-append_seam (record_bytes x) r

-- ---- a cut log
left_over : (x : Rec) (s : List ℕ) (at i k : ℕ) → Loggable x → i < length (record_bytes x) → i ≤ k → drop at s ≡ take i (record_bytes x)
    → read_from k s at ≡ ends (cond (eqb i 0) clean (piece at))
left_over x s at zero k h lt le e = turn_end k s at (past s at e)
left_over x s at (suc i) zero h lt le e = absurd (omega arith)
left_over x s at (suc i) (suc k) h lt le e =
    turn_some k s at (Err Cut) (within s at _ e (omega (arith, length-take-le (suc i) (record_bytes x) (omega arith)))) (record_cut x s at (suc i) h lt e)
    ∙ ap (λ (b : Bool). ends (cond b clean (piece at))) (sym (ne_eqb (suc i) 0 (λ z. omega arith)))

cut_turn : (x : Rec) (rs : List Rec) (s : List ℕ) (at i k : ℕ) (t : Bool) → leb (length (record_bytes x)) i ≡ t → Loggable x → i ≤ k
    → drop at s ≡ take i (record_bytes x ++ log_bytes rs)
    → ((at i k : ℕ) → i ≤ k → drop at s ≡ take i (log_bytes rs) → read_from k s at ≡ wholly at i rs)
    → read_from k s at ≡ cond t (then x (wholly (at + length (record_bytes x)) (i - length (record_bytes x)) rs)) (ends (cond (eqb i 0) clean (piece at)))
cut_turn x rs s at i zero true e h le d f = absurd (omega (arith, record_some x, leb-true (length (record_bytes x)) i e))
cut_turn x rs s at i (suc k) true e h le d f =
    let n : ℕ = length (record_bytes x) in
    let fits : n ≤ i = leb-true n i e in
    let sum : i ≡ n + (i - n) = omega arith in
    let d1 : drop at s ≡ record_bytes x ++ take (i - n) (log_bytes rs) =
    d ∙ ap (λ (j : ℕ). take j (record_bytes x ++ log_bytes rs)) sum ∙ take-append-add (record_bytes x) (log_bytes rs) (i - n) in
    step x s at _ h d1 k ∙ ap (then x) (f (at + n) (i - n) k (omega (arith, record_some x)) (rest x s at _ h d1))
cut_turn x rs s at i k false e h le d f =
    let short : i < length (record_bytes x) = leb-false (length (record_bytes x)) i e in
    left_over x s at i k h short le (d ∙ take-append-le i (record_bytes x) (log_bytes rs) (omega arith))

cut_at : (rs : List Rec) (s : List ℕ) (at i k : ℕ) → AllLoggable rs → i ≤ k → drop at s ≡ take i (log_bytes rs) → read_from k s at ≡ wholly at i rs
unfolding log_bytes wholly
cut_at [] s at i k h le d = turn_end k s at (past s at (d ∙ take-nil i))
cut_at (x ∷ rs) s at i k h le d =
    cut_turn x rs s at i k (leb (length (record_bytes x)) i) refl h.0 le d (λ at i k le d. cut_at rs s at i k h.1 le d)

-- "A log cut after any byte reads as exactly the records wholly before the cut, and tells whether a piece is left over."
pub log_cut : (rs : List Rec) (i : ℕ) → AllLoggable rs → i ≤ length (log_bytes rs) → log_of (take i (log_bytes rs)) ≡ wholly 0 i rs
log_cut rs i h le = cut_at rs (take i (log_bytes rs)) 0 i _ h (omega (arith, length-take-le i (log_bytes rs) le)) refl

-- ---- a whole log
reads_at : (rs : List Rec) (s : List ℕ) (at k : ℕ) → AllLoggable rs → length (log_bytes rs) ≤ k → drop at s ≡ log_bytes rs → read_from k s at ≡ whole rs
unfolding log_bytes whole
reads_at [] s at k h le d = turn_end k s at (past s at d)
reads_at (x ∷ rs) s at zero h le d = absurd (omega (arith, record_some x, length-append (record_bytes x) (log_bytes rs)))
reads_at (x ∷ rs) s at (suc k) h le d =
    step x s at _ h.0 d k
    ∙ ap (then x) (reads_at rs s (at + length (record_bytes x)) k h.1 (omega (arith, record_some x, length-append (record_bytes x) (log_bytes rs))) (rest x s at _ h.0 d))

-- what is written reads back as itself
pub log_reads : (rs : List Rec) → AllLoggable rs → log_of (log_bytes rs) ≡ whole rs
log_reads rs h = reads_at rs (log_bytes rs) 0 (length (log_bytes rs)) h (omega arith) refl

pub records_whole : (rs : List Rec) → records_in (whole rs) ≡ rs
unfolding records_in whole
records_whole [] = refl
records_whole (x ∷ rs) = ap (λ (l : List Rec). x ∷ l) (records_whole rs)

-- "Two different lists of records never write the same bytes."
pub logs_differ : (a b : List Rec) → AllLoggable a → AllLoggable b → log_bytes a ≡ log_bytes b → a ≡ b
logs_differ a b ha hb e = sym (records_whole a) ∙ ap records_in (sym (log_reads a ha) ∙ ap log_of e ∙ log_reads b hb) ∙ records_whole b

-- ---- any bytes: up to where a log ends they are what its records write
abbrev Told : List ℕ → ℕ → Log → Type 0
Told s at l = AllLoggable (records_in l) × (take (end_in (length s) l) s ≡ take at s ++ log_bytes (records_in l))

told_nothing : (s : List ℕ) (at : ℕ) → take at s ≡ take at s ++ log_bytes []
unfolding log_bytes
told_nothing s at = sym (append-nil (take at s))

told_end : (s : List ℕ) (at : ℕ) → length s ≤ at → Told s at (ends clean)
unfolding records_in end_in
told_end s at h = (tt, take-length s ∙ sym (take_all at s h) ∙ told_nothing s at)

told_turn : (s : List ℕ) (at : ℕ) (go : ℕ → Log) (t : Taken) → Bytes s → Exact s at t
    → ((n : ℕ) → at < n → n ≤ length s → Told s n (go n)) → Told s at (onward s go (placed at t))
unfolding records_in end_in log_bytes
told_turn s at go (Ok e) b x f =
    let k = x.2 b in
    let g = f e.next x.0 x.1 in
    ((k.0, g.0), g.1 ∙ ap (λ (l : List ℕ). l ++ log_bytes (records_in (go e.next))) k.1 ∙ append_assoc (take at s) (record_bytes (rec_of s e)) _)
told_turn s at go (Err Cut) b x f = (tt, told_nothing s at)
told_turn s at go (Err (Bad w)) b x f = (tt, told_nothing s at)

told_by_lem : (k : ℕ) (s : List ℕ) (at : ℕ) (t : Bool) → leb (length s) at ≡ t → Bytes s → at ≤ length s
    → ((n : ℕ) → at < n → n ≤ length s → Told s n (read_from k s n)) → Told s at (read_from (suc k) s at)
told_by_lem k s at true e b h f = subst (Told s at) (sym (turn_end (suc k) s at (leb-true (length s) at e))) (told_end s at (leb-true (length s) at e))
told_by_lem k s at false e b h f =
    subst (Told s at) (sym (turn_some k s at (record_at s at) (leb-false (length s) at e) refl)) (told_turn s at (read_from k s) (record_at s at) b (exact s at h) f)

told_at : (k : ℕ) (s : List ℕ) (at : ℕ) → Bytes s → at ≤ length s → length s - at ≤ k → Told s at (read_from k s at)
told_at zero s at b h le = subst (Told s at) (sym (turn_end zero s at (omega arith))) (told_end s at (omega arith))
told_at (suc k) s at b h le = told_by_lem k s at (leb (length s) at) refl b h (λ n p q. told_at k s n b q (omega arith))

pub log_exact : (s : List ℕ) → Bytes s → AllLoggable (records_in (log_of s)) × (take (end_in (length s) (log_of s)) s ≡ log_bytes (records_in (log_of s)))
log_exact s b = told_at (length s) s 0 b (omega arith) (omega arith)
