-- A walk over the pieces of a log keeps what it says of the log, whatever pieces it is handed; and with 20 bytes in each it does not stand short.
use Rattle.std.specs.Prelude.{Ok, Err}
use Rattle.std.proofs.Common.{◌≡◌, ℕ, ◌+◌, ◌^◌, ◌<◌, ◌≤◌, Bool, true, false, cond, eqb, leb, ◌⊎◌, List, [], ◌∷◌, length, take, drop, sym, refl, ap, ◌∙◌, subst, ap₂, inl, inr, ⊎_elim, true≢false, arith, length-drop, length-take-le, take_all, eqb-true, leb-false, leb-true}
use Rattle.refusals.specs.declared.Refusal.{Refusal}
use Rattle.log_records.specs.declared.Entry.{Entry}
use Rattle.log_records.specs.declared.RecordError.TheVariants.{Cut, Bad}
use Rattle.log_records.specs.declared.Found.{Found}
use Rattle.log_records.specs.declared.Found.TheVariants as found
use Rattle.log_records.specs.Record.{longest_record, log_bytes}
use Rattle.log_records.specs.Reading.{Taken, placed, found_at, record_at, Log, ends, then, clean, piece, refused, onward, log_of, records_in, end_in}
use Rattle.log_records.specs.Pieces.{piece_of, moved_entry, moved, is_firm}
use Rattle.log_records.proofs.Wholes.{Bytes, Exact, exact}
use Rattle.log_records.proofs.Logs.{turn_end, log_exact}
use Rattle.log_records.proofs.Pieces.{in_pieces}
use Rattle.log_records.proofs.Cuts.{enough}
use Rattle.log_read.specs.declared.Scan.{Scan}
use Rattle.log_read.specs.declared.Ending.{Ending}
use Rattle.log_read.specs.declared.Ending.TheVariants as ending
use Rattle.log_read.specs.Scan.{scan_of}
use Rattle.log_read.proofs.Scans.{unroll}
use Rattle.log_walk.specs.declared.Stand.{Stand}
use Rattle.log_walk.specs.declared.Stand.TheVariants as stand
use Rattle.log_walk.specs.declared.Walk.{Walk}
use Rattle.log_walk.specs.declared.Seen.TheVariants as seen
use Rattle.log_walk.specs.Walk.{is_short, sum64, start_of, place_in, seen_of, standing, on_piece, open_by, passed_by, step_of}
use Rattle.log_walk.specs.Walked.{rest_of, Ended, Says, Walked, over}

-- ---- what stands at a byte of a log

-- it decides how the log goes on
unrolled : (s : List ℕ) (at : ℕ) → rest_of s at ≡ onward s (rest_of s) (found_at s at)
unrolled s at = by (leb (length s) at) refl
  where
    by : (t : Bool) → leb (length s) at ≡ t → rest_of s at ≡ onward s (rest_of s) (cond t found.End (placed at (record_at s at)))
    by true e = turn_end (length s) s at (leb-true (length s) at e)
    by false e = unroll s at (record_at s at) (leb-false (length s) at e) refl

-- where it lies
abbrev Sits : List ℕ → ℕ → Found → Type 0
Sits s at (found.Record e) = (at < e.next) × (e.next ≤ length s)
Sits s at found.End = length s ≤ at
Sits s at (found.Cut b) = b ≡ at
Sits s at (found.Refused why b) = b ≡ at

sits : (s : List ℕ) (at : ℕ) → at ≤ length s → Sits s at (found_at s at)
sits s at le = by (leb (length s) at) refl
  where
    whole : (x : Taken) → Exact s at x → Sits s at (placed at x)
    whole (Ok e) x = (x.0, x.1)
    whole (Err Cut) x = refl
    whole (Err (Bad w)) x = refl

    by : (t : Bool) → leb (length s) at ≡ t → Sits s at (cond t found.End (placed at (record_at s at)))
    by true e = leb-true (length s) at e
    by false e = whole (record_at s at) (exact s at le)

-- ---- an answer tells the byte behind the last whole record
end_by : ℕ → Ending → ℕ
end_by m ending.Clean = m
end_by m (ending.Cut at) = at
end_by m (ending.Refused why at) = at

abbrev end_of : ℕ → Scan → ℕ
end_of m x = end_by m x.ending

end_told : (l : Log) (n m : ℕ) → end_in m l ≡ end_of m (scan_of n l)
unfolding scan_of end_in end_by
end_told (ends clean) n m = refl
end_told (ends (piece at)) n m = refl
end_told (ends (refused w at)) n m = refl
end_told (then r l) n m = end_told l (n + 1) m

small : (a b : ℕ) → a + b < 2 ^ 64 → sum64 a b ≡ a + b
small a b h = omega arith

-- ---- a walk over the log s, which has less than 2^64 bytes, with its piece of k bytes
module _ (s : List ℕ) (fits : length s < 2 ^ 64) (k : ℕ) (w : Walk) (h : Walked s w) where
  abbrev read : List ℕ
  read = piece_of s w.from k

  -- what the piece shows where the walk stands, as the log has it
  shown : (x : Found) → found_at read (place_in w) ≡ x → is_firm x ≡ true ⊎ length s ≤ w.from + k → (found_at s w.at ≡ moved w.from x) × Sits s w.at (moved w.from x)
  shown x e f =
      let here : w.from + place_in w ≡ w.at = omega (arith, h.1) in
      let firm : is_firm (found_at read (place_in w)) ≡ true ⊎ length s ≤ w.from + k = ⊎_elim (λ g. inl (ap is_firm e ∙ g)) inr f in
      let told : found_at s w.at ≡ moved w.from x = subst (λ (z : ℕ). found_at s z ≡ moved w.from x) here (in_pieces s w.from k (place_in w) firm ∙ ap (moved w.from) e) in
      (told, subst (Sits s w.at) told (sits s w.at h.2))

  -- the rest of the log by that
  rest-by : (x : Found) → found_at s w.at ≡ x → scan_of w.records (onward s (rest_of s) x) ≡ scan_of 0 (log_of s)
  rest-by x e = sym (ap (scan_of w.records) (unrolled s w.at ∙ ap (onward s (rest_of s)) e)) ∙ h.4

  ended_by : (x : Scan) → scan_of 0 (log_of s) ≡ x → end_of (length s) x ≡ w.at → Ended s w.at x
  ended_by x e f = (e, end_told (log_of s) 0 (length s) ∙ ap (end_of (length s)) e ∙ f)

  says-end : found_at s w.at ≡ found.End → length s ≤ w.at → Ended s w.at (record { records = w.records; ending = ending.Clean })
  unfolding scan_of end_by
  says-end e le = ended_by (record { records = w.records; ending = ending.Clean }) (sym (rest-by found.End e)) (omega (arith, h.2))

  says-cut : (b : ℕ) → found_at s w.at ≡ found.Cut b → b ≡ w.at → Ended s w.at (record { records = w.records; ending = ending.Cut w.at })
  unfolding scan_of end_by
  says-cut b e f = ended_by (record { records = w.records; ending = ending.Cut w.at }) (sym (rest-by (found.Cut w.at) (e ∙ ap found.Cut f))) refl

  says-bad : (why : Refusal) (b : ℕ) → found_at s w.at ≡ found.Refused why b → b ≡ w.at → Ended s w.at (record { records = w.records; ending = ending.Refused why w.at })
  unfolding scan_of end_by
  says-bad why b e f = ended_by (record { records = w.records; ending = ending.Refused why w.at }) (sym (rest-by (found.Refused why w.at) (e ∙ ap (found.Refused why) f))) refl

  -- how many bytes the piece has
  size-read : (length read ≤ k) × (w.from + length read ≤ length s) × (k ≤ length read ⊎ length s ≤ w.from + length read)
  size-read = by (leb k (length (drop w.from s))) refl
    where
      by : (t : Bool) → leb k (length (drop w.from s)) ≡ t → (length read ≤ k) × (w.from + length read ≤ length s) × (k ≤ length read ⊎ length s ≤ w.from + length read)
      by true e =
          let n : length read ≡ k = length-take-le k (drop w.from s) (leb-true k (length (drop w.from s)) e) in
          (omega (arith, n), omega (arith, n, length-drop w.from s, leb-true k (length (drop w.from s)) e, h.1, h.2), inl (omega (arith, n)))
      by false e =
          let short : length (drop w.from s) < k = leb-false k (length (drop w.from s)) e in
          let n : length read ≡ length (drop w.from s) = ap length (take_all k (drop w.from s) (omega arith)) in
          (omega (arith, n), omega (arith, n, length-drop w.from s, h.1, h.2), inr (omega (arith, n, length-drop w.from s)))

  end_read : sum64 w.from (length read) ≡ w.from + length read
  end_read = small w.from (length read) (omega (arith, size-read.1))

  -- an end or a cut, where it is the log's
  open_by_lem : (x : Stand) → (length s ≤ w.from + k → Says s w.records w.at x) → Walked s (open_by w (length read) x)
  unfolding open_by
  open_by_lem x f = by (leb w.size (sum64 w.from (length read))) refl
    where
      elsewhere : (t : Bool) → Walked s (cond t (standing w stand.Short) (on_piece w))
      elsewhere true = (h.0, h.1, h.2, h.3, h.4, tt)
      elsewhere false = (h.0, omega arith, h.2, h.3, h.4, tt)

      by : (t : Bool) → leb w.size (sum64 w.from (length read)) ≡ t → Walked s (cond t (standing w x) (cond (eqb w.at w.from) (standing w stand.Short) (on_piece w)))
      by true e =
          let le : w.size ≤ sum64 w.from (length read) = leb-true w.size (sum64 w.from (length read)) e in
          (h.0, h.1, h.2, h.3, h.4, f (omega (arith, le, end_read, size-read.0, h.0)))
      by false e = elsewhere (eqb w.at w.from)

  kept_record : (e : Entry) → found_at s w.at ≡ found.Record (moved_entry w.from e) → Sits s w.at (found.Record (moved_entry w.from e))
      → Walked s (passed_by w (length read) (seen.Record e.next))
  unfolding scan_of
  kept_record e q g =
      let sum : sum64 w.from e.next ≡ w.from + e.next = small w.from e.next (omega (arith, g.1)) in
      let one : sum64 w.records 1 ≡ w.records + 1 = small w.records 1 (omega (arith, g.0, g.1, h.3)) in (
        h.0,
        omega (arith, sum),
        omega (arith, sum, g.1),
        omega (arith, sum, one, g.0, h.3),
        ap₂ (λ (n a : ℕ). scan_of n (rest_of s a)) one sum ∙ rest-by (found.Record (moved_entry w.from e)) q,
        tt,
      )

  kept_by : (x : Found) → found_at read (place_in w) ≡ x → Walked s (passed_by w (length read) (seen_of x))
  kept_by (found.Record e) q = let y = shown (found.Record e) q (inl refl) in kept_record e y.0 y.1
  kept_by found.End q = open_by_lem stand.End (λ le. let y = shown found.End q (inr le) in says-end y.0 y.1)
  kept_by (found.Cut b) q = open_by_lem stand.Cut (λ le. let y = shown (found.Cut b) q (inr le) in says-cut (w.from + b) y.0 y.1)
  kept_by (found.Refused why b) q = let y = shown (found.Refused why b) q (inl refl) in (h.0, h.1, h.2, h.3, h.4, says-bad why (w.from + b) y.0 y.1)

  -- what a piece leaves open at its first byte ends the log
  reaches : w.at ≡ w.from → (x : Found) → found_at read (place_in w) ≡ x → longest_record ≤ k → is_firm x ≡ false → length s ≤ w.from + k
  reaches first x q le loose =
      let none : place_in w ≡ 0 = omega (arith, first) in
      let shows : found_at read 0 ≡ x = subst (λ (i : ℕ). found_at read i ≡ x) none q in
      ⊎_elim (λ g. absurd (true≢false (sym g ∙ ap is_firm shows ∙ loose))) (λ g. g) (enough s w.from k 0 le)

  open-long : (x : Stand) → is_short x ≡ false → (w.at ≡ w.from → length s ≤ w.from + k) → is_short (open_by w (length read) x).stand ≡ false
  unfolding open_by
  open-long x n f = by (leb w.size (sum64 w.from (length read))) refl
    where
      elsewhere : (t : Bool) → eqb w.at w.from ≡ t → sum64 w.from (length read) < w.size → is_short (cond t (standing w stand.Short) (on_piece w)).stand ≡ false
      elsewhere true e lt =
          let le : length s ≤ w.from + k = f (eqb-true w.at w.from e) in
          absurd (⊎_elim (λ g. omega (arith, end_read, g, h.0)) (λ g. omega (arith, end_read, g, h.0)) size-read.2)
      elsewhere false e lt = refl

      by : (t : Bool) → leb w.size (sum64 w.from (length read)) ≡ t → is_short (cond t (standing w x) (cond (eqb w.at w.from) (standing w stand.Short) (on_piece w))).stand ≡ false
      by true e = n
      by false e = elsewhere (eqb w.at w.from) refl (leb-false w.size (sum64 w.from (length read)) e)

  goes_by : (x : Found) → found_at read (place_in w) ≡ x → longest_record ≤ k → is_short (passed_by w (length read) (seen_of x)).stand ≡ false
  goes_by (found.Record e) q le = refl
  goes_by found.End q le = open-long stand.End refl (λ first. reaches first found.End q le refl)
  goes_by (found.Cut b) q le = open-long stand.Cut refl (λ first. reaches first (found.Cut b) q le refl)
  goes_by (found.Refused why b) q le = refl

  -- a piece with room for a whole record is not too short: the walk goes on, or is at the log's end
  pub goes_on : longest_record ≤ k → is_short (step_of w read).walk.stand ≡ false
  goes_on le = goes_by (found_at read (place_in w)) refl le

  -- one step over a piece of the log
  pub kept : Walked s (step_of w read).walk
  kept = kept_by (found_at read (place_in w)) refl

-- ---- any number of steps
pub begins : (s : List ℕ) → Walked s (start_of (length s))
begins s = (refl, omega arith, omega arith, omega arith, refl, tt)

keeps : (s ks : List ℕ) (w : Walk) → length s < 2 ^ 64 → Walked s w → Walked s (over s ks w)
unfolding over
keeps s [] w fits h = h
keeps s (k ∷ ks) w fits h = keeps s ks (step_of w (piece_of s w.from k)).walk fits (kept s fits k w h)

-- whatever pieces of a log a walk is handed, it says of the log what `scan_log` does
pub walk : (s ks : List ℕ) → length s < 2 ^ 64 → Walked s (over s ks (start_of (length s)))
walk s ks fits = keeps s ks (start_of (length s)) fits (begins s)

-- what stands before the byte that an ended walk tells is what the log's records write, and nothing else
pub left : (s : List ℕ) (w : Walk) (x : Scan) → Bytes s → Ended s w.at x → take w.at s ≡ log_bytes (records_in (log_of s))
left s w x b e = ap (λ (a : ℕ). take a s) (sym e.1) ∙ (log_exact s b).1
