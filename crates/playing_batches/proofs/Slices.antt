-- A log fed by the batch has the lines of its records fed singly, however it is cut into slices of whole records.
use Rattle.std.specs.Prelude.{Ok, Err}
use Rattle.std.proofs.Common.{◌≡◌, ℕ, zero, suc, ◌+◌, ◌^◌, ◌<◌, ◌≤◌, Bool, true, false, cond, ltb, leb, List, [], ◌∷◌, ◌++◌, length, drop, sym, refl, ap, ◌∙◌, subst, ap₂, inl, true≢false, append_assoc, add-zero, mod-eq_of_lt, zero-add, arith, length-drop, length-take-le, take_all, leb-false, leb-true}
use mathlib.Core.Option.{Option, none, some}
use lib.Seq.{take-append_seam}
use Rattle.refusals.specs.declared.Refusal.{Refusal}
use Rattle.log_records.specs.declared.RecordError.TheVariants.{Cut, Bad}
use Rattle.log_records.specs.declared.Found.TheVariants as found
use Rattle.log_records.specs.Record.{Rec}
use Rattle.log_records.specs.Reading.{Taken, record_at, placed, found_at, Log, onward, log_of, records_in}
use Rattle.log_records.specs.Pieces.{piece_of, moved_entry, moved, is_firm}
use Rattle.log_records.proofs.Entries.{entry_lies}
use Rattle.log_records.proofs.Pieces.{in_pieces, same_record}
use Rattle.log_records.proofs.Logs.{turn_end}
use Rattle.log_read.proofs.Scans.{log_at, unroll, found_turn}
use Rattle.watch_rules.specs.declared.Table.{Table}
use Rattle.watch_rules.specs.Table.{empty_table}
use Rattle.batch.specs.batch_rules.specs.Batch.{is_whole, why_batch}
use Rattle.batch.specs.batch_rules.proofs.Laws.{by_why, few_records}
use Rattle.text_pen.specs.Pens.{text_of}
use Rattle.playing_nights.specs.declared.Course.{Course}
use Rattle.playing_nights.specs.declared.Course.TheVariants as course
use Rattle.playing_nights.specs.declared.Replay.{Replay}
use Rattle.playing_nights.specs.Fed.{fed_with, line_for, lines_from}
use Rattle.playing_nights.specs.Call.{fresh, next_count}
use Rattle.playing_nights.specs.Night.{Wanted, Ready, ready, stopped, prepared_from, night_of, set_ups_from}
use Rattle.playing_nights.proofs.Nights.{Stands, set_ups}
use Rattle.playing_batches.specs.declared.Unwritten.{Unwritten}
use Rattle.playing_batches.specs.declared.Unwritten.TheVariants.{SetUp, Refused}
use Rattle.playing_batches.specs.Batched.{fed_one, fed_on, lines_on, room_for, why_of, on_course, why_not, batched_by, lines_by, batched_of, lines_of}
use Rattle.playing_batches.specs.Slices.{Slice, size_of, behind, on_written, in_slices}

-- ---- records in front of records

lines_append : (xs ys : List Rec) (r : Replay) → lines_on r (xs ++ ys) ≡ lines_on r xs ++ lines_on (fed_on r xs) ys
unfolding lines_on fed_on
lines_append [] ys r = refl
lines_append (x ∷ xs) ys r = ap (λ (ls : List (List ℕ)). line_for r.table (next_count r.count) x ∷ ls) (lines_append xs ys (fed_one r x))

text_append : (vs ws : List (List ℕ)) → text_of (vs ++ ws) ≡ text_of vs ++ text_of ws
unfolding text_of
text_append [] ws = refl
text_append (v ∷ vs) ws = ap (λ (l : List ℕ). v ++ l) (text_append vs ws) ∙ sym (append_assoc v (text_of vs) (text_of ws))

-- below a count of 2^64 the lines are those of playing_nights
pub counted : (xs : List Rec) (r : Replay) → r.count + length xs < 2 ^ 64 → lines_on r xs ≡ lines_from r.table r.count xs
unfolding lines_on lines_from
counted [] r h = refl
counted (x ∷ xs) r h =
    let one : next_count r.count ≡ r.count + 1 = mod-eq_of_lt (omega arith) in
    ap₂ (λ (n : ℕ) (ls : List (List ℕ)). line_for r.table n x ∷ ls) one (counted xs (fed_one r x) (omega (arith, one)))
    ∙ ap (λ (n : ℕ). line_for r.table (r.count + 1) x ∷ lines_from (fed_with r.table x).table n xs) one

-- ---- a slice of whole records, from byte a of the log s on

module _ (s : List ℕ) (a k : ℕ) where
  abbrev v : List ℕ
  v = piece_of s a k

  differ : {A : Type 0} → false ≡ true → A
  differ e = absurd (true≢false (sym e))

  -- the records behind the slice
  abbrev later : List Rec
  later = records_in (log_at s (a + length v))

  abbrev InFront : ℕ → Log → Type 0
  InFront i l = records_in (log_at s (a + i)) ≡ records_in l ++ later

  -- what stands at byte i decides
  step : (i : ℕ) (x : Taken) → found_at v i ≡ placed i x → is_whole (onward v (log_at v) (placed i x)) ≡ true
      → ((j : ℕ) → i < j → j ≤ length v → is_whole (log_at v j) ≡ true → InFront j (log_at v j)) → InFront i (onward v (log_at v) (placed i x))
  unfolding is_whole records_in
  step i (Ok e) here w go =
      let l = entry_lies v i e here in
      let there : found_at s (a + i) ≡ found.Record (moved_entry a e) = in_pieces s a k i (inl (ap is_firm here)) ∙ ap (moved a) here in
      ap records_in (found_turn s (a + i) ∙ ap (onward s (log_at s)) there)
      ∙ ap₂ (λ (x : Rec) (xs : List Rec). x ∷ xs) (same_record s a k i e here) (go e.next l.1 l.2 w)
  step i (Err Cut) here w go = differ w
  step i (Err (Bad x)) here w go = differ w

  past : (i : ℕ) → i ≤ length v → length v ≤ i → InFront i (log_at v i)
  unfolding records_in
  past i le ge =
      let e : i ≡ length v = omega arith in
      ap (λ (j : ℕ). records_in (log_at s (a + j))) e ∙ sym (ap (λ (l : Log). records_in l ++ later) (turn_end (length v) v i ge))

  from : (m i : ℕ) → length v ≤ i + m → i ≤ length v → is_whole (log_at v i) ≡ true → InFront i (log_at v i)
  from zero i low le w = past i le (omega arith)
  from (suc m) i low le w = go (leb (length v) i) refl (λ j lt. from m j (omega arith))
    where
      go : (b : Bool) → leb (length v) i ≡ b → ((j : ℕ) → i < j → j ≤ length v → is_whole (log_at v j) ≡ true → InFront j (log_at v j)) → InFront i (log_at v i)
      go true e ih = past i le (leb-true (length v) i e)
      go false e ih =
          let lt : i < length v = leb-false (length v) i e in
          let u = unroll v i (record_at v i) lt refl in
          subst (InFront i) (sym u) (step i (record_at v i) (rw e) (subst (λ (l : Log). is_whole l ≡ true) u w) ih)

  -- the log goes on behind a slice, also behind one that asks for more bytes than there are
  seam : (b : Bool) → leb k (length (drop a s)) ≡ b → later ≡ records_in (log_at s (a + k))
  seam true e = ap (λ (n : ℕ). records_in (log_at s (a + n))) (length-take-le k (drop a s) (leb-true k (length (drop a s)) e))
  seam false e =
      let short : length (drop a s) < k = leb-false k (length (drop a s)) e in
      let all : length v ≡ length (drop a s) = ap length (take_all k (drop a s) (omega arith)) in
      ap records_in (turn_end (length s) s (a + length v) (omega (arith, length-drop a s)) ∙ sym (turn_end (length s) s (a + k) (omega (arith, length-drop a s))))

  -- the log's records from byte a on: those of the slice, and those behind it
  pub slice_records : is_whole (log_of (piece_of s a k)) ≡ true → records_in (log_at s a) ≡ records_in (log_of (piece_of s a k)) ++ records_in (log_at s (a + k))
  slice_records w =
      ap (λ (n : ℕ). records_in (log_at s n)) (sym (add-zero a)) ∙ from (length v) 0 (omega arith) (omega arith) w
      ∙ ap (λ (xs : List Rec). records_in (log_of v) ++ xs) (seam (leb k (length (drop a s))) refl)

-- ---- one call

module _ (r : Replay) (s : List ℕ) (places room : ℕ) where
  on-why : (P : Option Unwritten → Type 0) → (is_whole (log_of s) ≡ true → P none) → ((n : ℕ) → P (some (Refused n))) → P (why_of (why_batch s places))
  on-why P lines number = by_why s places (λ o. P (why_of o)) (λ l. number 22) (λ b. number 23) (λ n. number 24) (λ k. lines k.1)

  -- lines are written only of whole records
  by_written : (P : Option Unwritten → Type 0) → (is_whole (log_of s) ≡ true → P none) → ((n : ℕ) → P (some (Refused n))) → ((w : Refusal) → P (some (SetUp w))) → P (why_not r s places room)
  unfolding why_not
  by_written P lines number set_up = go (ltb room (room_for s)) r.course
    where
      go : (b : Bool) (c : Course) → P (cond b (some (Refused 8)) (on_course c (why_of (why_batch s places))))
      go true c = number 8
      go false course.SetUps = on-why P lines number
      go false course.Records = on-why P lines number
      go false (course.Refused w) = set_up w

in_behind : (front rest text : List ℕ) (o : Option (List ℕ)) → ((more : List ℕ) → o ≡ some more → more ≡ rest) → behind front o ≡ some text → text ≡ front ++ rest
in_behind front rest text (some more) ih e = let z : front ++ more ≡ text = cc in sym z ∙ ap (λ (l : List ℕ). front ++ l) (ih more refl)
in_behind front rest text none ih e = cc

-- ---- call after call

-- the slice c at byte `at`, and those behind it
module _ (c : Slice) (cs : List Slice) (r : Replay) (s : List ℕ) (at : ℕ) (text : List ℕ) where
  abbrev slice : List ℕ
  slice = piece_of s at c.0

  abbrev xs : List Rec
  xs = records_in (log_of slice)

  abbrev told : List ℕ
  told = text_of (lines_on r xs)

  abbrev Gives : Option Unwritten → Type 0
  Gives o = on_written (lines_by o r xs c.2) (in_slices cs (batched_by o r xs).replay s (at + c.0)) (batched_by o r xs).answer ≡ some text
      → text ≡ text_of (lines_on r (records_in (log_at s at)))

  all : is_whole (log_of slice) ≡ true → text_of (lines_on r (records_in (log_at s at))) ≡ told ++ text_of (lines_on (fed_on r xs) (records_in (log_at s (at + c.0))))
  all w =
      ap (λ (ys : List Rec). text_of (lines_on r ys)) (slice_records s at c.0 w)
      ∙ ap text_of (lines_append xs (records_in (log_at s (at + c.0))) r) ∙ text_append (lines_on r xs) _

  on-from : ((q : Replay) (more : List ℕ) → in_slices cs q s (at + c.0) ≡ some more → more ≡ text_of (lines_on q (records_in (log_at s (at + c.0)))))
      → in_slices (c ∷ cs) r s at ≡ some text → text ≡ text_of (lines_on r (records_in (log_at s at)))
  unfolding in_slices batched_of lines_of
  on-from ih =
      by_written r slice c.1 (length c.2) Gives
      (λ w h. in_behind told _ text (in_slices cs (fed_on r xs) s (at + c.0)) (λ more g. ih (fed_on r xs) more g) (ap (λ (l : List ℕ). behind l (in_slices cs (fed_on r xs) s (at + c.0))) (sym (take-append_seam told (drop (length told) c.2))) ∙ h) ∙ sym (all w))
      (λ n h. cc) (λ w h. cc)

  -- a replay that a set-up ended has no lines
  abbrev Stops : Option Unwritten → Type 0
  Stops o = on_written (lines_by o r xs c.2) (in_slices cs (batched_by o r xs).replay s (at + c.0)) (batched_by o r xs).answer ≡ some text → text ≡ []

  stops : (w : Refusal) (b : Bool) (k : Course) → k ≡ course.Refused w → Stops (cond b (some (Refused 8)) (on_course k (why_of (why_batch slice c.1))))
  stops w true k e h = cc
  stops w false course.SetUps e h = cc
  stops w false course.Records e h = cc
  stops w false (course.Refused v) e h = cc

  stopped-here : (w : Refusal) → r.course ≡ course.Refused w → in_slices (c ∷ cs) r s at ≡ some text → text ≡ []
  unfolding in_slices batched_of lines_of why_not
  stopped-here w k = stops w (ltb (length c.2) (room_for slice)) r.course k

slices_at : (cs : List Slice) (r : Replay) (s : List ℕ) (at : ℕ) (text : List ℕ) → in_slices cs r s at ≡ some text → records_in (log_at s (at + size_of cs)) ≡ []
    → text ≡ text_of (lines_on r (records_in (log_at s at)))
unfolding in_slices lines_on text_of
slices_at [] r s at text e none_left =
    let z : text ≡ [] = cc in
    z ∙ sym (ap (λ (xs : List Rec). text_of (lines_on r xs)) (ap (λ (n : ℕ). records_in (log_at s n)) (sym (add-zero at)) ∙ none_left))
slices_at (c ∷ cs) r s at text e none_left =
    let same : at + c.0 + size_of cs ≡ at + (c.0 + size_of cs) = omega arith in
    on-from c cs r s at text (λ q more h. slices_at cs q s (at + c.0) more h (ap (λ (n : ℕ). records_in (log_at s n)) same ∙ none_left)) e

-- slices one behind the other to a byte from which on the log has no record: where each call writes its lines, they are those of the records fed singly
pub batched_lines : (cs : List Slice) (r : Replay) (s text : List ℕ) → r.count + length s < 2 ^ 64 → in_slices cs r s 0 ≡ some text → records_in (log_at s (size_of cs)) ≡ []
    → text ≡ text_of (lines_from r.table r.count (records_in (log_of s)))
batched_lines cs r s text few e none_left =
    slices_at cs r s 0 text e (ap (λ (n : ℕ). records_in (log_at s n)) (zero-add (size_of cs)) ∙ none_left)
    ∙ ap text_of (counted (records_in (log_of s)) r (omega (arith, few_records s)))

stopped_text : (cs : List Slice) (r : Replay) (s : List ℕ) (at : ℕ) (text : List ℕ) (w : Refusal) → r.course ≡ course.Refused w → in_slices cs r s at ≡ some text → text ≡ []
unfolding in_slices
stopped_text [] r s at text w k e = cc
stopped_text (c ∷ cs) r s at text w k e = stopped-here c cs r s at text w k e

-- and of a whole night: its set-ups, and its log by the batch
pub batched_night : (cs : List Slice) (us : List Wanted) (s text : List ℕ) → length s < 2 ^ 64 → in_slices cs (set_ups_from fresh us) s 0 ≡ some text → records_in (log_at s (size_of cs)) ≡ []
    → text ≡ text_of (night_of (prepared_from empty_table us) (log_of s)).lines
unfolding text_of
batched_night cs us s text few e none_left = go (prepared_from empty_table us) (set_ups us empty_table)
  where
    go : (x : Ready Table) → Stands x (set_ups_from fresh us) → text ≡ text_of (night_of x (log_of s)).lines
    go (ready t) h = batched_lines cs (record { table = t; count = 0; course = course.SetUps }) s text (omega arith) (sym (ap (λ (r : Replay). in_slices cs r s 0) h) ∙ e) none_left
    go (stopped w) h = stopped_text cs (set_ups_from fresh us) s 0 text w h e
