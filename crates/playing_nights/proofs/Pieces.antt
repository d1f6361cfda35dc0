-- A call over a piece of the log answers as over the whole log, since the piece shows the same record at the same byte.
use Prim.Native.Nat.{ℕ, ◌+◌, ◌≤◌}
use mathlib.Core.Path.{◌≡◌, refl, sym, ap, ◌∙◌}
use mathlib.Core.Logic.{◌⊎◌, inl, inr, ⊎_elim}
use mathlib.Core.Bool.{Bool, true, false, cond}
use mathlib.Core.List.{List}
use lib.Dec.{ltb}
use lib.ListN.{length}
use Rattle.log_records.specs.declared.Found.{Found}
use Rattle.log_records.specs.declared.Found.TheVariants as found
use Rattle.log_records.specs.Record.{Rec, longest_record}
use Rattle.log_records.specs.Reading.{found_at}
use Rattle.log_records.specs.Pieces.{piece_of, moved}
use Rattle.log_records.specs.Pieces as log
use Rattle.log_records.proofs.Pieces.{in_pieces, same_record}
use Rattle.log_records.proofs.Cuts.{enough}
use Rattle.playing_nights.specs.declared.Course.{Course}
use Rattle.playing_nights.specs.declared.Course.TheVariants.{SetUps, Records, Refused}
use Rattle.playing_nights.specs.declared.Replay.{Replay}
use Rattle.playing_nights.specs.declared.Played.TheVariants.{Short}
use Rattle.playing_line.specs.Lines.{line_room}
use Rattle.playing_nights.specs.Fed.{fed_with, line_for}
use Rattle.playing_nights.specs.Call.{Call, line, other, next_by, buffer_by, next_count, line_call, on_found, on_course, call_of, next_line, buffer_after}
use Rattle.playing_nights.specs.Pieces.{moved_answer, moved_next, is_firm}

abbrev moved_call : ℕ → Call → Call
moved_call a (line h text next q) = line h text (a + next) q
moved_call a (other p) = other (moved_answer a p)

next_moved : (r : Replay) (a : ℕ) (x : Call) → next_by r (moved_call a x) ≡ moved_next a (next_by r x)
next_moved r a (line h text next q) = refl
next_moved r a (other p) = refl

buffer_moved : (out : List ℕ) (a : ℕ) (x : Call) → buffer_by out (moved_call a x) ≡ buffer_by out x
buffer_moved out a (line h text next q) = refl
buffer_moved out a (other p) = refl

-- what was found decides whether the answer is firm
firm_found : (r : Replay) (v : List ℕ) (f : Found) → is_firm (next_by r (on_found r v f)).answer ≡ log.is_firm f
unfolding line_call
firm_found r v (found.Record e) = refl
firm_found r v found.End = refl
firm_found r v (found.Cut b) = refl
firm_found r v (found.Refused w b) = refl

module _ (r : Replay) (s : List ℕ) (a k i : ℕ) where
  abbrev p : List ℕ
  p = piece_of s a k

  found-moved : (f : Found) → found_at p i ≡ f → on_found r s (moved a f) ≡ moved_call a (on_found r p f)
  unfolding line_call
  found-moved (found.Record e) h =
      ap (λ (x : Rec). line (fed_with r.table x).answer (line_for r.table (next_count r.count) x) (a + e.next) (record { table = (fed_with r.table x).table; count = next_count r.count; course = Records }))
      (same_record s a k i e h)
  found-moved found.End h = refl
  found-moved (found.Cut b) h = refl
  found-moved (found.Refused w b) h = refl

  found-same : is_firm (next_by r (on_found r p (found_at p i))).answer ≡ true ⊎ length s ≤ a + k → on_found r s (found_at s (a + i)) ≡ moved_call a (on_found r p (found_at p i))
  found-same h =
      ap (on_found r s) (in_pieces s a k i (⊎_elim (λ e. inl (sym (firm_found r p (found_at p i)) ∙ e)) inr h))
      ∙ found-moved (found_at p i) refl

  call_same : (room : ℕ) → is_firm (next_line r p i room).answer ≡ true ⊎ length s ≤ a + k → call_of r s (a + i) room ≡ moved_call a (call_of r p i room)
  unfolding call_of
  call_same room = go (ltb room line_room) r.course
    where
      go : (t : Bool) (c : Course) → is_firm (next_by r (cond t (other Short) (on_course c (on_found r p (found_at p i))))).answer ≡ true ⊎ length s ≤ a + k
          → cond t (other Short) (on_course c (on_found r s (found_at s (a + i)))) ≡ moved_call a (cond t (other Short) (on_course c (on_found r p (found_at p i))))
      go true c h = refl
      go false SetUps h = found-same h
      go false Records h = found-same h
      go false (Refused w) h = refl

  -- a piece with 20 bytes from the record on leaves nothing open but at the log's end
  pub call_enough : (room : ℕ) → i + longest_record ≤ k → is_firm (next_line r p i room).answer ≡ true ⊎ length s ≤ a + k
  unfolding call_of
  call_enough room le = go (ltb room line_room) r.course
    where
      by-found : is_firm (next_by r (on_found r p (found_at p i))).answer ≡ true ⊎ length s ≤ a + k
      by-found = ⊎_elim (λ e. inl (firm_found r p (found_at p i) ∙ e)) inr (enough s a k i le)

      go : (t : Bool) (c : Course) → is_firm (next_by r (cond t (other Short) (on_course c (on_found r p (found_at p i))))).answer ≡ true ⊎ length s ≤ a + k
      go true c = inl refl
      go false SetUps = by-found
      go false Records = by-found
      go false (Refused w) = inl refl

  -- a firm answer, or any over the log's last piece, is the whole log's, but that its bytes are counted from the piece's first; and the line is the same
  pub line_in_piece : (out : List ℕ) → is_firm (next_line r p i (length out)).answer ≡ true ⊎ length s ≤ a + k
      → (next_line r s (a + i) (length out) ≡ moved_next a (next_line r p i (length out))) × (buffer_after r s (a + i) out ≡ buffer_after r p i out)
  line_in_piece out h =
      let x : Call = call_of r p i (length out) in
      (ap (next_by r) (call_same (length out) h) ∙ next_moved r a x, ap (buffer_by out) (call_same (length out) h) ∙ buffer_moved out a x)
