-- One set-up and one call, by the case that holds: what the functions of the code hand together.
use mathlib.Core.Path.{◌≡◌, sym, ap, ap₂, ◌∙◌}
use mathlib.Core.List.{List}
use Prim.Native.Nat.{ℕ, ◌≤◌, ◌<◌}
use lib.ListN.{length}
use borrow.Author.Tests.{lt-ltb, le-ltb}
use Rattle.rule_limits.specs.declared.PlainLimits.{PlainLimits}
use Rattle.log_records.specs.declared.Entry.{Entry}
use Rattle.log_records.specs.Reading.{rec_of, found_at}
use Rattle.watch_rules.specs.Answer.{Fed}
use Rattle.watch_rules.specs.Setting.{Setting, Settled}
use Rattle.watch_rules.specs.Table.{place_of, set_up_of}
use Rattle.playing_nights.specs.declared.Course.{Course}
use Rattle.playing_nights.specs.declared.Course.TheVariants.{Records}
use Rattle.playing_nights.specs.declared.Replay.{Replay}
use Rattle.playing_nights.specs.declared.Played.TheVariants.{Line, Short}
use Rattle.playing_nights.specs.declared.Next.{Next}
use Rattle.playing_line.specs.Lines.{line_room, line_of, laid}
use Rattle.playing_nights.specs.Fed.{fed_with, channel_of, line_for}
use Rattle.playing_nights.specs.Call.{course_after, answered, prepared_by, set_up_on, set_up_in, Call, other, next_by, buffer_by, next_count, line_call, on_found, on_course, call_of}
use Rattle.playing_nights.proofs.Entries.{channel_of_lem}

-- ---- set-ups

pub settled_by : (n : ℕ) (s u : Settled) (a : Setting) → s ≡ u → s.answer ≡ a
    → record { replay = record { table = s.table; count = n; course = course_after a }; answer = answered a } ≡ prepared_by n u
settled_by n s u a e h =
    ap (λ (x : Setting). record { replay = record { table = s.table; count = n; course = course_after x }; answer = answered x }) (sym h) ∙ ap (prepared_by n) e

pub set_up_on_lem : (r : Replay) (i c : ℕ) (lim : PlainLimits) (k : Course) → r.course ≡ k
    → set_up_on k r (prepared_by r.count (set_up_of r.table i c lim)) ≡ set_up_in r i c lim
unfolding set_up_in
set_up_on_lem r i c lim k h = ap (λ (x : Course). set_up_on x r (prepared_by r.count (set_up_of r.table i c lim))) (sym h)

-- ---- calls

-- an answer and a buffer for the same call
pub likewise : (r : Replay) (out : List ℕ) {x : Next} {after : List ℕ} {k l : Call} → k ≡ l → (x ≡ next_by r k) × (after ≡ buffer_by out k) → (x ≡ next_by r l) × (after ≡ buffer_by out l)
likewise r out e h = (h.0 ∙ ap (next_by r) e, h.1 ∙ ap (buffer_by out) e)

module _ (r : Replay) (s : List ℕ) (at room : ℕ) where
  pub call_short : room < line_room → other Short ≡ call_of r s at room
  unfolding call_of
  call_short h = rw (lt-ltb room line_room h)

  pub call_on : (k : Course) → line_room ≤ room → r.course ≡ k → on_course k (on_found r s (found_at s at)) ≡ call_of r s at room
  unfolding call_of
  call_on k h e = rw (le-ltb room line_room h, e)

-- ---- a line

-- the record's line, from what was written and counted
module _ (r : Replay) (s : List ℕ) (e : Entry) (out : List ℕ) {f : Fed} {n i bytes : ℕ} {after : List ℕ} where
  pub line_told : f ≡ fed_with r.table (rec_of s e) → n ≡ next_count r.count → i ≡ place_of r.table.posts e.channel
      → (bytes ≡ length (line_of n i f.answer)) × (after ≡ laid (line_of n i f.answer) out)
      → (record { replay = record { table = f.table; count = n; course = Records }; answer = Line bytes e.next; heard = f.answer } ≡ next_by r (line_call r s e)) × (after ≡ buffer_by out (line_call r s e))
  unfolding line_call
  line_told fed count post h =
      let same : line_of n i f.answer ≡ line_for r.table (next_count r.count) (rec_of s e) =
      ap₂ (λ (m j : ℕ). line_of m j f.answer) count (post ∙ ap (place_of r.table.posts) (sym (channel_of_lem s e)))
      ∙ ap (λ (x : Fed). line_of (next_count r.count) (place_of r.table.posts (channel_of (rec_of s e))) x.answer) fed in
      (rw (h.0, same, fed, count), h.1 ∙ ap (λ (x : List ℕ). laid x out) same)
