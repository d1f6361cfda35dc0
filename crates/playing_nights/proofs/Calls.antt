-- What a call and a set-up leave alone, and where a line leads. 02, Req 05: "a line buffer under 40 bytes gets 8 first"; "Set-ups come before the first
-- record".
use Rattle.std.specs.Prelude.{Ok, Err}
use Prim.Native.Nat.{ℕ, ◌≤◌, ◌<◌}
use native.Mathlib.Omega.{arith}
use mathlib.Core.Path.{◌≡◌, refl, sym, ap, ◌∙◌}
use mathlib.Core.Bool.{Bool, true, false, cond, true≢false}
use mathlib.Core.List.{List}
use lib.Dec.{ltb}
use lib.ListN.{length, drop}
use lib.Seq.{drop-append_seam}
use Rattle.rule_limits.specs.declared.PlainLimits.{PlainLimits}
use Rattle.log_records.specs.declared.Entry.{Entry}
use Rattle.log_records.specs.declared.Found.{Found}
use Rattle.log_records.specs.declared.Found.TheVariants as found
use Rattle.log_records.specs.Reading.{rec_of, found_at}
use Rattle.playing_nights.specs.declared.Course.{Course}
use Rattle.playing_nights.specs.declared.Course.TheVariants.{SetUps, Records, Refused}
use Rattle.playing_nights.specs.declared.Replay.{Replay}
use Rattle.playing_nights.specs.declared.Unprepared.TheVariants.{Late}
use Rattle.playing_nights.specs.declared.Played.{Played}
use Rattle.playing_nights.specs.declared.Played.TheVariants.{Line, Short}
use Rattle.playing_line.specs.Lines.{line_room}
use Rattle.playing_nights.specs.Fed.{line_for}
use Rattle.playing_nights.specs.Call.{set_up_in, Call, line, other, next_by, buffer_by, next_count, line_call, on_found, on_course, call_of, next_line, buffer_after}
use Rattle.playing_nights.specs.Answers.{is_line}
use Rattle.log_records.proofs.Entries.{entry_lies}
use Rattle.playing_nights.proofs.Steps.{call_short, set_up_on_lem}

module _ (r : Replay) (s : List ℕ) (at : ℕ) (out : List ℕ) where
  -- before all else, also where a set-up was refused or the log is bad
  pub short_first : length out < line_room → (next_line r s at (length out) ≡ record { replay = r; answer = Short; heard = Ok 0 }) × (buffer_after r s at out ≡ out)
  short_first h =
      let e : call_of r s at (length out) ≡ other Short = sym (call_short r s at (length out) h) in
      (ap (next_by r) e, ap (buffer_by out) e)

  -- every answer but a line leaves replay and buffer as they were
  pub no_line : is_line (next_line r s at (length out)).answer ≡ false → ((next_line r s at (length out)).replay ≡ r) × (buffer_after r s at out ≡ out)
  no_line = go (call_of r s at (length out))
    where
      go : (x : Call) → is_line (next_by r x).answer ≡ false → ((next_by r x).replay ≡ r) × (buffer_by out x ≡ out)
      go (line a text next q) h = absurd (true≢false h)
      go (other p) h = (refl, refl)

  module _ (bytes next : ℕ) (told : (next_line r s at (length out)).answer ≡ Line bytes next) where
    -- behind the line the buffer stays as it was
    pub behind_line : drop bytes (buffer_after r s at out) ≡ drop bytes out
    behind_line = go (call_of r s at (length out)) told
      where
        go : (x : Call) → (next_by r x).answer ≡ Line bytes next → drop bytes (buffer_by out x) ≡ drop bytes out
        go (line a text n q) h = let z : length text ≡ bytes = cc in rw (← z) (drop-append_seam text (drop (length text) out))
        go (other p) h = refl

    -- a line is that of a record at the byte
    pub line_found : (e : Entry) × (found_at s at ≡ found.Record e) × (call_of r s at (length out) ≡ line_call r s e)
    unfolding call_of
    line_found = go (ltb (length out) line_room) r.course told
      where
        never : (p : Played) → is_line p ≡ false → p ≡ Line bytes next → ⊥
        never p e h = true≢false (sym (ap is_line h) ∙ e)

        by-found : (f : Found) → found_at s at ≡ f → (next_by r (on_found r s f)).answer ≡ Line bytes next → (e : Entry) × (found_at s at ≡ found.Record e) × (on_found r s f ≡ line_call r s e)
        by-found (found.Record e) f h = (e, f, refl)
        by-found found.End f h = absurd (never _ refl h)
        by-found (found.Cut b) f h = absurd (never _ refl h)
        by-found (found.Refused w b) f h = absurd (never _ refl h)

        go : (b : Bool) (k : Course) → (next_by r (cond b (other Short) (on_course k (on_found r s (found_at s at))))).answer ≡ Line bytes next
            → (e : Entry) × (found_at s at ≡ found.Record e) × (cond b (other Short) (on_course k (on_found r s (found_at s at))) ≡ line_call r s e)
        go true k h = absurd (never _ refl h)
        go false SetUps h = by-found (found_at s at) refl h
        go false Records h = by-found (found_at s at) refl h
        go false (Refused w) h = absurd (never _ refl h)

    -- the next record begins behind this one, and not behind the log
    pub line_lies : (at < next) × (next ≤ length s)
    unfolding line_call
    line_lies =
        let f = line_found in
        let l = entry_lies s at f.0 f.1 in
        let z : Line (length (line_for r.table (next_count r.count) (rec_of s f.0))) f.0.next ≡ Line bytes next = sym (ap (λ (x : Call). (next_by r x).answer) f.2) ∙ told in
        let n : f.0.next ≡ next = cc in
        (omega (arith, l.1, n), omega (arith, l.2, n))

    -- a line ends the time of set-ups
    pub after_line : (next_line r s at (length out)).replay.course ≡ Records
    unfolding line_call
    after_line = ap (λ (x : Call). (next_by r x).replay.course) line_found.2

    -- and then no set-up changes anything
    pub set_up_late : (i c : ℕ) (lim : PlainLimits) → set_up_in (next_line r s at (length out)).replay i c lim ≡ record { replay = (next_line r s at (length out)).replay; answer = Err Late }
    set_up_late i c lim = sym (set_up_on_lem (next_line r s at (length out)).replay i c lim Records after_line)
