-- A night's lines are those of its records fed singly to the watch, for every log and every list of set-ups.
use Rattle.std.specs.Prelude.{Ok, Err}
use mathlib.Core.Path.{◌≡◌, refl, sym, ap, ◌∙◌}
use mathlib.Core.List.{List, [], ◌∷◌}
use Prim.Native.Nat.{ℕ, zero, suc, ◌+◌, ◌^◌, ◌≤◌, ◌<◌}
use native.Mathlib.Nat.{mod-eq_of_lt}
use native.Mathlib.Omega.{arith}
use lib.ListN.{length, take, drop, length-append, length-drop}
use lib.Seq.{take-append_seam, length-take-le}
use borrow.Author.Tests.{le-leb}
use Rattle.refusals.specs.declared.Refusal.{Refusal}
use Rattle.log_records.specs.declared.Entry.{Entry}
use Rattle.log_records.specs.declared.Found.{Found}
use Rattle.log_records.specs.declared.Found.TheVariants as found
use Rattle.log_records.specs.Record.{Rec, AllLoggable, log_bytes}
use Rattle.log_records.specs.Reading.{rec_of, found_at, Log, onward, read_from, log_of, wholly, records_in}
use Rattle.log_records.proofs.Logs.{log_cut}
use Rattle.watch_rules.specs.declared.Table.{Table}
use Rattle.watch_rules.specs.Setting.{Setting}
use Rattle.watch_rules.specs.Table.{empty_table, set_up_of}
use Rattle.playing_nights.specs.declared.Course.{Course}
use Rattle.playing_nights.specs.declared.Course.TheVariants.{SetUps, Records, Refused}
use Rattle.playing_nights.specs.declared.Replay.{Replay}
use Rattle.playing_nights.specs.declared.Played.TheVariants.{End, SetUp}
use Rattle.playing_line.specs.Lines.{line_room, laid}
use Rattle.playing_nights.specs.Fed.{fed_with, line_for, lines_from}
use Rattle.playing_nights.specs.Call.{fresh, course_after, set_up_in, Call, line, other, next_by, buffer_by, next_count, line_call, on_found, on_course, call_of}
use Rattle.playing_nights.specs.Night.{Wanted, Ready, ready, stopped, on_setting, prepared_from, Night, ending_of, night_of, set_ups_from, stop, on_played, calls_from, run_of}
use Rattle.log_records.proofs.Entries.{entry_lies}
use Rattle.playing_nights.proofs.Steps.{call_on}

-- ---- a call, and those behind it

abbrev after : ℕ → Replay → List ℕ → List ℕ → Call → Night
after k r s out x = on_played (buffer_by out x) (λ next. calls_from k (next_by r x).replay s next (buffer_by out x)) (next_by r x).answer

call_is : (k : ℕ) (r : Replay) (s : List ℕ) (at : ℕ) (out : List ℕ) (x : Call) → call_of r s at (length out) ≡ x → calls_from (suc k) r s at out ≡ after k r s out x
unfolding calls_from
call_is k r s at out x e = ap (after k r s out) e

-- ---- records

-- no set-up was refused
abbrev Going : Course → Type 0
Going SetUps = Unit {0}
Going Records = Unit {0}
Going (Refused w) = ⊥

going : (k : Course) (x : Call) → Going k → on_course k x ≡ x
going SetUps x h = refl
going Records x h = refl
going (Refused w) x h = absurd h

found_call : (r : Replay) (s : List ℕ) (at room : ℕ) (f : Found) → Going r.course → line_room ≤ room → found_at s at ≡ f → call_of r s at room ≡ on_found r s f
found_call r s at room f g h e = sym (call_on r s at room r.course h refl) ∙ going r.course (on_found r s (found_at s at)) g ∙ ap (on_found r s) e

-- the lines and the ending of a log of which n records came before
abbrev rest : Table → ℕ → Log → Night
rest t n l = record { lines = lines_from t n (records_in l); ending = ending_of l }

laid_room : (text out : List ℕ) → length out ≤ length (laid text out)
laid_room text out = omega (arith, length-append text (drop (length text) out), length-drop (length text) out)

end_night : (k : ℕ) (r : Replay) (s : List ℕ) (at : ℕ) (out : List ℕ) → Going r.course → line_room ≤ length out → length s ≤ at → calls_from (suc k) r s at out ≡ stop End
end_night k r s at out g h l = call_is k r s at out (other End) (found_call r s at (length out) found.End g h (rw (le-leb (length s) at l)))

line_call_lem : (r : Replay) (s : List ℕ) (e : Entry)
    → line_call r s e
    ≡ line (fed_with r.table (rec_of s e)).answer (line_for r.table (next_count r.count) (rec_of s e)) e.next (record { table = (fed_with r.table (rec_of s e)).table; count = next_count r.count; course = Records })
unfolding line_call
line_call_lem r s e = refl

-- one turn of the log, from the calls for the rest
turn : (k : ℕ) (r : Replay) (s : List ℕ) (at : ℕ) (out : List ℕ) (f : Found) → found_at s at ≡ f → Going r.course → line_room ≤ length out → r.count + suc k < 2 ^ 64
    → ((q : Replay) (next : ℕ) (left : List ℕ) → Going q.course → line_room ≤ length left → at < next → q.count + k < 2 ^ 64
    → calls_from (suc k) q s next left ≡ rest q.table q.count (read_from k s next))
    → calls_from (suc (suc k)) r s at out ≡ rest r.table r.count (onward s (read_from k s) f)
unfolding records_in lines_from ending_of
turn k r s at out (found.Record e) eq g h few go =
    let x : Rec = rec_of s e in
    let n : ℕ = next_count r.count in
    let one : n ≡ r.count + 1 = mod-eq_of_lt (omega arith) in
    let text : List ℕ = line_for r.table n x in
    let q : Replay = record { table = (fed_with r.table x).table; count = n; course = Records } in
    let l : Log = read_from k s e.next in
    let ih : calls_from (suc k) q s e.next (laid text out) ≡ rest q.table n l =
    go q e.next (laid text out) tt (omega (arith, laid_room text out)) (entry_lies s at e eq).1 (omega arith) in
    call_is (suc k) r s at out (line (fed_with r.table x).answer text e.next q) (found_call r s at (length out) (found.Record e) g h eq ∙ line_call_lem r s e)
    ∙ ap (λ (y : Night). record { lines = take (length text) (laid text out) ∷ y.lines; ending = y.ending }) ih
    ∙ ap (λ (y : List ℕ). record { lines = y ∷ lines_from q.table n (records_in l); ending = ending_of l }) (take-append_seam text (drop (length text) out))
    ∙ ap (λ (m : ℕ). record { lines = line_for r.table m x ∷ lines_from q.table m (records_in l); ending = ending_of l }) one
turn k r s at out found.End eq g h few go = call_is (suc k) r s at out (other End) (found_call r s at (length out) found.End g h eq)
turn k r s at out (found.Cut b) eq g h few go = call_is (suc k) r s at out _ (found_call r s at (length out) (found.Cut b) g h eq)
turn k r s at out (found.Refused w b) eq g h few go = call_is (suc k) r s at out _ (found_call r s at (length out) (found.Refused w b) g h eq)

calls : (k : ℕ) (r : Replay) (s : List ℕ) (at : ℕ) (out : List ℕ) → Going r.course → line_room ≤ length out → length s ≤ at + k → r.count + k < 2 ^ 64
    → calls_from (suc k) r s at out ≡ rest r.table r.count (read_from k s at)
unfolding read_from records_in lines_from ending_of
calls zero r s at out g h l few = end_night zero r s at out g h (omega arith)
calls (suc k) r s at out g h l few =
    turn k r s at out (found_at s at) refl g h few (λ q next left g h lt few. calls k q s next left g h (omega arith) few)

-- ---- set-ups

-- what set-ups left, and the replay then
abbrev pub Stands : Ready Table → Replay → Type 0
Stands (ready t) r = r ≡ record { table = t; count = 0; course = SetUps }
Stands (stopped w) r = r.course ≡ Refused w

-- a replay that was ended stays as it is
ended : (us : List Wanted) (r : Replay) (w : Refusal) → r.course ≡ Refused w → (set_ups_from r us).course ≡ Refused w
unfolding set_ups_from set_up_in
ended [] r w e = e
ended (u ∷ us) r w e = ended us _ w (rw e)

pub set_ups : (us : List Wanted) (t : Table) → Stands (prepared_from t us) (set_ups_from (record { table = t; count = 0; course = SetUps }) us)
unfolding set_ups_from prepared_from set_up_in
set_ups [] t = refl
set_ups (u ∷ us) t =
    go (set_up_of t u.0 u.1 u.2).answer (set_ups us (set_up_of t u.0 u.1 u.2).table)
  where
    go : (a : Setting) → Stands (prepared_from (set_up_of t u.0 u.1 u.2).table us) (set_ups_from (record { table = (set_up_of t u.0 u.1 u.2).table; count = 0; course = SetUps }) us)
        → Stands (on_setting a (prepared_from (set_up_of t u.0 u.1 u.2).table us)) (set_ups_from (record { table = (set_up_of t u.0 u.1 u.2).table; count = 0; course = course_after a }) us)
    go (Ok tt) h = h
    go (Err w) h = ended us _ w refl

-- ---- a whole night

stopped_night : (k : ℕ) (r : Replay) (s out : List ℕ) (w : Refusal) → r.course ≡ Refused w → line_room ≤ length out → calls_from (suc k) r s 0 out ≡ stop (SetUp w)
stopped_night k r s out w e h = call_is k r s 0 out (other (SetUp w)) (sym (call_on r s 0 (length out) (Refused w) h e))

-- every lent log has fewer than 2^64 bytes
pub lines : (us : List Wanted) (s out : List ℕ) → line_room ≤ length out → length s < 2 ^ 64 → run_of us s out ≡ night_of (prepared_from empty_table us) (log_of s)
lines us s out h few = go (prepared_from empty_table us) (set_ups us empty_table)
  where
    go : (x : Ready Table) → Stands x (set_ups_from fresh us) → run_of us s out ≡ night_of x (log_of s)
    go (ready t) e = ap (λ (r : Replay). calls_from (suc (length s)) r s 0 out) e ∙ calls (length s) (record { table = t; count = 0; course = SetUps }) s 0 out tt h (omega arith) (omega arith)
    go (stopped w) e = stopped_night (length s) (set_ups_from fresh us) s out w e h

-- "a replay of a log cut after any byte writes exactly the lines of the records wholly before the cut"
pub lines_cut : (us : List Wanted) (rs : List Rec) (i : ℕ) (out : List ℕ) → AllLoggable rs → i ≤ length (log_bytes rs) → i < 2 ^ 64 → line_room ≤ length out
    → run_of us (take i (log_bytes rs)) out ≡ night_of (prepared_from empty_table us) (wholly 0 i rs)
lines_cut us rs i out can le few h =
    lines us (take i (log_bytes rs)) out h (omega (arith, length-take-le i (log_bytes rs) le)) ∙ ap (night_of (prepared_from empty_table us)) (log_cut rs i can le)
