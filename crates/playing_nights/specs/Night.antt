-- A whole night: set-ups in their order, and call after call until one answers no line; and what that comes to.
use Rattle.std.specs.Prelude.{ℕ, zero, suc, List, [], ◌∷◌, length, take, Ok, Err}
use Rattle.refusals.specs.declared.Refusal.{Refusal}
use Rattle.rule_limits.specs.declared.PlainLimits.{PlainLimits}
use Rattle.log_records.specs.Reading.{Log, ends, then, clean, piece, refused, records_in}
use Rattle.watch_rules.specs.declared.Table.{Table}
use Rattle.watch_rules.specs.Setting.{Setting}
use Rattle.watch_rules.specs.Table.{set_up_of}
use Rattle.watch_rules.specs.Steps.{Steps, set_up01, set_up_steps}
use Rattle.playing_nights.specs.declared.Replay.{Replay}
use Rattle.playing_nights.specs.declared.Played.{Played}
use Rattle.playing_nights.specs.declared.Played.TheVariants.{Line, End, Cut, Bad, SetUp, Short}
use Rattle.playing_nights.specs.Fed.{lines_from, lines01_from}
use Rattle.playing_nights.specs.Call.{fresh, set_up_in, next_line, buffer_after}

-- ---- set-ups

-- post, channel and limits
abbrev pub Wanted : Type 0
Wanted = ℕ × ℕ × PlainLimits

-- what set-ups leave: a state, or the refusal of the first that was refused, after which none counts
pub data Ready (A : Type 0) : Type 0 where
  ready : A → Ready A
  stopped : Refusal → Ready A

abbrev pub on_setting : {A : Type 0} → Setting → Ready A → Ready A
on_setting (Ok tt) x = x
on_setting (Err w) x = stopped w

unfoldable pub prepared_from : Table → List Wanted → Ready Table
prepared_from t [] = ready t
prepared_from t (u ∷ us) = on_setting (set_up_of t u.0 u.1 u.2).answer (prepared_from (set_up_of t u.0 u.1 u.2).table us)

-- by 01's rules, read afresh over the accepted steps
unfoldable pub prepared01 : Steps → List Wanted → Ready Steps
prepared01 s [] = ready s
prepared01 s (u ∷ us) = on_setting (set_up01 s u.0 u.1 u.2) (prepared01 (set_up_steps s u.0 u.1 u.2) us)

-- ---- a night

-- its lines, and the answer that ended it
pub record Night : Type 0 where
  pub lines : List (List ℕ)
  pub ending : Played

-- "A malformed record ends the replay with the log's refusal and the byte where that record began; a cut piece ends it as cut, with its byte."
unfoldable pub ending_of : Log → Played
ending_of (ends clean) = End
ending_of (ends (piece at)) = Cut at
ending_of (ends (refused w at)) = Bad w at
ending_of (then x l) = ending_of l

-- "a refused one ends the replay with its number and no line"
abbrev pub night_of : Ready Table → Log → Night
night_of (ready t) l = record { lines = lines_from t 0 (records_in l); ending = ending_of l }
night_of (stopped w) l = record { lines = []; ending = SetUp w }

abbrev pub night01 : Ready Steps → Log → Night
night01 (ready s) l = record { lines = lines01_from s 0 (records_in l); ending = ending_of l }
night01 (stopped w) l = record { lines = []; ending = SetUp w }

-- ---- the calls

unfoldable pub set_ups_from : Replay → List Wanted → Replay
set_ups_from r [] = r
set_ups_from r (u ∷ us) = set_ups_from (set_up_in r u.0 u.1 u.2).replay us

abbrev pub stop : Played → Night
stop p = record { lines = []; ending = p }

-- on from an answer: a line is the bytes that it tells of, at the front of the buffer
abbrev pub on_played : List ℕ → (ℕ → Night) → Played → Night
on_played out go (Line bytes next) = record { lines = take bytes out ∷ (go next).lines; ending = (go next).ending }
on_played out go End = stop End
on_played out go (Cut at) = stop (Cut at)
on_played out go (Bad w at) = stop (Bad w at)
on_played out go (SetUp w) = stop (SetUp w)
on_played out go Short = stop Short

-- at most k calls, the first for byte `at`; each gets the buffer that the one before left
unfoldable pub calls_from : ℕ → Replay → List ℕ → ℕ → List ℕ → Night
calls_from zero r s at out = stop End
calls_from (suc k) r s at out =
    on_played (buffer_after r s at out) (λ next. calls_from k (next_line r s at (length out)).replay s next (buffer_after r s at out)) (next_line r s at (length out)).answer

-- set-ups, then the log from its first byte: a record takes a byte at least, so there are no more records than bytes, and one call more ends it
abbrev pub run_of : List Wanted → List ℕ → List ℕ → Night
run_of us s out = calls_from (suc (length s)) (set_ups_from fresh us) s 0 out
