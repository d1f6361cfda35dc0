-- 02, Req 12: "the record differs only in its latest time, ages and tallies". What it says of messages and of the session is read off the kept events as they
-- were received, whatever the gaps between them.
use Rattle.std.specs.Prelude.{Some, None}
use Rattle.std.specs.Prelude as std
use Prim.Native.Nat.{ℕ}
use mathlib.Core.Path.{◌≡◌, refl, sym, ap, ◌∙◌}
use mathlib.Core.List.{List, [], ◌∷◌, map}
use mathlib.Core.Bool.{Bool, true, false, cond}
use mathlib.Core.Option.{Option, none, some}
use Rattle.page_table.specs.declared.Interface.TheVariants.{Newer}
use Rattle.page_table.specs.Interfaces.{is_on}
use Rattle.older_build.specs.Built as older
use Rattle.rule_pages.specs.Said.{opening_by}
use Rattle.message_build.specs.Built.{message_of}
use Rattle.rule_limits.specs.declared.PlainLimits.{PlainLimits}
use Rattle.rule_limits.specs.Sensor.{limits_of}
use Rattle.rules.specs.declared.Dated.{Dated}
use Rattle.rules.specs.declared.Dated.TheVariants as dated
use Rattle.rules.specs.SessionPart.{SessionPart}
use Rattle.rules.specs.declared.Record.{Record}
use Rattle.rules.specs.History.{History, Said, newest, opening, count_from}
use Rattle.rules.specs.Times.{received_of, latest_time, age_of}
use Rattle.rules.specs.Rules.{session_status, session_control, session_stop}
use Rattle.rules.specs.Record.{place_count, dated_at, dated_of, at_place, part_of, kept_shown, record_as_of, record_of}
use Rattle.watch_clock.specs.Later.{at_time}
use Rattle.watch_clock.proofs.Later.{place_timely, newest_retimed, opening_retimed, status_retimed, control_retimed, stop_retimed}
use Rattle.watch_ticks.specs.Marks.{Mark, whole, without, frames}
use Rattle.watch_ticks.specs.Gaps.{as_received}
use Rattle.watch_ticks.specs.Unticked.{ageless, ageless_latest, ageless_part, unticked}
use Rattle.watch_ticks.proofs.Frames.{newest_frames, opening_frames, status_frames, control_frames, stop_frames}
use Rattle.watch_ticks.proofs.Marked.{same_frames}

-- ---- by times as received

abbrev plain_latest : Option Said → std.Option Dated
plain_latest none = std.None
plain_latest (some m) = std.Some (dated_at m.time 0 m.kind m.raw)

abbrev plain_part : Option Said → SessionPart
plain_part none = None
plain_part (some o) =
    Some
    (record {
      since = o.time;
      age = 0;
      protocol = (opening_by o.kind o.raw).protocol;
      plug = (opening_by o.kind o.raw).plug;
    })

abbrev plain_kept : Option Said → List (Option Said) → List (std.Option Dated)
plain_kept none ks = map (λ (o : Option Said). plain_latest none) ks
plain_kept (some o) ks = map plain_latest ks

-- what was found, as it was received
abbrev received : Option Said → Option Said
received o = at_time received_of o

ageless_at : (t age k raw : ℕ) → ageless (dated_at t age k raw) ≡ dated_at t 0 k raw
unfolding dated_at
ageless_at t age k raw = go (is_on Newer k)
  where
    go : (b : Bool) → ageless (cond b (dated.At t age (message_of k raw)) (dated.OlderAt t age (older.message_of k raw))) ≡ cond b (dated.At t 0 (message_of k raw)) (dated.OlderAt t 0 (older.message_of k raw))
    go true = refl
    go false = refl

dated_plain : (now : ℕ) (o : Option Said) → ageless_latest (dated_of now o) ≡ plain_latest (received o)
dated_plain now none = refl
dated_plain now (some m) = ap std.Some (ageless_at (received_of m.time) (age_of now m.time) m.kind m.raw)

part_plain : (now : ℕ) (o : Option Said) → ageless_part (part_of now o) ≡ plain_part (received o)
part_plain now none = refl
part_plain now (some o) = refl

kept_plain : (now : ℕ) (o s d m : Option Said)
    → map ageless_latest (kept_shown now o (s ∷ d ∷ m ∷ [])) ≡ plain_kept (received o) (received s ∷ received d ∷ received m ∷ [])
kept_plain now none s d m = refl
kept_plain now (some o) s d m = rw (dated_plain now s, dated_plain now d, dated_plain now m)

latests_plain : (now : ℕ) (h : History) (ks : List ℕ)
    → map ageless_latest (map (λ j. dated_of now (newest (at_place j) h)) ks) ≡ map (λ j. plain_latest (received (newest (at_place j) h))) ks
latests_plain now h [] = refl
latests_plain now h (j ∷ ks) = rw (dated_plain now (newest (at_place j) h), latests_plain now h ks)

unfoldable plain_record : ℕ → PlainLimits → History → Record
plain_record c lim h =
    record {
      channel = c;
      limits = limits_of lim;
      last = None;
      latest = map (λ j. plain_latest (received (newest (at_place j) h))) (count_from 0 place_count);
      session = plain_part (received (opening h));
      kept = plain_kept (received (opening h)) (received (session_status h) ∷ received (session_control h) ∷ received (session_stop h) ∷ []);
      accepted = 0;
      tallies = [];
    }

record_plain : (c : ℕ) (lim : PlainLimits) (h : History) → unticked (record_of c lim h) ≡ plain_record c lim h
unfolding record_as_of unticked plain_record
record_plain c lim h =
    rw (
      latests_plain (latest_time h) h (count_from 0 place_count),
      part_plain (latest_time h) (opening h),
      kept_plain (latest_time h) (opening h) (session_status h) (session_control h) (session_stop h),
    )

-- ---- which are those of the kept events

module _ (m n : List Mark) (same : map as_received (without m) ≡ map as_received (without n)) where
  -- what is looked for in frames, whenever they come
  alike : {A : Type 0} (look : History → A) (at : A → A) → ((h : History) → look (frames h) ≡ look h) → ((h : History) → look (map as_received h) ≡ at (look h))
      → at (look (whole m)) ≡ at (look (whole n))
  alike look at reads timely = side m ∙ ap look same ∙ sym (side n)
    where
      side : (x : List Mark) → at (look (whole x)) ≡ look (map as_received (without x))
      side x = ap at (sym (reads (whole x)) ∙ ap look (same_frames x) ∙ reads (without x)) ∙ sym (timely (without x))

  newest-alike : (j : ℕ) → received (newest (at_place j) (whole m)) ≡ received (newest (at_place j) (whole n))
  newest-alike j = alike (newest (at_place j)) received (newest_frames (at_place j) (λ t. refl)) (newest_retimed received_of (at_place j) (place_timely j))

  plain-alike : (c : ℕ) (lim : PlainLimits) → plain_record c lim (whole m) ≡ plain_record c lim (whole n)
  unfolding plain_record
  plain-alike c lim =
      rw (
        alike opening received opening_frames (opening_retimed received_of),
        alike session_status received status_frames (status_retimed received_of),
        alike session_control received control_frames (control_retimed received_of),
        alike session_stop received stop_frames (stop_retimed received_of),
        latests (count_from 0 place_count),
      )
    where
      latests : (ks : List ℕ)
          → map (λ j. plain_latest (received (newest (at_place j) (whole m)))) ks ≡ map (λ j. plain_latest (received (newest (at_place j) (whole n)))) ks
      latests [] = refl
      latests (j ∷ ks) = rw (newest-alike j, latests ks)

  pub record_alike : (c : ℕ) (lim : PlainLimits) → unticked (record_of c lim (whole m)) ≡ unticked (record_of c lim (whole n))
  record_alike c lim = record_plain c lim (whole m) ∙ plain-alike c lim ∙ sym (record_plain c lim (whole n))
