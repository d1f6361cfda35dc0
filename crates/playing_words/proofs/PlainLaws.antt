-- What a replay in plain numbers promises: every answer but a line leaves all as it was; and plain numbers lose nothing: starting, a set-up and a call leave
-- the replay that `fresh`, `setUpIn` and `nextLine` are by value.
use Prim.Native.Nat.{ℕ, ◌≤◌}
use mathlib.Core.Path.{◌≡◌, refl, ap, sym, ◌∙◌}
use mathlib.Core.Bool.{Bool, true, false, cond, true≢false}
use mathlib.Core.List.{List, [], ◌∷◌}
use native.Mathlib.Omega.{arith}
use lib.Dec.{ltb, eqb}
use lib.ListN.{length, replicate}
use borrow.Author.Tests.{le-ltb}
use Rattle.refusals.specs.declared.Refusal.TheVariants.{ShortBuffer, NoSuchPost, NoSuchChannel, ChannelTaken, LimitOutside}
use Rattle.rule_limits.specs.declared.PlainLimits.{PlainLimits}
use Rattle.rule_limits.specs.Limits.{limits_fit}
use Rattle.watch_rules.specs.Answer.{Answer}
use Rattle.watch_rules.specs.declared.Table.{Table}
use Rattle.watch_rules.specs.Table.{is_channel, is_post, is_other, place_of, set_up_of}
use Rattle.log_records.specs.declared.Found.{Found}
use Rattle.log_records.specs.declared.Found.TheVariants as found
use Rattle.log_records.specs.Reading.{found_at}
use Rattle.playing_nights.specs.declared.Course.{Course}
use Rattle.playing_nights.specs.declared.Course.TheVariants.{SetUps, Records, Refused}
use Rattle.playing_nights.specs.declared.Replay.{Replay}
use Rattle.playing_nights.specs.declared.Played.{Played}
use Rattle.playing_nights.specs.declared.Played.TheVariants.{Line, End, Cut, Bad, SetUp, Short}
use Rattle.playing_nights.specs.Answers.{is_line}
use Rattle.playing_line.specs.Lines.{line_room}
use Rattle.playing_nights.specs.Call.{fresh, course_after, set_up_in, line, other, Call, next_by, buffer_by, line_call, on_found, on_course, call_of, next_line}
use Rattle.plain_words.specs.Words.{refusal_word}
use Rattle.playing_words.specs.declared.PlainReplay.{PlainReplay}
use Rattle.playing_words.specs.declared.LentReplay.{LentReplay}
use Rattle.playing_words.specs.Plain.{course_of, course_word, replay_of, plain_of, told_by, next_left, start_by, set_up_by, line_by, line_left, next_after}

-- ---- every answer but a line leaves all as it was

told_stays : (r : PlainReplay) (q : Replay) (p : Played) (ns : List ℕ) → is_line p ≡ false → ((told_by r q p).replay ≡ r) × (next_left p ns ≡ ns)
told_stays r q (Line bytes next) ns e = absurd (true≢false e)
told_stays r q End ns e = (refl, refl)
told_stays r q (Cut at) ns e = (refl, refl)
told_stays r q (Bad w at) ns e = (refl, refl)
told_stays r q (SetUp w) ns e = (refl, refl)
told_stays r q Short ns e = (refl, refl)

call_stays : (r : Replay) (out : List ℕ) (x : Call) → is_line (next_by r x).answer ≡ false → buffer_by out x ≡ out
call_stays r out (line a text next q) e = absurd (true≢false e)
call_stays r out (other p) e = refl

stays_by : (b : Bool) (left none : LentReplay) {r : PlainReplay} {out after ns next : List ℕ} → left.replay ≡ r → none.replay ≡ r → after ≡ out → next ≡ ns
    → ((cond b none left).replay ≡ r) × (cond b out after ≡ out) × (cond b ns next ≡ ns)
stays_by true left none t u v w = (u, refl, refl)
stays_by false left none t u v w = (t, v, w)

pub stays : (r : PlainReplay) (s : List ℕ) (at : ℕ) (out ns : List ℕ) → is_line (next_line (replay_of r) s at (length out)).answer ≡ false
    → ((line_by r s at out ns).replay ≡ r) × (line_left r s at out ns ≡ out) × (next_after r s at out ns ≡ ns)
unfolding line_by line_left next_after
stays r s at out ns e =
    let t = told_stays r (next_line (replay_of r) s at (length out)).replay (next_line (replay_of r) s at (length out)).answer ns e in
    stays_by (ltb (length ns) 1) _ (record { replay = r; answer = refusal_word ShortBuffer }) t.0 refl (call_stays (replay_of r) out (call_of (replay_of r) s at (length out)) e) t.1

-- at the end of an empty log: nothing changes
ended : is_line (next_line (replay_of (plain_of fresh)) [] 0 line_room).answer ≡ false
unfolding call_of
ended = refl

pub at_the_end : (line_by (plain_of fresh) [] 0 (replicate line_room 7) (9 ∷ [])).replay ≡ plain_of fresh
at_the_end = (stays (plain_of fresh) [] 0 (replicate line_room 7) (9 ∷ []) ended).0

-- ---- plain numbers lose nothing

-- a course that plain numbers can tell: its refusal is a set-up's
abbrev Plain : Course → Type 0
Plain c = course_of (course_word c) ≡ c

back : (q : Replay) → Plain q.course → replay_of (plain_of q) ≡ q
back q e = ap (λ (c : Course). record { table = q.table; count = q.count; course = c }) e

any_plain : (n : ℕ) → Plain (course_of n)
any_plain n = go (eqb n 0) (eqb n 1) (eqb n (refusal_word NoSuchPost)) (eqb n (refusal_word NoSuchChannel)) (eqb n (refusal_word ChannelTaken))
  where
    go : (a b p q o : Bool) → Plain (cond a SetUps (cond b Records (Refused (cond p NoSuchPost (cond q NoSuchChannel (cond o ChannelTaken LimitOutside))))))
    go true b p q o = refl
    go false true p q o = refl
    go false false true q o = refl
    go false false false true o = refl
    go false false false false true = refl
    go false false false false false = refl

settled_plain : (t : Table) (i c : ℕ) (lim : PlainLimits) → Plain (course_after (set_up_of t i c lim).answer)
unfolding set_up_of
settled_plain t i c lim = go (is_post i) (is_channel c) (is_other (place_of t.posts c) i) (limits_fit lim) refl refl refl refl
  where
    go : (p q o f : Bool) → is_post i ≡ p → is_channel c ≡ q → is_other (place_of t.posts c) i ≡ o → limits_fit lim ≡ f → Plain (course_after (set_up_of t i c lim).answer)
    go false q o f a b d e = rw a refl
    go true false o f a b d e = rw (a, b) refl
    go true true true f a b d e = rw (a, b, d) refl
    go true true false false a b d e = rw (a, b, d, e) refl
    go true true false true a b d e = rw (a, b, d, e) refl

set_up_plain : (q : Replay) (i c : ℕ) (lim : PlainLimits) → Plain q.course → Plain (set_up_in q i c lim).replay.course
unfolding set_up_in
set_up_plain q i c lim e = go q.course refl
  where
    go : (x : Course) → q.course ≡ x → Plain (set_up_in q i c lim).replay.course
    go SetUps f = rw f (settled_plain q.table i c lim)
    go Records f = rw f refl
    go (Refused w) f = rw f (rw f at e)

-- a set-up leaves the replay that it leaves by value
pub set_up_same : (r : PlainReplay) (i c volt chg dis w sensor interface : ℕ)
    → replay_of (set_up_by r i c volt chg dis w sensor interface).replay ≡ (set_up_in (replay_of r) i c (record { voltage = volt; charge = chg; discharge = dis; silence = w; sensor = sensor; interface = interface })).replay
unfolding set_up_by
set_up_same r i c volt chg dis w sensor interface = back _ (set_up_plain (replay_of r) i c (record { voltage = volt; charge = chg; discharge = dis; silence = w; sensor = sensor; interface = interface }) (any_plain r.course))

pub start_same : (r : PlainReplay) → replay_of (start_by r).replay ≡ fresh
unfolding start_by
start_same r = refl

-- what a call that comes to x leaves
line_plain : (r : PlainReplay) (x : Call) → ((a : Answer) (text : List ℕ) (next : ℕ) (q : Replay) → x ≡ line a text next q → Plain q.course)
    → replay_of (told_by r (next_by (replay_of r) x).replay (next_by (replay_of r) x).answer).replay ≡ (next_by (replay_of r) x).replay
line_plain r (line a text next q) e = back q (e a text next q refl)
line_plain r (other (Line bytes next)) e = back (replay_of r) (any_plain r.course)
line_plain r (other End) e = refl
line_plain r (other (Cut at)) e = refl
line_plain r (other (Bad w at)) e = refl
line_plain r (other (SetUp w)) e = refl
line_plain r (other Short) e = refl

abbrev course_in : Call → Course
course_in (line a text next q) = q.course
course_in (other p) = Records

-- after a record the course is that of records
call_plain : (q : Replay) (s : List ℕ) (at room : ℕ) → course_in (call_of q s at room) ≡ Records
unfolding call_of line_call
call_plain q s at room = go (ltb room line_room) q.course (found_at s at)
  where
    go : (b : Bool) (c : Course) (f : Found) → course_in (cond b (other Short) (on_course c (on_found q s f))) ≡ Records
    go true c f = refl
    go false SetUps (found.Record e) = refl
    go false SetUps found.End = refl
    go false SetUps (found.Cut byte) = refl
    go false SetUps (found.Refused w byte) = refl
    go false Records (found.Record e) = refl
    go false Records found.End = refl
    go false Records (found.Cut byte) = refl
    go false Records (found.Refused w byte) = refl
    go false (Refused w) f = refl

-- a call leaves the replay that `nextLine` leaves by value
pub line_same : (r : PlainReplay) (s : List ℕ) (at : ℕ) (out ns : List ℕ) → 1 ≤ length ns → replay_of (line_by r s at out ns).replay ≡ (next_line (replay_of r) s at (length out)).replay
unfolding line_by
line_same r s at out ns l =
    rw (le-ltb (length ns) 1 l)
    (line_plain r (call_of (replay_of r) s at (length out))
    (λ a text next q e. rw (sym (ap course_in e) ∙ call_plain (replay_of r) s at (length out)) refl))

-- 02's tick at 300 on channel 3, "AC 02 03 00 09", with a place for the next byte
abbrev ticked : List ℕ
ticked = 0xac ∷ 0x02 ∷ 0x03 ∷ 0x00 ∷ 0x09 ∷ []

pub same_at_a_tick : replay_of (line_by (plain_of fresh) ticked 0 (replicate line_room 7) (9 ∷ [])).replay ≡ (next_line fresh ticked 0 line_room).replay
same_at_a_tick = line_same (plain_of fresh) ticked 0 (replicate line_room 7) (9 ∷ []) (omega arith)
