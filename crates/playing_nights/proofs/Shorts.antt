-- Every line that can occur has at most 40 bytes: the watch's answers have small numbers, and a post at most two digits.
use Rattle.std.specs.Prelude.{Some, None, Ok, Err, Option}
use Prim.Native.Nat.{ℕ, zero, suc, ◌+◌, ◌*◌, ◌^◌, ◌≤◌, ◌<◌, min}
use native.Mathlib.Omega.{arith}
use mathlib.Core.Path.{sym, subst}
use mathlib.Core.Bool.{Bool, true, false, cond, ◌&&◌}
use mathlib.Core.List.{List, [], ◌∷◌}
use lib.Dec.{ltb, eqb}
use lib.ListN.{length, get_or}
use Rattle.page_table.specs.declared.Row.{Row}
use Rattle.page_read.specs.Judged.{Judged}
use Rattle.page_table.specs.declared.Interface.{Interface}
use Rattle.page_table.specs.Table.{rows, rows_of, no_row}
use Rattle.page_table.specs.Interfaces.{with_id, interface_of}
use Rattle.page_read.specs.Judge.{unlabelled, offends, offender, stray_below, judged_number, judged_at, judge_on}
use Rattle.page_interfaces.specs.Foreign.{is_foreign, judge_for}
use Rattle.rule_limits.specs.declared.PlainLimits.{PlainLimits}
use Rattle.rules.specs.History.{Event, History, frame, tick}
use Rattle.rules.specs.Times.{stamp_of, earlier_in}
use Rattle.rule_asks.specs.Judgements.{bit}
use Rattle.rules.specs.Counts.{is_full}
use Rattle.rules.specs.Rules.{f1, f2, f3, f4, f5, f6, f7, f8, f9, f10, f11, f12, findings01}
use Rattle.log_records.specs.declared.Found.{Found as Seen}
use Rattle.log_records.specs.declared.Found.TheVariants as found
use Rattle.log_records.specs.Record.{Rec}
use Rattle.log_records.specs.Record as rec
use Rattle.log_records.specs.Reading.{found_at, onward, read_from, log_of, records_in}
use Rattle.watch_rules.specs.declared.Arrival.{Arrival}
use Rattle.watch_rules.specs.declared.Arrival.TheVariants.{Tick, Frame, Unread}
use Rattle.watch_rules.specs.Table.{post_count, is_channel, arrival_of, Arriving}
use Rattle.watch_rules.specs.Steps.{Steps, Standing, free, held, standing, holder, found01, answer_in, feed01, feed_steps}
use Rattle.playing_line.specs.Lines.{line_room, InWords, AllShort}
use Rattle.playing_nights.specs.Fed.{time_of, channel_of, arrival_in, lines01_from}
use Rattle.playing_nights.specs.Night.{Wanted, Ready, ready, stopped, prepared01, night01, run_of}
use Rattle.watch_rules.proofs.Standings.{holder_most}
use Rattle.playing_line.proofs.Lengths.{line_short}
use Rattle.playing_nights.proofs.Afresh.{night_01}

by_cond : {A : Type 0} (P : A → Type 0) (b : Bool) (x y : A) → P x → P y → P (cond b x y)
by_cond P true x y p q = p
by_cond P false x y p q = q

-- ---- the post

two_digit_post : (s : Steps) (c : ℕ) → holder s c < 100
two_digit_post s c = omega (arith, holder_most s c)

-- ---- the findings

bit_le : (b : Bool) (n : ℕ) → bit b n ≤ n
bit_le true n = omega arith
bit_le false n = omega arith

findings_small : (lim : PlainLimits) (h : History) (e : Event) → findings01 lim h e < 2 ^ 32
unfolding findings01
findings_small lim h e =
    omega (
      arith,
      bit_le (f1 lim h e) 1,
      bit_le (f2 lim h e) 2,
      bit_le (f3 lim h e) 4,
      bit_le (f4 lim h e) 8,
      bit_le (f5 lim h e) 16,
      bit_le (f6 lim h e) 32,
      bit_le (f7 lim h e) 64,
      bit_le (f8 lim h e) 128,
      bit_le (f9 lim h e) 256,
      bit_le (f10 lim h e) 512,
      bit_le (f11 lim h e) 1024,
      bit_le (f12 lim h e) 2048,
    )

-- ---- the reader's refusals

offender_le : (n : ℕ) (rs : List Row) → offender n rs ≤ 64
unfolding offender
offender_le n [] = omega arith
offender_le n (r ∷ rs) =
    by_cond (λ i. i ≤ 64) (offends n r) (min r.start (offender n rs)) (offender n rs) (omega (arith, offender_le n rs)) (offender_le n rs)

abbrev Unread-small : Judged → Type 0
Unread-small (Ok (k, n)) = Unit {0}
Unread-small (Err w) = InWords (Err w)

number_small : (k bits n : ℕ) → Unread-small (judged_number k bits n)
unfolding judged_number
number_small k bits n =
    by_cond Unread-small (unlabelled n (rows_of k)) _ _ (omega arith, omega (arith, offender_le n (rows_of k))) (by_cond Unread-small (stray_below bits n (rows_of k)) _ _ (omega arith, omega arith) tt)

judged_small : (iface : Interface) (m : ℕ) (extended : Bool) (bs : List ℕ) → Unread-small (judge_for iface m extended bs)
unfolding judge_for judge_on
judged_small iface m extended bs = by_cond Unread-small (is_foreign iface m extended) _ _ (omega arith, omega arith) (at_place_lem (with_id iface m extended))
  where
    at_place_lem : (f : Option ℕ) → Unread-small (judged_at bs f)
    at_place_lem None = (omega arith, omega arith)
    at_place_lem (Some i) =
        let r : Row = get_or rows i no_row in
        by_cond Unread-small (eqb (length bs) r.bytes) _ _ (number_small r.kind (8 * length bs) _)
        (by_cond (λ w. InWords (Err w)) (ltb (length bs) r.bytes) _ _ (omega arith, omega arith) (omega arith, omega arith))

-- ---- the watch's answers

abbrev Arrival-small : Arrival → Type 0
Arrival-small Tick = Unit {0}
Arrival-small (Frame k n) = Unit {0}
Arrival-small (Unread w) = InWords (Err w)

arrival_small : (x : Rec) (lim : PlainLimits) → Arrival-small (arrival_in x lim)
arrival_small (rec.tick time c) lim = tt
arrival_small (rec.frame time c extended id payload) lim = go (judge_for (interface_of lim.interface) id extended payload) (judged_small (interface_of lim.interface) id extended payload)
  where
    go : (j : Judged) → Unread-small j → Arrival-small (arrival_of j)
    go (Ok (k, n)) h = tt
    go (Err w) h = h

found_small : (lim : PlainLimits) (hist : History) (t : ℕ) (a : Arrival) → Arrival-small a → InWords (found01 lim hist t a)
found_small lim hist t Tick h = by_cond InWords (is_full hist) _ _ (omega arith, omega arith) (findings_small lim hist (tick (stamp_of hist t)))
found_small lim hist t (Frame k n) h = by_cond InWords (is_full hist) _ _ (omega arith, omega arith) (findings_small lim hist (frame (stamp_of hist t) k n))
found_small lim hist t (Unread w) h = h

module _ (t : ℕ) (a : Arriving) (small : (lim : PlainLimits) → Arrival-small (a lim)) where
  answer-small : (x : Standing) → InWords (answer_in x t a)
  answer-small free = (omega arith, omega arith)
  answer-small (held c lim hist) = by_cond InWords (earlier_in hist t) _ _ (omega arith, omega arith) (found_small lim hist t (a lim) (small lim))

  fed-small : (s : Steps) (c : ℕ) → InWords (feed01 s c t a)
  unfolding feed01
  fed-small s c = by_cond InWords (is_channel c && ltb (holder s c) post_count) _ _ (answer-small (standing (holder s c) s)) (omega arith, omega arith)

-- ---- lines

lines_01_short : (xs : List Rec) (s : Steps) (n : ℕ) → n + length xs < 2 ^ 64 → AllShort (lines01_from s n xs)
unfolding lines01_from
lines_01_short [] s n h = tt
lines_01_short (x ∷ xs) s n h = (
  line_short (n + 1) (holder s (channel_of x)) (feed01 s (channel_of x) (time_of x) (arrival_in x)) (omega arith) (two_digit_post s (channel_of x))
      (fed-small (time_of x) (arrival_in x) (arrival_small x) s (channel_of x)),
  lines_01_short xs (feed_steps s (channel_of x) (time_of x) (arrival_in x)) (n + 1) (omega arith),
)

few_records : (k : ℕ) (s : List ℕ) (at : ℕ) → length (records_in (read_from k s at)) ≤ k
unfolding read_from records_in
few_records zero s at = omega arith
few_records (suc k) s at = go (found_at s at) (λ n. few_records k s n)
  where
    go : (f : Seen) → ((n : ℕ) → length (records_in (read_from k s n)) ≤ k) → length (records_in (onward s (read_from k s) f)) ≤ suc k
    go (found.Record e) h = omega (arith, h e.next)
    go found.End h = omega arith
    go (found.Cut at) h = omega arith
    go (found.Refused w at) h = omega arith

-- every line of a night, whatever the set-ups and the log
pub lines_short : (us : List Wanted) (s out : List ℕ) → line_room ≤ length out → length s < 2 ^ 64 → AllShort (run_of us s out).lines
lines_short us s out h few = subst (λ n. AllShort n.lines) (sym (night_01 us s out h few)) (go (prepared01 [] us))
  where
    go : (x : Ready Steps) → AllShort (night01 x (log_of s)).lines
    go (ready z) = lines_01_short (records_in (log_of s)) z 0 (omega (arith, few_records (length s) s 0))
    go (stopped w) = tt
