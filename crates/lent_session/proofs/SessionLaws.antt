-- What the open session's part promises, by the laws of `lent_latest` over what is kept: its bytes are those that came, a refusal leaves the lent memory as it
-- was, behind the places named nothing changes.
-- What is handed out is what the record shows, and over a post's history the latest accepted in the session.
use Rattle.std.specs.Prelude.{Ok}
use Rattle.std.specs.Prelude as std
use Prim.Native.Nat.{ℕ, ◌<◌, ◌≤◌}
use native.Mathlib.Omega.{arith}
use mathlib.Core.Path.{◌≡◌, refl, ap, ◌∙◌}
use mathlib.Core.Bool.{Bool, true, false, cond}
use mathlib.Core.List.{List, ◌∷◌, ◌++◌}
use mathlib.Core.Option.{Option, none, some}
use lib.Dec.{eqb}
use lib.ListN.{length, get_or, drop}
use borrow.Author.Tests.{lt-ltb, eqb-true, eqb-false}
use Rattle.payload.specs.Payload.{Bytes}
use Rattle.page_table.specs.declared.Interface.{Interface}
use Rattle.page_interfaces.specs.Foreign.{judge_for}
use Rattle.page_table.specs.Table.{length_of}
use Rattle.rule_limits.specs.declared.PlainLimits.{PlainLimits}
use Rattle.rules.specs.declared.Dated.{Dated}
use Rattle.rules.specs.declared.Post.{Post}
use Rattle.rules.specs.History.{History, Said, opening}
use Rattle.rules.specs.Times.{received_of, age_of}
use Rattle.rules.specs.Rules.{session_status, session_control, session_stop}
use Rattle.rules.specs.Record.{is_set, unknown, slot_at, slot_of, session01, head_at}
use Rattle.rules.specs.After.{status_place, control_place, stop_place, kept_count, dated_in, open_kept, post_record}
use Rattle.rules.proofs.Counted.{count_at}
use Rattle.watch_rules.specs.declared.Table.{Table}
use Rattle.watch_rules.specs.Table.{post_count, no_post, post_in, is_post, look_up_of}
use Rattle.watch_rules.specs.Steps.{Steps, held, standing, kept_post, Kept}
use Rattle.watch_rules.proofs.Placed.{post_at}
use Rattle.lent_look.proofs.Asked.{set_up}
use Rattle.plain_words.specs.Words.{Told}
use Rattle.lent_latest.specs.Latest.{now_of}
use Rattle.lent_latest.proofs.LatestLaws.{slot_came, slot_told, not_handed, handed_behind}
use Rattle.lent_session.specs.InSession.{is_part, part_of, hands_part, part_outcome, part_word, part_time, part_frame}

-- a frame that was read to what the session keeps is handed out byte for byte
pub as_it_came : (iface : Interface) (t : Table) (i j : ℕ) (times buf : List ℕ) (id : ℕ) (extended : Bool) (bs : List ℕ) (time k n : ℕ)
    → judge_for iface id extended bs ≡ Ok (k, n) → Bytes bs → part_of t i j ≡ slot_at time k n → hands_part t i j times buf ≡ true
    → (part_time t i j times buf ≡ received_of time ∷ age_of (now_of t i) time ∷ k ∷ drop 3 times) × (part_frame t i j times buf ≡ bs ++ drop (length bs) buf)
unfolding part_time part_frame
as_it_came iface t i j times buf id extended bs time k n e b s h = rw (h, s) (slot_came iface (now_of t i) times buf id extended bs time k n e b)

-- what the word tells, of every table
pub part_told : (t : Table) (i j : ℕ) (times buf : List ℕ) → Told 8 (part_outcome t i j times buf) (part_word t i j times buf)
unfolding part_word
part_told t i j times buf = slot_told t i (is_part j) (part_of t i j) (length times) (length buf)

pub part_refused : (t : Table) (i j : ℕ) (times buf : List ℕ) → 65536 ≤ part_word t i j times buf → (part_time t i j times buf ≡ times) × (part_frame t i j times buf ≡ buf)
unfolding part_word part_time part_frame
part_refused t i j times buf l =
    let e : hands_part t i j times buf ≡ false = not_handed t i (is_part j) (part_of t i j) (length times) (length buf) l in
    (rw e, rw e)

pub part_kept : (t : Table) (i j : ℕ) (times buf : List ℕ)
    → (drop 3 (part_time t i j times buf) ≡ drop 3 times) × (drop (length_of (part_of t i j).kind) (part_frame t i j times buf) ≡ drop (length_of (part_of t i j).kind) buf)
unfolding part_time part_frame
part_kept t i j times buf = handed_behind (hands_part t i j times buf) (now_of t i) (part_of t i j) times buf

-- ---- the record shows its message

-- a place that is neither of the first two
third : (j : ℕ) → j < kept_count → eqb j status_place ≡ false → eqb j control_place ≡ false → j ≡ stop_place
third j l f g =
    let n : j ≡ status_place → ⊥ = eqb-false j status_place f in
    let m : j ≡ control_place → ⊥ = eqb-false j control_place g in
    omega arith

pub part_shown : (t : Table) (i j : ℕ) → is_post i ≡ true → is_set (post_in t i).head.used ≡ true → j < kept_count
    → (d : std.Option Dated) → get_or (look_up_of t i).shown.kept j d ≡ dated_in (now_of t i) (part_of t i j)
unfolding post_record
part_shown t i j l u m d = rw (set_up t i l u) (count_at (λ k. dated_in (now_of t i) (part_of t i k)) d j 0 kept_count j (omega arith) m)

-- 01: "With no session open all of the session's part is none": the answer is 0
pub closed : (t : Table) (i j : ℕ) (times buf : List ℕ) → is_post i ≡ true → is_set (post_in t i).head.used ≡ true → j < kept_count → is_set (post_in t i).head.session.opened ≡ false
    → part_word t i j times buf ≡ 0
unfolding part_word
closed t i j times buf l u m c = rw (set_up t i l u, lt-ltb j kept_count m, c)

-- ---- over a post's history

-- "the latest Power_Modules_Status and DC_Power_Control accepted in that session, each possibly none"; 02, Req 14: and the stop
abbrev pub latest01 : History → ℕ → Option Said
latest01 h j = cond (eqb j status_place) (session_status h) (cond (eqb j control_place) (session_control h) (session_stop h))

kept_look : (h : History) (o : Said) (j : ℕ) → opening h ≡ some o → j < kept_count → open_kept (session01 h) j ≡ slot_of (latest01 h j)
unfolding session01 session_status session_control session_stop
kept_look h o j e l = go (eqb j status_place) (eqb j control_place) refl refl
  where
    go : (a b : Bool) → eqb j status_place ≡ a → eqb j control_place ≡ b → open_kept (session01 h) j ≡ slot_of (latest01 h j)
    go true b f g = rw (e, eqb-true j status_place f)
    go false true f g = rw (e, eqb-true j control_place g)
    go false false f g = rw (e, third j l f g)

module _ (t : Table) (s : Steps) (kept : Kept t s) (i c : ℕ) (lim : PlainLimits) (h : History) (low : i < post_count) (own : standing i s ≡ held c lim h) where
  there : (post_in t i).head.session ≡ session01 h
  unfolding head_at
  there = ap (λ (p : Post). p.head.session) (ap (λ (ps : List Post). get_or ps i no_post) kept.posts ∙ post_at s i low ∙ ap kept_post own)

  -- what a post that stands for a history hands out: the latest accepted in its open session
  pub part_right : (o : Said) (j : ℕ) → opening h ≡ some o → j < kept_count → part_of t i j ≡ slot_of (latest01 h j)
  part_right o j e l = rw there (kept_look h o j e l)

  pub part_closed : (j : ℕ) → opening h ≡ none → part_of t i j ≡ unknown
  unfolding session01
  part_closed j e = rw (there, e)
