-- 02, Req 11: a post hears the messages of its own interface alone, whatever was asked of the table (`own_pages`), so that the latest frame that it keeps in a
-- place is the latest of a kind (`latest_of_kind`), and so does its record show it (`latest_shown`); an identifier that only the other interface has is
-- refused with 29 (`own_foreign`).
use Rattle.std.specs.Prelude.{Ok, Err}
use Rattle.std.specs.Prelude as std
use Prim.Native.Nat.{ℕ, ◌+◌, ◌-◌, ◌≤◌, ◌<◌}
use native.Mathlib.Omega.{arith}
use mathlib.Core.Path.{◌≡◌, refl, ap, sym, subst, ◌∙◌}
use mathlib.Core.List.{List, [], ◌∷◌}
use mathlib.Core.Bool.{Bool, true, false, cond, ◌&&◌, ◌||◌, true≢false}
use mathlib.Core.Option.{Option, none}
use lib.Dec.{eqb, leb, ltb}
use lib.ListN.{get_or}
use borrow.Author.Tests.{eqb-true, eqb-false, eq-eqb, ne_eqb, ltb-true, ltb-false, leb-true, lt-ltb, le-ltb}
use Rattle.refusals.specs.declared.Refusal.TheVariants.{Earlier, OtherInterface}
use Rattle.page_table.specs.declared.Interface.{Interface}
use Rattle.page_table.specs.declared.Interface.TheVariants.{Newer, Older}
use Rattle.page_table.specs.Messages.{message_count}
use Rattle.page_table.specs.Interfaces.{is_on, interface_of}
use Rattle.page_table.proofs.Rules.{not_both}
use Rattle.page_read.specs.Judged.{Judged}
use Rattle.page_read.specs.Judge.{judge_on}
use Rattle.page_read.proofs.Interfaces.{on_own, on_table}
use Rattle.page_interfaces.specs.Foreign.{is_foreign, judge_for}
use Rattle.message_types.specs.KindNumbers.{safety_control_kind, sequence_kind}
use Rattle.older_types.specs.KindNumbers as older
use Rattle.rule_limits.specs.declared.PlainLimits.{PlainLimits}
use Rattle.rule_pages.specs.Places.{place_by}
use Rattle.rule_pages.proofs.Places.{place_small}
use Rattle.rules.specs.declared.Dated.{Dated}
use Rattle.rules.specs.History.{frame, tick, History, Said, newest, of_kind}
use Rattle.rules.specs.Times.{earlier_in, latest_time}
use Rattle.rules.specs.Record.{place_count, dated_of, at_place, record_as_of}
use Rattle.rules.proofs.Counted.{count_at}
use Rattle.watch_rules.specs.declared.LookedUp.{LookedUp}
use Rattle.watch_rules.specs.Table.{post_count, arrival_of, framing, ticking, look_up_of}
use Rattle.watch_rules.specs.Steps.{Steps, held, standing, event_in, set_up_steps, release_steps, set_up01, release01, shown_in, look_up01, Apart}
use Rattle.watch_rules.specs.Run as run
use Rattle.watch_rules.specs.Pages.{OnPages, OnOwn, kind_at, only_of}
use Rattle.watch_rules.proofs.Each.{Each, each_none, each_released, each_set, each_fed}
use Rattle.watch_rules.proofs.Demand.{run_kept, every_record, own_unread}

-- ---- what a post reads is of its own pages

foreign_29 : (iface : Interface) (m : ℕ) (x : Bool) (bs : List ℕ) → is_foreign iface m x ≡ true → judge_for iface m x bs ≡ Err OtherInterface
unfolding judge_for
foreign_29 iface m x bs e = rw e

pub own_read : (iface : Interface) (m : ℕ) (x : Bool) (bs : List ℕ) (k n : ℕ) → judge_for iface m x bs ≡ Ok (k, n) → (is_on iface k ≡ true) × (k < message_count)
unfolding judge_for
own_read iface m x bs k n e = go (is_foreign iface m x) e
  where
    go : (b : Bool) → cond b (Err OtherInterface) (judge_on iface m x bs) ≡ Ok (k, n) → (is_on iface k ≡ true) × (k < message_count)
    go true q = absurd (let z : ◌≡◌ {A = ℕ} 0 1 = cc in omega arith)
    go false q = (on_own iface m x bs k n q, on_table iface m x bs k n q)

frame_grows : (m : ℕ) (x : Bool) (bs : List ℕ) (c : ℕ) (lim : PlainLimits) (h : History) (t : ℕ) → earlier_in h t ≡ false → OnOwn (held c lim h)
    → OnOwn (held c lim (event_in h t (framing m x bs lim) ∷ h))
frame_grows m x bs c lim h t early so = go (judge_for (interface_of lim.interface) m x bs) refl
  where
    go : (j : Judged) → judge_for (interface_of lim.interface) m x bs ≡ j → OnOwn (held c lim (event_in h t (arrival_of j) ∷ h))
    go (Ok (k, n)) e = (own_read (interface_of lim.interface) m x bs k n e, so)
    go (Err w) e = so

steps_own : (s : Steps) → Each OnOwn s → Apart s → (a : run.Request) → Each OnOwn (run.steps01 s a)
unfolding set_up_steps release_steps
steps_own s each apart (run.setUp i c lim) = each_set OnOwn tt (λ d l. tt) s each i c lim (set_up01 s i c lim)
steps_own s each apart (run.release i) = each_released OnOwn tt (λ d l. tt) s each i (release01 s i)
steps_own s each apart (run.frame c time m x bs) = each_fed OnOwn s each apart (framing m x bs) (frame_grows m x bs) c time
steps_own s each apart (run.tick c time) = each_fed OnOwn s each apart ticking (λ d lim h t early so. so) c time

-- THEOREM: whatever was asked of the table, every frame of a post's history is of a message that its own interface has
pub own_pages : (rs : List run.Request) → Each OnOwn (run.accepted rs)
unfolding run.accepted
own_pages [] = each_none OnOwn tt (λ d l. tt)
own_pages (a ∷ rs) = steps_own (run.accepted rs) (own_pages rs) (run_kept rs).apart a

-- ---- a place is one kind's on an interface

kind_newer : (k : ℕ) → is_on Newer k ≡ true → kind_at Newer (place_by k) ≡ k
unfolding place_by kind_at
kind_newer k on = go (ltb k older.status_kind) refl on
  where
    go : (b : Bool) → ltb k older.status_kind ≡ b → b || leb sequence_kind k ≡ true → kind_at Newer (place_by k) ≡ k
    go true e q = rw (e, e)
    go false e q =
        let l : sequence_kind ≤ k = leb-true sequence_kind k q in
        let m : older.stop_kind ≤ k = omega arith in
        let v : older.status_kind ≤ older.status_kind + (k - sequence_kind) = omega arith in
        rw (e, le-ltb k older.stop_kind m, le-ltb k sequence_kind l, le-ltb (older.status_kind + (k - sequence_kind)) older.status_kind v) (omega arith)

kind_older : (k : ℕ) → safety_control_kind ≤ k → k < sequence_kind → kind_at Older (place_by k) ≡ k
unfolding place_by kind_at
kind_older k low high = go (ltb k older.status_kind) (ltb k older.stop_kind) refl refl
  where
    go : (a b : Bool) → ltb k older.status_kind ≡ a → ltb k older.stop_kind ≡ b → kind_at Older (place_by k) ≡ k
    go true b e f = let l : k < older.status_kind = ltb-true k older.status_kind e in rw (e, le-ltb k safety_control_kind low, lt-ltb k older.status_kind l)
    go false true e f =
        let l : older.status_kind ≤ k = ltb-false k older.status_kind e in
        let u : k < older.stop_kind = ltb-true k older.stop_kind f in
        let v : k - older.status_kind < safety_control_kind = omega arith in
        rw (e, f, lt-ltb (k - older.status_kind) safety_control_kind v) (omega arith)
    go false false e f =
        let l : older.stop_kind ≤ k = ltb-false k older.stop_kind f in
        let v : older.status_kind ≤ k - safety_control_kind = omega arith in
        let w : safety_control_kind ≤ k - safety_control_kind = omega arith in
        rw (e, f, lt-ltb k sequence_kind high, le-ltb (k - safety_control_kind) safety_control_kind w, le-ltb (k - safety_control_kind) older.status_kind v) (omega arith)

-- THEOREM: on an interface that has the kind, its place keeps it
pub kind_at_lem : (iface : Interface) (k : ℕ) → is_on iface k ≡ true → kind_at iface (place_by k) ≡ k
kind_at_lem Newer k e = kind_newer k e
kind_at_lem Older k e = go (leb safety_control_kind k) refl e
  where
    go : (b : Bool) → leb safety_control_kind k ≡ b → b && ltb k sequence_kind ≡ true → kind_at Older (place_by k) ≡ k
    go true l q = kind_older k (leb-true safety_control_kind k l) (ltb-true k sequence_kind q)
    go false l q = absurd (true≢false (sym q))

place_one : (iface : Interface) (j k : ℕ) → is_on iface j ≡ true → is_on iface k ≡ true → place_by j ≡ place_by k → j ≡ k
place_one iface j k p q e = sym (kind_at_lem iface j p) ∙ ap (kind_at iface) e ∙ kind_at_lem iface k q

-- ---- the latest frame of a kind

module _ (iface : Interface) where
  -- a kind that the interface has not was never heard
  pub never_heard : (h : History) → OnPages iface h → (k : ℕ) → is_on iface k ≡ false → newest (of_kind k) h ≡ none
  never_heard [] on k lacks = refl
  never_heard (tick t ∷ h) on k lacks = never_heard h on k lacks
  never_heard (frame t j raw ∷ h) on k lacks =
      let other : eqb j k ≡ false = ne_eqb j k (λ e. not_both (is_on iface j) on.0.0 (ap (is_on iface) e ∙ lacks)) in
      rw other (never_heard h on.1 k lacks)

  -- THEOREM: of the frames that have a kind's place, the latest that is of the kind is the latest of the kind
  pub latest_of_kind : (h : History) → OnPages iface h → (k : ℕ) → only_of k (newest (at_place (place_by k)) h) ≡ newest (of_kind k) h
  latest_of_kind [] on k = refl
  latest_of_kind (tick t ∷ h) on k = latest_of_kind h on k
  latest_of_kind (frame t j raw ∷ h) on k = go (eqb j k) (eqb (place_by j) (place_by k)) refl refl (latest_of_kind h on.1 k)
    where
      lacking : (b : Bool) → is_on iface k ≡ b → eqb j k ≡ false → place_by j ≡ place_by k → is_on iface k ≡ false
      lacking true q ne e = absurd (eqb-false j k ne (place_one iface j k on.0.0 q e))
      lacking false q ne e = q

      go : (a b : Bool) → eqb j k ≡ a → eqb (place_by j) (place_by k) ≡ b → only_of k (newest (at_place (place_by k)) h) ≡ newest (of_kind k) h
          → only_of k (newest (at_place (place_by k)) (frame t j raw ∷ h)) ≡ newest (of_kind k) (frame t j raw ∷ h)
      go true true e f rest = rw (f, e)
      go true false e f rest = absurd (eqb-false (place_by j) (place_by k) f (ap place_by (eqb-true j k e)))
      go false true e f rest =
          rw (f, e) (sym (never_heard h on.1 k (lacking (is_on iface k) refl e (eqb-true (place_by j) (place_by k) f))))
      go false false e f rest = rw (f, e) rest

  -- THEOREM: of a kind that the interface has, what its place keeps is the latest
  pub own_latest : (h : History) → OnPages iface h → (k : ℕ) → is_on iface k ≡ true → newest (at_place (place_by k)) h ≡ newest (of_kind k) h
  own_latest [] on k has = refl
  own_latest (tick t ∷ h) on k has = own_latest h on k has
  own_latest (frame t j raw ∷ h) on k has = go (eqb j k) refl (own_latest h on.1 k has)
    where
      go : (b : Bool) → eqb j k ≡ b → newest (at_place (place_by k)) h ≡ newest (of_kind k) h
          → newest (at_place (place_by k)) (frame t j raw ∷ h) ≡ newest (of_kind k) (frame t j raw ∷ h)
      go true e rest = rw (e, eq-eqb (place_by j) (place_by k) (ap place_by (eqb-true j k e)))
      go false e rest = rw (e, ne_eqb (place_by j) (place_by k) (λ p. eqb-false j k e (place_one iface j k on.0.0 has p))) rest

-- ---- the record

-- THEOREM: the record that is looked up shows, in the place of a kind that the post's interface has, the latest frame of that kind since its latest set-up
pub latest_shown_lem : (rs : List run.Request) (i c : ℕ) (lim : PlainLimits) (h : History) → i < post_count → standing i (run.accepted rs) ≡ held c lim h
    → (k : ℕ) → k < message_count → is_on (interface_of lim.interface) k ≡ true
    → (d : std.Option Dated) → get_or (look_up_of (run.run rs) i).shown.latest (place_by k) d ≡ dated_of (latest_time h) (newest (of_kind k) h)
unfolding look_up01 record_as_of
latest_shown_lem rs i c lim h low own k few has d =
    let iface = interface_of lim.interface in
    let pages : OnPages iface h = subst OnOwn own (own_pages rs i low) in
    let shown : look_up_of (run.run rs) i ≡ shown_in (held c lim h) = every_record rs i ∙ rw (lt-ltb i post_count low, own) in
    ap (λ (l : LookedUp). get_or l.shown.latest (place_by k) d) shown
    ∙ count_at (λ j. dated_of (latest_time h) (newest (at_place j) h)) d (place_by k) 0 place_count (place_by k) (omega arith) (place_small k few)
    ∙ ap (λ (m : Option Said). dated_of (latest_time h) m) (own_latest iface h pages k has)

-- ---- 29

-- THEOREM: in time, a frame whose identifier only the other interface has gets 29 on the post, of whatever length and content
pub own_foreign : (rs : List run.Request) (i c : ℕ) (lim : PlainLimits) (h : History) → i < post_count → standing i (run.accepted rs) ≡ held c lim h
    → (t m : ℕ) (x : Bool) (bs : List ℕ) → is_foreign (interface_of lim.interface) m x ≡ true
    → run.reply (run.run rs) (run.frame c t m x bs) ≡ run.fed (cond (earlier_in h t) (Err Earlier) (Err OtherInterface))
own_foreign rs i c lim h low own t m x bs foreign = own_unread rs i c lim h low own t m x bs OtherInterface (foreign_29 (interface_of lim.interface) m x bs foreign)
