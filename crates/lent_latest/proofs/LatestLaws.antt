-- What the latest frame of a kind promises: its bytes are those that came, a refusal leaves the lent memory as it was,
-- behind the places named nothing changes, and the frame handed out is the one whose message the record shows. Over a post's history: LatestLooks.
use Rattle.std.specs.Prelude.{Ok, Err}
use Rattle.std.specs.Prelude as std
use Prim.Native.Nat.{ℕ, ◌<◌, ◌≤◌}
use native.Mathlib.Omega.{arith}
use mathlib.Core.Path.{◌≡◌, refl, sym, ap, ◌∙◌, subst}
use mathlib.Core.Bool.{Bool, true, false, cond, ◌&&◌, true≢false}
use mathlib.Core.List.{List, ◌∷◌, ◌++◌, map}
use lib.Dec.{eqb, leb}
use lib.ListN.{length, get_or, drop, replicate, get_or-replicate}
use lib.Seq.{drop_at}
use borrow.Author.Tests.{leb-true, eqb-true, eq-eqb}
use Rattle.payload.specs.Payload.{Bytes, bytes_of}
use Rattle.payload.proofs.Orders.{length_of_lem}
use Rattle.refusals.specs.declared.Refusal.TheVariants.{ShortBuffer, OtherInterface}
use Rattle.page_read.specs.Judge.{judge_on}
use Rattle.page_interfaces.specs.Foreign.{is_foreign, judge_for}
use Rattle.page_table.specs.declared.Interface.{Interface}
use Rattle.page_table.specs.Messages.{message_count}
use Rattle.page_table.specs.Table.{rows, of_kind, length_of, big_of}
use Rattle.page_table.proofs.Rules.{short_length}
use Rattle.page_write.proofs.Trips.{accepted_on, back_on}
use Rattle.rule_pages.specs.Places.{place_by}
use Rattle.rules.specs.declared.Slot.{Slot}
use Rattle.rules.specs.History.{count_from}
use Rattle.rules.specs.Times.{received_of, age_of}
use Rattle.rules.specs.Record.{place_count, is_set, unknown, slot_at}
use Rattle.rules.specs.After.{latest_in, dated_in, post_record}
use Rattle.rules.proofs.Counted.{count_at}
use Rattle.watch_rules.specs.declared.Table.{Table}
use Rattle.watch_rules.specs.Setting.{Setting}
use Rattle.watch_rules.specs.Table.{post_in, is_post, look_up_of}
use Rattle.plain_words.specs.Words.{Outcome, answers, refuses, outcome_word, is_accepted, Within, Told}
use Rattle.plain_words.proofs.WordLaws.{either, word_tells, not_accepted}
use Rattle.lent_latest.specs.Latest.{kept_of, now_of, is_shown, has_room, is_kind, latest_outcome, hands, hands_out, time_left, bytes_left, latest_word, time_after, frame_after}
use Rattle.lent_look.proofs.Asked.{set_up, any_look}
use Rattle.rule_pages.proofs.Places.{place_small}

-- what a post reads, its interface's own pages read
pub own_read : (iface : Interface) (m : ℕ) (x : Bool) (bs : List ℕ) (k n : ℕ) → judge_for iface m x bs ≡ Ok (k, n) → judge_on iface m x bs ≡ Ok (k, n)
unfolding judge_for
own_read iface m x bs k n = go (is_foreign iface m x)
  where
    go : (b : Bool) → cond b (Err OtherInterface) (judge_on iface m x bs) ≡ Ok (k, n) → judge_on iface m x bs ≡ Ok (k, n)
    go true e = absurd (let z : ◌≡◌ {A = ℕ} 0 1 = cc in omega arith)
    go false e = e

-- a frame that a post read to what is kept is handed out byte for byte
pub slot_came : (iface : Interface) (now : ℕ) (times buf : List ℕ) (id : ℕ) (extended : Bool) (bs : List ℕ) (time k n : ℕ)
    → judge_for iface id extended bs ≡ Ok (k, n) → Bytes bs
    → (time_left true now (slot_at time k n) times ≡ received_of time ∷ age_of now time ∷ k ∷ drop 3 times) × (bytes_left true (slot_at time k n) buf ≡ bs ++ drop (length bs) buf)
slot_came iface now times buf id extended bs time k n e b =
    let o = own_read iface id extended bs k n e in (
      refl,
      ap (λ (l : List ℕ). l ++ drop (length_of k) buf) (back_on iface id extended bs k n o b).bytes
          ∙ ap (λ (len : ℕ). bs ++ drop len buf) (sym (accepted_on iface id extended bs k n o).sized),
    )

pub as_it_came : (iface : Interface) (t : Table) (i k : ℕ) (times buf : List ℕ) (id : ℕ) (extended : Bool) (bs : List ℕ) (time n : ℕ)
    → judge_for iface id extended bs ≡ Ok (k, n) → Bytes bs → kept_of t i k ≡ slot_at time k n → hands_out t i k times buf ≡ true
    → (time_after t i k times buf ≡ received_of time ∷ age_of (now_of t i) time ∷ k ∷ drop 3 times) × (frame_after t i k times buf ≡ bs ++ drop (length bs) buf)
unfolding time_after frame_after
as_it_came iface t i k times buf id extended bs time n e b s h = rw (h, s) (slot_came iface (now_of t i) times buf id extended bs time k n e b)

-- what a look-up of the post i comes to, of what is kept, by the places and the room that are lent: of the latest frame, and of what else is kept
-- (`lent_session`); `known` where something of the kind can be kept
module _ (t : Table) (i : ℕ) (known : Bool) (l : Slot) (places room : ℕ) where
  abbrev outcome : Outcome
  outcome = latest_outcome (look_up_of t i).answer known l places room

  pub slot_within : Within 8 outcome
  slot_within =
      any_look t i (λ (s : Setting). Within 8 (latest_outcome s known l places room))
      (either (Within 8) known
      (either (Within 8) (is_shown l) (either (Within 8) (has_room l.kind places room) (short_length l.kind) (omega arith)) (omega arith))
      (omega arith))
      (omega arith) (omega arith)

  pub slot_told : Told 8 outcome (outcome_word outcome)
  slot_told = word_tells 8 outcome (omega arith) slot_within

  -- a refusal hands nothing out
  pub not_handed : 65536 ≤ outcome_word outcome → hands (look_up_of t i).answer known l places room ≡ false
  not_handed m = go (look_up_of t i).answer (not_accepted 8 outcome (omega arith) slot_within m)
    where
      by : (a b c : Bool) (o : Outcome) → is_accepted (cond a (cond b (cond c (answers (length_of l.kind)) (refuses ShortBuffer)) (answers 0)) o) ≡ false → a && (b && c) ≡ false
      by true true true o e = absurd (true≢false e)
      by true true false o e = refl
      by true false c o e = refl
      by false b c o e = refl

      go : (s : Setting) → is_accepted (latest_outcome s known l places room) ≡ false → hands s known l places room ≡ false
      go (Ok tt) e = by known (is_shown l) (has_room l.kind places room) _ e
      go (Err w) e = refl

-- nothing is handed out of a slot in which no frame stands
unshown : (s : Setting) (known : Bool) (l : Slot) (places room : ℕ) → is_shown l ≡ false → hands s known l places room ≡ false
unshown (Ok tt) known l places room e = go known (is_shown l) e
  where
    go : (a b : Bool) → b ≡ false → a && (b && has_room l.kind places room) ≡ false
    go true true f = absurd (true≢false f)
    go true false f = refl
    go false b f = refl
unshown (Err w) known l places room e = refl

module _ (t : Table) (i k : ℕ) (times buf : List ℕ) where
  pub latest_told : Told 8 (latest_outcome (look_up_of t i).answer (is_kind k) (kept_of t i k) (length times) (length buf)) (latest_word t i k times buf)
  unfolding latest_word
  latest_told = slot_told t i (is_kind k) (kept_of t i k) (length times) (length buf)

  pub latest_refused : 65536 ≤ latest_word t i k times buf → (time_after t i k times buf ≡ times) × (frame_after t i k times buf ≡ buf)
  unfolding latest_word time_after frame_after
  latest_refused l =
      let e : hands_out t i k times buf ≡ false = not_handed t i (is_kind k) (kept_of t i k) (length times) (length buf) l in
      (rw e, rw e)

pub handed_behind : (b : Bool) (now : ℕ) (l : Slot) (times buf : List ℕ) → (drop 3 (time_left b now l times) ≡ drop 3 times) × (drop (length_of l.kind) (bytes_left b l buf) ≡ drop (length_of l.kind) buf)
handed_behind true now l times buf = (refl, drop_at (bytes_of (big_of l.kind) (length_of l.kind) l.raw) (drop (length_of l.kind) buf) (length_of l.kind) (length_of_lem (big_of l.kind) (length_of l.kind) l.raw))
handed_behind false now l times buf = (refl, refl)

module _ (t : Table) (i k : ℕ) (times buf : List ℕ) where
  abbrev there : Slot
  there = latest_in (post_in t i) (place_by k)

  abbrev given : Slot → Bool
  given x = hands (look_up_of t i).answer (is_kind k) x (length times) (length buf)

  -- behind the places named, and behind m bytes
  abbrev Behind : Slot → ℕ → Type 0
  Behind x m = (drop 3 (time_left (given x) (now_of t i) x times) ≡ drop 3 times) × (drop (length_of m) (bytes_left (given x) x buf) ≡ drop (length_of m) buf)

  pub latest_kept : (drop 3 (time_after t i k times buf) ≡ drop 3 times) × (drop (length_of k) (frame_after t i k times buf) ≡ drop (length_of k) buf)
  unfolding time_after frame_after
  latest_kept = go (eqb there.kind k) refl
    where
      go : (b : Bool) → eqb there.kind k ≡ b → Behind (cond b there unknown) k
      go true e = subst (Behind there) (eqb-true there.kind k e) (handed_behind (given there) (now_of t i) there times buf)
      go false e = rw (unshown (look_up_of t i).answer (is_kind k) unknown (length times) (length buf) refl) (refl, refl)

-- a kind has bytes, so that 0 says that no frame was accepted
lengths : map (λ k. leb 1 (length_of k)) (count_from 0 message_count) ≡ replicate message_count true
unfolding length_of of_kind rows
lengths = refl

pub some_bytes : (k : ℕ) → k < message_count → 1 ≤ length_of k
some_bytes k l = leb-true 1 (length_of k) (sym (count_at (λ j. leb 1 (length_of j)) true k 0 message_count k (omega arith) l) ∙ ap (λ (bs : List Bool). get_or bs k true) lengths ∙ get_or-replicate message_count k true true l)

-- where the post keeps a frame of the kind, the record's message in its place is that of the frame
pub latest_shown_lem : (t : Table) (i k : ℕ) → is_post i ≡ true → is_set (post_in t i).head.used ≡ true → k < message_count → (latest_in (post_in t i) (place_by k)).kind ≡ k
    → get_or (look_up_of t i).shown.latest (place_by k) std.None ≡ dated_in (now_of t i) (kept_of t i k)
unfolding post_record
latest_shown_lem t i k l u m e =
    rw (set_up t i l u, eq-eqb (latest_in (post_in t i) (place_by k)).kind k e)
    (count_at (λ j. dated_in (post_in t i).head.time (latest_in (post_in t i) j)) std.None (place_by k) 0 place_count (place_by k) (omega arith) (place_small k m))
