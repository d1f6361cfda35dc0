-- What an entry in place stores of one post of a lent table is what the step of its head, stored back with its slot, leaves (`lent_at`): the head and then
-- a slot, the head alone, or the count of what was refused alone.
--     with_new_head, with_slot    the post with another head, and with a slot in a place
--     slot_left, head_left        where what comes is taken, by whether the step fills a slot: the answer and the table are those wanted
--     count_left                  where it is refused
-- Assumes nothing.
use Prim.Native.Nat.{ℕ, zero, suc, ◌%◌, ◌<◌, ◌≤◌}
use mathlib.Core.Path.{◌≡◌, refl, sym, ap, ap₂, ◌∙◌, subst}
use mathlib.Core.Bool.{Bool, true, false, not}
use mathlib.Core.List.{[], ◌∷◌, List}
use lib.Dec.{T as Holds}
use lib.ListN.{get_or, set}
use lib.Seq.{set-get_or}
use borrow.Author.Tests.{lt-ltb, le-ltb}
use Rattle.rules.specs.declared.Slot.{Slot}
use Rattle.rules.specs.declared.Head.{Head}
use Rattle.rules.specs.declared.Post.{Post}
use Rattle.rules.specs.Record.{place_count}
use Rattle.rules.specs.After.{keep_in, stored}
use Rattle.watch_rules.specs.declared.Table.{Table}
use Rattle.watch_rules.specs.declared.Arrival.{Arrival}
use Rattle.watch_rules.specs.Table.{channel_count, no_post, post_in, place_named, some_place, Arriving}
use Rattle.lent_step.specs.lent_words.specs.Lent.{Lent}
use Rattle.lent_step.specs.One.{heard_on, stored_by, lent_at}
use Rattle.lent_step.specs.declared.Worded.{Worded}
use Rattle.lent_step.proofs.Taken.{Apart, heard_apart}

abbrev pub with_new_head : Post → Head → Post
with_new_head p x = record { head = x; latest = p.latest }

abbrev pub with_slot : ℕ → Slot → Post → Post
with_slot k s p = record { head = p.head; latest = set p.latest k s }

-- a post that is stored, read back, changed and stored again
set_twice : (ps : List Post) (i : ℕ) (p : Post) (f : Post → Post) → set (set ps i p) i (f (get_or (set ps i p) i no_post)) ≡ set ps i (f p)
set_twice [] i p f = refl
set_twice (q ∷ ps) zero p f = refl
set_twice (q ∷ ps) (suc i) p f = ap (λ (qs : List Post). q ∷ qs) (set_twice ps i p f)

-- a slot at one of the places is kept, and none past them
kept : (l : List Slot) (k : ℕ) (s : Slot) → k < place_count → set l k s ≡ keep_in l k s
kept l k s h = rw (lt-ltb k place_count h)

left_out : (l : List Slot) (k : ℕ) (s : Slot) → place_count ≤ k → l ≡ keep_in l k s
left_out l k s h = rw (le-ltb k place_count h)

holds_if : (b : Bool) → b ≡ true → Holds b
holds_if b e = subst Holds (sym e) tt

holds_not : (b : Bool) → b ≡ false → Holds (not b)
holds_not b e = subst (λ (y : Bool). Holds (not y)) (sym e) tt

-- the posts with another head at i
abbrev pub headed : Table → ℕ → Head → List Post
headed t i x = set t.posts i (with_new_head (post_in t i) x)

-- the step's answer, and the table with the posts ps and the count n, are those of w
abbrev pub Left : Table → Worded → Lent → List Post → ℕ → Type 0
Left t r w ps n = (r.answer ≡ w.answer) × (◌≡◌ {A = Table} (record { posts = ps; index = t.index; refused = n }) w.table)

-- the step r of the head at i, where it leaves w, and what need not be stored of it
module _ (t : Table) (i : ℕ) (r : Worded) (w : Lent) (same : lent_at t i r ≡ w) (apart : Apart (post_in t i).head t.refused r) where
  abbrev p : Post
  p = post_in t i

  left : (ps : List Post) (n : ℕ) → ps ≡ set t.posts i (stored_by p r) → n ≡ r.refused → Left t r w ps n
  left ps n e f = (
    ap (λ (l : Lent). l.answer) same,
    ap₂ (λ (qs : List Post) (m : ℕ). record { posts = qs; index = t.index; refused = m }) e f ∙ ap (λ (l : Lent). l.table) same,
  )

  slot-left : r.taken ≡ true → r.at < place_count → Left t r w (set (headed t i r.head) i (with_slot r.at r.slot (get_or (headed t i r.head) i no_post))) t.refused
  slot-left y h = left _ _
      (set_twice t.posts i (with_new_head p r.head) (with_slot r.at r.slot)
      ∙ ap (λ (ss : List Slot). set t.posts i (record { head = r.head; latest = ss })) (kept p.latest r.at r.slot h))
      (sym (apart.0 (holds_if r.taken y)))

  head-left : r.taken ≡ true → place_count ≤ r.at → Left t r w (headed t i r.head) t.refused
  head-left y h = left _ _
      (ap (λ (ss : List Slot). set t.posts i (record { head = r.head; latest = ss })) (left_out p.latest r.at r.slot h))
      (sym (apart.0 (holds_if r.taken y)))

  count-left : r.taken ≡ false → Left t r w t.posts r.refused
  count-left y =
      let e = apart.1 (holds_not r.taken y) in
      left _ _
      (sym (ap (λ (q : Post). set t.posts i q) (ap (λ (x : Head). stored p x r.at r.slot) e.0 ∙ ap (λ (k : ℕ). stored p p.head k r.slot) e.1) ∙ set-get_or t.posts i no_post))
      refl

-- the place i that the index names for the channel c, what comes there, x, and the step of the head by it, r
module _ (t : Table) (c time : ℕ) (a : Arriving) (w : Lent)
    (same : lent_at t (some_place t c) (heard_on (post_in t (some_place t c)).head t.refused c time (a (post_in t (some_place t c)).head.limits)) ≡ w)
    (i : ℕ) (x : Arrival) (r : Worded) (named : i ≡ place_named (get_or t.index (c % channel_count) 0)) (came : x ≡ a (post_in t i).head.limits)
    (stepped : r ≡ heard_on (post_in t i).head t.refused c time x) where
  here : i ≡ some_place t c
  unfolding some_place
  here = named

  by-it : r ≡ heard_on (post_in t i).head t.refused c time (a (post_in t i).head.limits)
  by-it = stepped ∙ ap (λ (y : Arrival). heard_on (post_in t i).head t.refused c time y) came

  wanted : lent_at t i r ≡ w
  wanted =
      ap (λ (s : Worded). lent_at t i s) by-it
      ∙ ap (λ (j : ℕ). lent_at t j (heard_on (post_in t j).head t.refused c time (a (post_in t j).head.limits))) here
      ∙ same

  apart : Apart (post_in t i).head t.refused r
  apart = subst (λ (s : Worded). Apart (post_in t i).head t.refused s) (sym by-it) (heard_apart (post_in t i).head t.refused c time (a (post_in t i).head.limits))

  pub slot_left : r.taken ≡ true → r.at < place_count → Left t r w (set (headed t i r.head) i (with_slot r.at r.slot (get_or (headed t i r.head) i no_post))) t.refused
  slot_left = slot-left t i r w wanted apart

  pub head_left : r.taken ≡ true → place_count ≤ r.at → Left t r w (headed t i r.head) t.refused
  head_left = head-left t i r w wanted apart

  pub count_left : r.taken ≡ false → Left t r w t.posts r.refused
  count_left = count-left t i r w wanted apart
