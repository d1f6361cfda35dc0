-- The posts of a table in two lists, its index and the count of what it refused beside them, and a record fed to them: it is the single call.
use Prim.Native.Nat.{ℕ, zero, suc, ◌≤◌, ◌<◌}
use native.Mathlib.Omega.{arith}
use mathlib.Core.Path.{◌≡◌, refl, ap, sym, ◌∙◌}
use mathlib.Core.Bool.{Bool, true, false, cond, ◌&&◌}
use mathlib.Core.List.{List, [], ◌∷◌, map}
use lib.ListN.{length, get_or, set, take, drop}
use lib.Seq.{set-get_or}
use borrow.Author.Tests.{lt-ltb, le-ltb}
use Rattle.log_records.specs.Record.{Rec, tick, frame}
use Rattle.rules.specs.declared.Head.{Head}
use Rattle.rules.specs.declared.Slot.{Slot}
use Rattle.rules.specs.declared.Post.{Post}
use Rattle.rules.specs.Record.{place_count}
use Rattle.rules.specs.After.{is_early, is_full_in, after_tick, after_frame, aged_to, with_frame, with_counts, keep_in}
use Rattle.watch_rules.specs.declared.Table.{Table}
use Rattle.watch_rules.specs.declared.Heard.{Heard}
use Rattle.watch_rules.specs.declared.Arrival.{Arrival}
use Rattle.watch_rules.specs.declared.Arrival.TheVariants.{Tick, Frame, Unread}
use Rattle.watch_rules.specs.Table.{is_channel, holds, place_of, some_place, no_head, no_post, post_in, judged_of, heard_of, refused_after}
use Rattle.batch_rules.specs.lent_words.specs.Lent.{Lent}
use Rattle.batch_rules.specs.lent_words.specs.Words.{answer_word}
use Rattle.batch_rules.specs.lent_step.specs.One.{worded_by, lent_at}
use Rattle.batch_rules.specs.lent_step.proofs.Same.{frame_same, tick_same}
use Rattle.batch_rules.specs.Batch.{called_with}
use Rattle.log_records.specs.declared.Entry.{Entry}
use Rattle.log_records.specs.Reading.{rec_of}
use Rattle.batch.specs.Parts.{arrival_in, heard_by, joined}

-- ---- two lists

abbrev post : Head → List Slot → Post
post h l = record { head = h; latest = l }

pub joined_length : (hs : List Head) (ls : List (List Slot)) → length hs ≡ length ls → length (joined hs ls) ≡ length hs
unfolding joined
joined_length [] ls e = refl
joined_length (h ∷ hs) [] e = absurd (omega arith)
joined_length (h ∷ hs) (l ∷ ls) e = ap suc (joined_length hs ls (omega arith))

pub joined_at : (hs : List Head) (ls : List (List Slot)) (i : ℕ) → i < length hs → i < length ls → get_or (joined hs ls) i no_post ≡ record { head = get_or hs i no_head; latest = get_or ls i [] }
unfolding joined
joined_at [] ls i p q = absurd (omega arith)
joined_at (h ∷ hs) [] i p q = absurd (omega arith)
joined_at (h ∷ hs) (l ∷ ls) zero p q = refl
joined_at (h ∷ hs) (l ∷ ls) (suc i) p q = joined_at hs ls i (omega arith) (omega arith)

joined_set : (hs : List Head) (ls : List (List Slot)) (i : ℕ) (h : Head) (l : List Slot) → joined (set hs i h) (set ls i l) ≡ set (joined hs ls) i (post h l)
unfolding joined
joined_set [] ls i h l = refl
joined_set (x ∷ hs) [] zero h l = refl
joined_set (x ∷ hs) [] (suc i) h l = refl
joined_set (x ∷ hs) (y ∷ ls) zero h l = refl
joined_set (x ∷ hs) (y ∷ ls) (suc i) h l = ap (λ (ps : List Post). post x y ∷ ps) (joined_set hs ls i h l)

pub joined_posts : (ps : List Post) → joined (map (λ p. p.head) ps) (map (λ p. p.latest) ps) ≡ ps
unfolding joined
joined_posts [] = refl
joined_posts (p ∷ ps) = ap (λ (qs : List Post). p ∷ qs) (joined_posts ps)

-- ---- a record changes no place

pub place_set : (ps : List Post) (i : ℕ) (p : Post) (c : ℕ) → holds p.head c ≡ holds (get_or ps i no_post).head c → place_of (set ps i p) c ≡ place_of ps c
unfolding place_of
place_set [] i p c e = refl
place_set (q ∷ ps) zero p c e = ap (λ (b : Bool). cond b 0 (suc (place_of ps c))) e
place_set (q ∷ ps) (suc i) p c e = ap (λ (n : ℕ). cond (holds q.head c) 0 (suc n)) (place_set ps i p c e)

either : {A : Type 0} (P : A → Type 0) (b : Bool) {x y : A} → P x → P y → P (cond b x y)
either P true p q = p
either P false p q = q

judged_holds : (h : Head) (time d : ℕ) (a : Arrival) → holds (judged_of h time a).head d ≡ holds h d
unfolding after_tick after_frame aged_to with_frame with_counts
judged_holds h time d Tick = either (λ (r : Heard). holds r.head d ≡ holds h d) (is_full_in h) refl refl
judged_holds h time d (Frame k n) = either (λ (r : Heard). holds r.head d ≡ holds h d) (is_full_in h) refl refl
judged_holds h time d (Unread w) = refl

pub heard_holds : (h : Head) (c time d : ℕ) (a : Arrival) → holds (heard_of h c time a).head d ≡ holds h d
unfolding heard_of
heard_holds h c time d a =
    either (λ (r : Heard). holds r.head d ≡ holds h d) (is_channel c && holds h c)
    (either (λ (r : Heard). holds r.head d ≡ holds h d) (is_early h time) refl (judged_holds h time d a))
    refl

-- ---- the record of an entry

heard_entry : (h : Head) (s : List ℕ) (e : Entry) → heard_of h e.channel e.time (arrival_in h.limits (rec_of s e)) ≡ heard_by h (rec_of s e)
heard_entry h s e = go e.tick (take e.length (drop e.start s))
  where
    go : (b : Bool) (bs : List ℕ)
        → heard_of h e.channel e.time (arrival_in h.limits (cond b (tick e.time e.channel) (frame e.time e.channel e.extended e.id bs)))
        ≡ heard_by h (cond b (tick e.time e.channel) (frame e.time e.channel e.extended e.id bs))
    go true bs = refl
    go false bs = refl

-- the frame is read first, and then heard
pub heard_read : (h : Head) (s : List ℕ) (e : Entry) (a : Arrival) (w : Heard) → a ≡ arrival_in h.limits (rec_of s e) → w ≡ heard_of h e.channel e.time a
    → w ≡ heard_by h (rec_of s e)
heard_read h s e a w p q = q ∙ ap (heard_of h e.channel e.time) p ∙ heard_entry h s e

-- ---- the single call

abbrev pub channel_of : Rec → ℕ
channel_of (tick time c) = c
channel_of (frame time c x m bs) = c

module _ (hs : List Head) (ls : List (List Slot)) (x : List ℕ) (n i : ℕ) (low : i < length hs) (row : i < length ls) where
  abbrev table : Table
  table = record { posts = joined hs ls; index = x; refused = n }

  -- the two lists with what the post at i heard, and the count
  abbrev pub heads_by : Heard → List Head
  heads_by w = set hs i w.head

  abbrev pub latest_by : Heard → List (List Slot)
  latest_by w = set ls i (keep_in (get_or ls i []) w.at w.slot)

  abbrev pub lent_back : Heard → Lent
  lent_back w = record { table = record { posts = joined (heads_by w) (latest_by w); index = x; refused = refused_after n w.answer }; answer = answer_word w.answer }

  stored_back : (f : Head → Heard) → lent_at table i (worded_by n (f (post_in table i).head)) ≡ lent_back (f (get_or hs i no_head))
  stored_back f =
      let w = f (get_or hs i no_head) in
      rw (joined_at hs ls i low row) (ap (λ (ps : List Post). record { table = record { posts = ps; index = x; refused = refused_after n w.answer }; answer = answer_word w.answer }) (sym (joined_set hs ls i w.head (keep_in (get_or ls i []) w.at w.slot))))

  pub called_same : (r : Rec) → i ≡ some_place table (channel_of r) → called_with table r ≡ lent_back (heard_by (get_or hs i no_head) r)
  called_same (tick time c) e =
      sym (tick_same table c time) ∙ ap (λ (j : ℕ). lent_at table j (worded_by n (heard_by (post_in table j).head (tick time c)))) (sym e) ∙ stored_back (λ h. heard_by h (tick time c))
  called_same (frame time c e m bs) at =
      sym (frame_same table c time m e bs) ∙ ap (λ (j : ℕ). lent_at table j (worded_by n (heard_by (post_in table j).head (frame time c e m bs)))) (sym at) ∙ stored_back (λ h. heard_by h (frame time c e m bs))

  pub latest_kept : (w : Heard) → w.at < place_count → latest_by w ≡ set ls i (set (get_or ls i []) w.at w.slot)
  latest_kept w h = rw (lt-ltb w.at place_count h)

  pub latest_left : (w : Heard) → place_count ≤ w.at → latest_by w ≡ ls
  latest_left w h = rw (le-ltb w.at place_count h) (set-get_or ls i [])
