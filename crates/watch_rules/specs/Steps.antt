-- Demand 3's definitions: the accepted steps of all posts, newest first; each post's own set-up and events in them; and 01's answers read afresh over those.
use Rattle.std.specs.Prelude.{ℕ, zero, suc, ◌<◌, ◌≡◌, List, [], ◌∷◌, map, Bool, true, false, cond, not, ◌&&◌, ltb, eqb, length, get_or, Ok, Err}
use Rattle.std.proofs.Math.Option.{Option, none, some}
use Rattle.refusals.specs.declared.Refusal.TheVariants.{ChannelFree, Earlier, NoSuchPost, NoSuchChannel, ChannelTaken, LimitOutside, NotSetUp, CountFull}
use Rattle.rule_limits.specs.declared.PlainLimits.{PlainLimits}
use Rattle.rules.specs.declared.Head.{Head}
use Rattle.rules.specs.declared.Post.{Post}
use Rattle.rules.specs.History.{Event, frame, tick, History, newest, since_newest, count_from}
use Rattle.rules.specs.Times.{earlier_in, stamp_of, Unrolled}
use Rattle.rules.specs.Rules.{findings01}
use Rattle.rules.specs.Counts.{is_full}
use Rattle.rules.specs.Record.{record_of, head_of, post_of}
use Rattle.rules.specs.After.{stored, free_post}
use Rattle.watch_rules.specs.declared.Table.{Table}
use Rattle.watch_rules.specs.Answer.{Answer, Fed}
use Rattle.watch_rules.specs.declared.Heard.{Heard}
use Rattle.watch_rules.specs.Setting.{Setting, Settled}
use Rattle.watch_rules.specs.declared.LookedUp.{LookedUp}
use Rattle.watch_rules.specs.declared.Arrival.{Arrival}
use Rattle.watch_rules.specs.declared.Arrival.TheVariants.{Tick, Frame, Unread}
use Rattle.watch_rules.specs.Table.{post_count, channel_count, is_channel, entry_of, Arriving, is_post, not_found}
use Rattle.rule_limits.specs.Limits.{limits_fit}

-- ---- accepted steps

-- post, channel and limits; post; channel and event
pub data Step : Type 0 where
  setUp : ℕ → ℕ → PlainLimits → Step
  release : ℕ → Step
  event : ℕ → Event → Step

abbrev pub Steps : Type 0
Steps = List Step

-- a post as its steps left it: not set up, or on a channel with limits and its own accepted events since that set-up
pub data Standing : Type 0 where
  free : Standing
  held : ℕ → PlainLimits → History → Standing

-- a set-up of post i, or its release
abbrev pub setting_of : ℕ → Step → Option (Option (ℕ × PlainLimits))
setting_of i (setUp j c lim) = cond (eqb j i) (some (some (c, lim))) none
setting_of i (release j) = cond (eqb j i) (some none) none
setting_of i (event c e) = none

-- the frames and ticks on a channel
abbrev pub events_on : ℕ → Steps → History
events_on c [] = []
events_on c (setUp j d lim ∷ s) = events_on c s
events_on c (release j ∷ s) = events_on c s
events_on c (event d e ∷ s) = cond (eqb d c) (e ∷ events_on c s) (events_on c s)

abbrev pub standing_from : Option (Option (ℕ × PlainLimits)) → Steps → Standing
standing_from none s = free
standing_from (some none) s = free
standing_from (some (some p)) s = held p.0 p.1 (events_on p.0 s)

-- post i by its latest accepted set-up or release, and what was accepted on that set-up's channel since
unfoldable pub standing : ℕ → Steps → Standing
standing i s = standing_from (newest (setting_of i) s) (since_newest (setting_of i) s)

abbrev pub holds_in : Standing → ℕ → Bool
holds_in free c = false
holds_in (held d lim h) c = eqb d c

-- a post's own accepted steps: its set-ups and releases, and what came on the channel that it held
abbrev pub own_of : ℕ → Steps → Steps
own_of i [] = []
own_of i (setUp j c lim ∷ s) = cond (eqb j i) (setUp j c lim ∷ own_of i s) (own_of i s)
own_of i (release j ∷ s) = cond (eqb j i) (release j ∷ own_of i s) (own_of i s)
own_of i (event c e ∷ s) = cond (holds_in (standing i s) c) (event c e ∷ own_of i s) (own_of i s)

-- ---- who holds a channel

-- the first of n numbers from k on that p holds of, and the next number where there is none
unfoldable pub find_from : (ℕ → Bool) → ℕ → ℕ → ℕ
find_from p k zero = k
find_from p k (suc n) = cond (p k) k (find_from p (suc k) n)

unfoldable pub holder : Steps → ℕ → ℕ
holder s c = find_from (λ i. holds_in (standing i s) c) 0 post_count

-- some of n posts from k on, but not post i, holds the channel
unfoldable pub other_holds : Steps → ℕ → ℕ → ℕ → ℕ → Bool
other_holds s i c k zero = false
other_holds s i c k (suc n) = cond (not (eqb k i) && holds_in (standing k s) c) true (other_holds s i c (suc k) n)

-- ---- 01's answers

-- the findings of an event, where the history has room for it
abbrev pub counted01 : PlainLimits → History → Event → Answer
counted01 lim h e = cond (is_full h) (Err CountFull) (Ok (findings01 lim h e))

-- the findings, or the reader's refusal
abbrev pub found01 : PlainLimits → History → ℕ → Arrival → Answer
found01 lim h t Tick = counted01 lim h (tick (stamp_of h t))
found01 lim h t (Frame k n) = counted01 lim h (frame (stamp_of h t) k n)
found01 lim h t (Unread w) = Err w

abbrev pub answer_in : Standing → ℕ → Arriving → Answer
answer_in free t a = Err ChannelFree
answer_in (held c lim h) t a = cond (earlier_in h t) (Err Earlier) (found01 lim h t (a lim))

-- 01: "1: channel above 31, or held by no post", then 2, then the reader's 3 to 6; 02, Req 08: then 25
unfoldable pub feed01 : Steps → ℕ → ℕ → Arriving → Answer
feed01 s c t a = cond (is_channel c && ltb (holder s c) post_count) (answer_in (standing (holder s c) s) t a) (Err ChannelFree)

-- 9, 10, 11, 12
unfoldable pub set_up01 : Steps → ℕ → ℕ → PlainLimits → Setting
set_up01 s i c lim =
    cond (is_post i)
    (cond (is_channel c)
    (cond (other_holds s i c 0 post_count) (Err ChannelTaken)
    (cond (limits_fit lim) (Ok tt)
    (Err LimitOutside)))
    (Err NoSuchChannel))
    (Err NoSuchPost)

abbrev pub is_held : Standing → Bool
is_held free = false
is_held (held c lim h) = true

-- 9, 14
unfoldable pub release01 : Steps → ℕ → Setting
release01 s i = cond (is_post i) (cond (is_held (standing i s)) (Ok tt) (Err NotSetUp)) (Err NoSuchPost)

abbrev pub shown_in : Standing → LookedUp
shown_in free = not_found NotSetUp
shown_in (held c lim h) = record { answer = Ok tt; shown = record_of c lim h }

unfoldable pub look_up01 : Steps → ℕ → LookedUp
look_up01 s i = cond (is_post i) (shown_in (standing i s)) (not_found NoSuchPost)

-- ---- the steps afterwards: an accepted one is added, a refused one is part of no history

abbrev pub event_in : History → ℕ → Arrival → Event
event_in h t Tick = tick (stamp_of h t)
event_in h t (Frame k n) = frame (stamp_of h t) k n
event_in h t (Unread w) = tick (stamp_of h t)

abbrev pub event_on : Standing → ℕ → Arriving → Event
event_on free t a = tick t
event_on (held c lim h) t a = event_in h t (a lim)

abbrev pub if_found : Answer → Step → Steps → Steps
if_found (Ok n) x s = x ∷ s
if_found (Err w) x s = s

unfoldable pub feed_steps : Steps → ℕ → ℕ → Arriving → Steps
feed_steps s c t a = if_found (feed01 s c t a) (event c (event_on (standing (holder s c) s) t a)) s

abbrev pub if_done : Setting → Step → Steps → Steps
if_done (Ok tt) x s = x ∷ s
if_done (Err w) x s = s

unfoldable pub set_up_steps : Steps → ℕ → ℕ → PlainLimits → Steps
set_up_steps s i c lim = if_done (set_up01 s i c lim) (setUp i c lim) s

unfoldable pub release_steps : Steps → ℕ → Steps
release_steps s i = if_done (release01 s i) (release i) s

-- ---- the posts that steps leave

abbrev pub kept_post : Standing → Post
kept_post free = free_post
kept_post (held c lim h) = post_of c lim h

unfoldable pub posts_of : Steps → List Post
posts_of s = map (λ i. kept_post (standing i s)) (count_from 0 post_count)

-- 01: "No channel is ever held by two posts."
unfoldable pub Apart : Steps → Type 0
Apart s = (i j c : ℕ) → i < post_count → j < post_count → holds_in (standing i s) c ≡ true → holds_in (standing j s) c ≡ true → i ≡ j

-- a post's channel and limits are in their ranges
abbrev pub InRange : Standing → Type 0
InRange free = Unit {0}
InRange (held c lim h) = (is_channel c ≡ true) × (limits_fit lim ≡ true)

-- a post's times are those of events that were accepted one after the other
abbrev pub InTime : Standing → Type 0
InTime free = Unit {0}
InTime (held c lim h) = Unrolled h

-- 02, Req 13: the index has a place for each channel, with the entry of the post that holds it
unfoldable pub Indexed : List ℕ → Steps → Type 0
Indexed xs s = (length xs ≡ channel_count) × ((c : ℕ) → c < channel_count → get_or xs c 0 ≡ entry_of (holder s c))

-- the table t stands for the accepted steps s
pub record Kept (t : Table) (s : Steps) : Type 0 where
  pub apart : Apart s
  pub ranges : (i : ℕ) → i < post_count → InRange (standing i s)
  pub times : (i : ℕ) → i < post_count → InTime (standing i s)
  pub posts : t.posts ≡ posts_of s
  pub index : Indexed t.index s

-- ---- a post hears right

abbrev pub grown : Answer → Event → History → History
grown (Ok n) e h = e ∷ h
grown (Err w) e h = h

-- what comes on the channel c to a post that stands on the channel d for the history h: 1 on another channel, and the history grows by what is accepted
pub record Hears01 (d : ℕ) (lim : PlainLimits) (h : History) (c t : ℕ) (a : Arrival) (r : Heard) : Type 0 where
  pub answer : r.answer ≡ cond (is_channel c && eqb d c) (cond (earlier_in h t) (Err Earlier) (found01 lim h t a)) (Err ChannelFree)
  pub post : stored (post_of d lim h) r.head r.at r.slot ≡ post_of d lim (grown r.answer (event_in h t a) h)

abbrev pub HearRight : Head → ℕ → ℕ → Arrival → Heard → Type 0
HearRight p c t a r = (d : ℕ) (lim : PlainLimits) (h : History) → p ≡ head_of d lim h → Unrolled h → Hears01 d lim h c t a r

-- ---- an operation is right

pub record FeedRight (s : Steps) (c t : ℕ) (a : Arriving) (r : Fed) : Type 0 where
  pub answer : r.answer ≡ feed01 s c t a
  pub kept : Kept r.table (feed_steps s c t a)

pub record SetUpRight (s : Steps) (i c : ℕ) (lim : PlainLimits) (r : Settled) : Type 0 where
  pub answer : r.answer ≡ set_up01 s i c lim
  pub kept : Kept r.table (set_up_steps s i c lim)

pub record ReleaseRight (s : Steps) (i : ℕ) (r : Settled) : Type 0 where
  pub answer : r.answer ≡ release01 s i
  pub kept : Kept r.table (release_steps s i)
