-- Each operation's answer and table, for every table. What they are for a table that accepted steps left stands in Steps.
use Rattle.std.specs.Prelude.{ℕ, suc, ◌+◌, ◌-◌, ◌%◌, List, [], ◌∷◌, Bool, cond, not, ◌&&◌, ltb, leb, eqb, get_or, set, replicate, Ok, Err}
use Rattle.refusals.specs.declared.Refusal.{Refusal}
use Rattle.refusals.specs.declared.Refusal.TheVariants.{ChannelFree, Earlier, NoSuchPost, NoSuchChannel, ChannelTaken, LimitOutside, NotSetUp, CountFull}
use Rattle.page_read.specs.Judged.{Judged}
use Rattle.page_interfaces.specs.Foreign.{judge_for}
use Rattle.rule_limits.specs.declared.PlainLimits.{PlainLimits}
use Rattle.rule_limits.specs.Limits.{limits_fit}
use Rattle.page_table.specs.Interfaces.{interface_of}
use Rattle.rules.specs.declared.Session.{Session}
use Rattle.rules.specs.declared.Head.{Head}
use Rattle.rules.specs.declared.Post.{Post}
use Rattle.rules.specs.declared.AfterEvent.{AfterEvent}
use Rattle.rules.specs.declared.Record.{Record}
use Rattle.rules.specs.Record.{place_count, is_set, unknown}
use Rattle.rules.specs.Counts.{largest}
use Rattle.rules.specs.After.{is_early, is_full_in, after_tick, after_frame, stored, no_limits, free_post, fresh_post, post_record}
use Rattle.watch_rules.specs.declared.Table.{Table}
use Rattle.watch_rules.specs.Answer.{Answer, Fed}
use Rattle.watch_rules.specs.declared.Heard.{Heard}
use Rattle.watch_rules.specs.Setting.{Settled}
use Rattle.watch_rules.specs.declared.LookedUp.{LookedUp}
use Rattle.watch_rules.specs.declared.Arrival.{Arrival}
use Rattle.watch_rules.specs.declared.Arrival.TheVariants.{Tick, Frame, Unread}

-- 02, Req 13: "sixteen posts": 9 begins at 16
abbrev pub post_count : ℕ
post_count = 16

abbrev pub channel_count : ℕ
channel_count = 32

-- 01: "channel above 31"
abbrev pub is_channel : ℕ → Bool
is_channel c = leb c 31

-- ---- who holds a channel, by a search over the posts; the index is proved equal to it (proofs/Index.antt)

abbrev pub holds : Head → ℕ → Bool
holds p c = is_set p.used && eqb p.channel c

-- the place of the first post that holds the channel, and the length where none does
unfoldable pub place_of : List Post → ℕ → ℕ
place_of [] c = 0
place_of (p ∷ ps) c = cond (holds p.head c) 0 (suc (place_of ps c))

abbrev pub put_in : Table → ℕ → Post → Table
put_in t i p = record { posts = set t.posts i p; index = t.index; refused = t.refused }

-- what `get_or` answers past the posts: no numbers, no elements
abbrev pub no_session : Session
no_session = record { opened = 0; since = 0; first = 0; kept = [] }

abbrev pub no_head : Head
no_head = record { used = 0; channel = 0; limits = no_limits; heard = 0; time = 0; controller = unknown; parameters = unknown; session = no_session; counts = [] }

abbrev pub no_post : Post
no_post = record { head = no_head; latest = [] }

abbrev pub post_in : Table → ℕ → Post
post_in t i = get_or t.posts i no_post

-- ---- the channel index (02, Req 13): a number for each channel, one more than that of the post that holds it, and 0 where none does

abbrev pub entry_of : ℕ → ℕ
entry_of i = cond (ltb i post_count) (suc i) 0

-- the post that an entry names, and some post where it names none: 16 comes round to 15, and so does 0
unfoldable pub place_named : ℕ → ℕ
place_named x = (x + (post_count - 1)) % post_count

-- where what comes on a channel is heard: a place of the table in any case, also of a number that is no channel, which is asked there
unfoldable pub some_place : Table → ℕ → ℕ
some_place t c = place_named (get_or t.index (c % channel_count) 0)

-- that place, where its post holds the channel, whatever the index says, and else the number of posts
unfoldable pub place_in : Table → ℕ → ℕ
place_in t c = cond (holds (post_in t (some_place t c)).head c) (some_place t c) post_count

abbrev pub with_entry : Table → ℕ → ℕ → Table
with_entry t c x = record { posts = t.posts; index = set t.index c x; refused = t.refused }

-- no post is named for the channel that a head held
abbrev pub unnamed : Table → Head → Table
unnamed t p = record { posts = t.posts; index = cond (is_set p.used) (set t.index p.channel 0) t.index; refused = t.refused }

-- ---- frames and ticks

abbrev pub arrival_of : Judged → Arrival
arrival_of (Ok (k, n)) = Frame k n
arrival_of (Err w) = Unread w

-- what comes to a post is read by the limits that it was set up with: 02, Req 11, by the pages of its interface, and 29 in 3's place
abbrev pub Arriving : Type 0
Arriving = PlainLimits → Arrival

abbrev pub arrival_for : PlainLimits → ℕ → Bool → List ℕ → Arrival
arrival_for lim m x bs = arrival_of (judge_for (interface_of lim.interface) m x bs)

abbrev pub framing : ℕ → Bool → List ℕ → Arriving
framing m x bs lim = arrival_for lim m x bs

abbrev pub ticking : Arriving
ticking lim = Tick

-- a refused event leaves the head as it was and fills no slot
abbrev pub turned_away : Head → Refusal → Heard
turned_away p w = record { head = p; slot = unknown; at = place_count; answer = Err w }

abbrev pub heard_by : AfterEvent → Heard
heard_by r = record { head = r.head; slot = r.slot; at = r.at; answer = Ok r.findings }

-- 02, Req 08: "A frame or tick that would take its post's count past the largest is refused with a new number, judged after all others"
abbrev pub unless_full : Head → Heard → Heard
unless_full p r = cond (is_full_in p) (turned_away p CountFull) r

abbrev pub judged_of : Head → ℕ → Arrival → Heard
judged_of p t Tick = unless_full p (heard_by (after_tick p t))
judged_of p t (Frame k n) = unless_full p (heard_by (after_frame p t k n))
judged_of p t (Unread w) = turned_away p w

-- 1 where the post does not hold the channel, then 2, then the reader's 3 to 6 with 29 in 3's place, then 25
unfoldable pub heard_of : Head → ℕ → ℕ → Arrival → Heard
heard_of p c t a =
    cond (is_channel c && holds p c)
    (cond (is_early p t) (turned_away p Earlier) (judged_of p t a))
    (turned_away p ChannelFree)

-- 02, Req 08: "The refused count stays at 4,294,967,295 once there"
unfoldable pub one_more : ℕ → ℕ
one_more n = cond (ltb n largest) (n + 1) n

abbrev pub refused_after : ℕ → Answer → ℕ
refused_after n (Ok f) = n
refused_after n (Err w) = one_more n

-- what a refused frame or tick leaves: "that count is now the only thing a refused one changes"
abbrev pub one_refused : Table → Table
one_refused t = record { posts = t.posts; index = t.index; refused = one_more t.refused }

abbrev pub refused : Table → Refusal → Fed
refused t w = record { table = one_refused t; answer = Err w }

abbrev pub with_post : Table → ℕ → Post → Answer → Table
with_post t i p w = record { posts = set t.posts i p; index = t.index; refused = refused_after t.refused w }

-- the table with what the post at i heard
abbrev pub fed_by : Table → ℕ → Heard → Fed
fed_by t i r = record { table = with_post t i (stored (post_in t i) r.head r.at r.slot) r.answer; answer = r.answer }

-- what comes to the post at i; what comes to `some_place` is `feed_of` (`feed_same`, proofs/Same.antt)
unfoldable pub feed_at : Table → ℕ → ℕ → ℕ → Arriving → Fed
feed_at t i c time a = fed_by t i (heard_of (post_in t i).head c time (a (post_in t i).head.limits))

unfoldable pub feed_of : Table → ℕ → ℕ → Arriving → Fed
feed_of t c time a =
    cond (is_channel c && ltb (place_in t c) post_count) (feed_at t (place_in t c) c time a) (refused t ChannelFree)

-- ---- set-up, release, look-up

abbrev pub empty_table : Table
empty_table = record { posts = replicate post_count free_post; index = replicate channel_count 0; refused = 0 }

-- a place of the table, and another than i
unfoldable pub is_other : ℕ → ℕ → Bool
is_other at i = ltb at post_count && not (eqb at i)

abbrev pub is_post : ℕ → Bool
is_post i = ltb i post_count

abbrev pub unsettled : Table → Refusal → Settled
unsettled t w = record { table = t; answer = Err w }

abbrev pub settled : Table → Settled
settled t = record { table = t; answer = Ok tt }

-- the post i with what it was set up with: the index names it for its channel, and no post for the channel that it held before
abbrev pub seat : Table → ℕ → ℕ → Post → Table
seat t i c p = with_entry (unnamed (put_in t i p) (post_in t i).head) c (suc i)

-- the post i as it was before any set-up
abbrev pub unseat : Table → ℕ → Table
unseat t i = unnamed (put_in t i free_post) (post_in t i).head

unfoldable pub set_up_of : Table → ℕ → ℕ → PlainLimits → Settled
set_up_of t i c lim =
    cond (is_post i)
    (cond (is_channel c)
    (cond (is_other (place_of t.posts c) i) (unsettled t ChannelTaken)
    (cond (limits_fit lim) (settled (seat t i c (fresh_post c lim)))
    (unsettled t LimitOutside)))
    (unsettled t NoSuchChannel))
    (unsettled t NoSuchPost)

unfoldable pub release_of : Table → ℕ → Settled
release_of t i =
    cond (is_post i)
    (cond (is_set (post_in t i).head.used) (settled (unseat t i)) (unsettled t NotSetUp))
    (unsettled t NoSuchPost)

abbrev pub no_record : Record
no_record = post_record free_post

abbrev pub not_found : Refusal → LookedUp
not_found w = record { answer = Err w; shown = no_record }

unfoldable pub look_up_of : Table → ℕ → LookedUp
look_up_of t i =
    cond (is_post i)
    (cond (is_set (post_in t i).head.used)
    (record { answer = Ok tt; shown = post_record (post_in t i) })
    (not_found NotSetUp))
    (not_found NoSuchPost)
