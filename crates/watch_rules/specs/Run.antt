-- Any sequence of requests from the empty table, newest first: what the operations answer, and which requests were accepted.
use Rattle.std.specs.Prelude.{ℕ, ◌+◌, ◌<◌, List, [], ◌∷◌, Bool, true, false, not, ◌&&◌, ◌≡◌, eqb, Ok, Err}
use Rattle.rule_limits.specs.declared.PlainLimits.{PlainLimits}
use Rattle.watch_rules.specs.declared.Table.{Table}
use Rattle.watch_rules.specs.Answer.{Answer}
use Rattle.watch_rules.specs.Setting.{Setting}
use Rattle.rule_asks.specs.Judgements.{bit}
use Rattle.watch_rules.specs.Table.{post_count, one_refused, empty_table, framing, ticking, feed_of, set_up_of, release_of}
use Rattle.watch_rules.specs.Steps.{Steps, standing, holds_in, feed01, set_up01, release01, feed_steps, set_up_steps, release_steps}

-- post, channel, limits; post; channel, time, identifier, extended or not, payload; channel, time
pub data Request : Type 0 where
  setUp : ℕ → ℕ → PlainLimits → Request
  release : ℕ → Request
  frame : ℕ → ℕ → ℕ → Bool → List ℕ → Request
  tick : ℕ → ℕ → Request

pub data Reply : Type 0 where
  set : Setting → Reply
  fed : Answer → Reply

-- what the operations' first promise says of a request to a table
abbrev pub reply : Table → Request → Reply
reply t (setUp i c lim) = set (set_up_of t i c lim).answer
reply t (release i) = set (release_of t i).answer
reply t (frame c time m x bs) = fed (feed_of t c time (framing m x bs)).answer
reply t (tick c time) = fed (feed_of t c time ticking).answer

abbrev pub next : Table → Request → Table
next t (setUp i c lim) = (set_up_of t i c lim).table
next t (release i) = (release_of t i).table
next t (frame c time m x bs) = (feed_of t c time (framing m x bs)).table
next t (tick c time) = (feed_of t c time ticking).table

-- the table after requests, newest first
unfoldable pub run : List Request → Table
run [] = empty_table
run (a ∷ earlier) = next (run earlier) a

-- 01's reply over accepted steps, and the steps with the request where it is accepted
abbrev pub reply01 : Steps → Request → Reply
reply01 s (setUp i c lim) = set (set_up01 s i c lim)
reply01 s (release i) = set (release01 s i)
reply01 s (frame c time m x bs) = fed (feed01 s c time (framing m x bs))
reply01 s (tick c time) = fed (feed01 s c time ticking)

abbrev pub steps01 : Steps → Request → Steps
steps01 s (setUp i c lim) = set_up_steps s i c lim
steps01 s (release i) = release_steps s i
steps01 s (frame c time m x bs) = feed_steps s c time (framing m x bs)
steps01 s (tick c time) = feed_steps s c time ticking

-- the requests that were accepted
unfoldable pub accepted : List Request → Steps
accepted [] = []
accepted (a ∷ earlier) = steps01 (accepted earlier) a

-- ---- what the theorems ask of a request, a reply and a table

-- what a refused request leaves of a table: a frame or a tick is counted
abbrev pub after_refusal : Table → Request → Table
after_refusal t (setUp i c lim) = t
after_refusal t (release i) = t
after_refusal t (frame c time m x bs) = one_refused t
after_refusal t (tick c time) = one_refused t

abbrev pub is_refusal : Reply → Bool
is_refusal (set (Ok tt)) = false
is_refusal (set (Err w)) = true
is_refusal (fed (Ok n)) = false
is_refusal (fed (Err w)) = true

-- a request is about post j where it sets it up or releases it, or comes on the channel that it holds
abbrev pub concerns : Steps → Request → ℕ → Bool
concerns s (setUp i c lim) j = eqb i j
concerns s (release i) j = eqb i j
concerns s (frame c time m x bs) j = holds_in (standing j s) c
concerns s (tick c time) j = holds_in (standing j s) c

-- no post holds the channel c
abbrev pub Unheld : Steps → ℕ → Type 0
Unheld s c = (i : ℕ) → i < post_count → holds_in (standing i s) c ≡ false

-- a frame or tick on the channel c
abbrev pub arrives_on : ℕ → Request → Bool
arrives_on c (setUp i d lim) = false
arrives_on c (release i) = false
arrives_on c (frame d time m x bs) = eqb d c
arrives_on c (tick d time) = eqb d c

-- ---- 02, Req 08: what was handed in, accepted and refused, counted over the requests themselves, also past releases

abbrev pub is_arrival : Request → Bool
is_arrival (setUp i c lim) = false
is_arrival (release i) = false
is_arrival (frame c time m x bs) = true
is_arrival (tick c time) = true

abbrev pub handed_in : List Request → ℕ
handed_in [] = 0
handed_in (a ∷ earlier) = bit (is_arrival a) 1 + handed_in earlier

abbrev pub refused_ever : List Request → ℕ
refused_ever [] = 0
refused_ever (a ∷ earlier) = bit (is_arrival a && is_refusal (reply01 (accepted earlier) a)) 1 + refused_ever earlier

abbrev pub accepted_ever : List Request → ℕ
accepted_ever [] = 0
accepted_ever (a ∷ earlier) = bit (is_arrival a && not (is_refusal (reply01 (accepted earlier) a))) 1 + accepted_ever earlier

-- ---- requests in the order in which they arrive

abbrev pub run_from : Table → List Request → Table
run_from t [] = t
run_from t (a ∷ later) = run_from (next t a) later

abbrev pub replies_from : Table → List Request → List Reply
replies_from t [] = []
replies_from t (a ∷ later) = reply t a ∷ replies_from (next t a) later

abbrev pub accepted_from : Steps → List Request → Steps
accepted_from s [] = s
accepted_from s (a ∷ later) = accepted_from (steps01 s a) later

abbrev pub replies01_from : Steps → List Request → List Reply
replies01_from s [] = []
replies01_from s (a ∷ later) = reply01 s a ∷ replies01_from (steps01 s a) later
