-- 02, Req 13, over any requests to the empty table: the index has 32 places, and at each the entry of the post that the search over the posts finds.
-- Over any table, also one whose index lies: what comes on a channel changes no post that does not hold it, and leaves the index as it was.
use Prim.Native.Nat.{ℕ, suc, ◌<◌}
use native.Mathlib.Omega.{arith}
use mathlib.Core.Path.{◌≡◌, refl, ap, sym, ◌∙◌}
use mathlib.Core.List.{List, [], ◌∷◌}
use mathlib.Core.Bool.{Bool, true, false, cond, ◌&&◌, true≢false}
use lib.Dec.{ltb}
use lib.ListN.{length, get_or, replicate}
use lib.Seq.{get_or-set_other}
use borrow.Author.Tests.{ltb-true, lt-ltb}
use Rattle.refusals.specs.declared.Refusal.TheVariants.{ChannelFree}
use Rattle.rule_limits.specs.declared.PlainLimits.{PlainLimits}
use Rattle.rule_limits.specs.Limits.{limits_fit}
use Rattle.rules.specs.declared.Post.{Post}
use Rattle.watch_rules.specs.declared.Table.{Table}
use Rattle.watch_rules.specs.Answer.{Fed}
use Rattle.watch_rules.specs.Table.{post_count, channel_count, is_channel, holds, place_of, no_post, post_in, entry_of, place_named, some_place, place_in, Arriving, ticking, refused, feed_at, feed_of, is_other, set_up_of, release_of}
use Rattle.watch_rules.specs.Steps.{holds_in, standing, holder, Indexed}
use Rattle.watch_rules.specs.Run.{Request, setUp, release, run, accepted}
use Rattle.watch_rules.proofs.Standings.{holder_holds, holder_first}
use Rattle.watch_rules.proofs.Placed.{holds_look, post_at, place_look}
use Rattle.watch_rules.proofs.Indexed.{feed_index}
use Rattle.watch_rules.proofs.Demand.{run_kept}

-- ---- after any requests

pub index_long : (rs : List Request) → length (run rs).index ≡ channel_count
unfolding Indexed
index_long rs = (run_kept rs).index.0

module _ (rs : List Request) (c : ℕ) (low : c < channel_count) where
  by-holder : get_or (run rs).index c 0 ≡ entry_of (holder (accepted rs) c)
  unfolding Indexed
  by-holder = (run_kept rs).index.1 c low

  -- the index is the search
  pub index_searched : get_or (run rs).index c 0 ≡ entry_of (place_of (run rs).posts c)
  index_searched = by-holder ∙ ap entry_of (sym (ap (λ (ps : List Post). place_of ps c) (run_kept rs).posts ∙ place_look (accepted rs) c))

  holds-in : (i : ℕ) → i < post_count → holds (post_in (run rs) i).head c ≡ holds_in (standing i (accepted rs)) c
  holds-in i h =
      ap (λ (p : Post). holds p.head c) (ap (λ (ps : List Post). get_or ps i no_post) (run_kept rs).posts ∙ post_at (accepted rs) i h)
      ∙ holds_look (standing i (accepted rs)) c

  -- whoever is named holds the channel
  pub named_holds : (i : ℕ) → get_or (run rs).index c 0 ≡ suc i → (i < post_count) × (holds (post_in (run rs) i).head c ≡ true)
  named_holds i e = go (ltb (holder (accepted rs) c) post_count) refl (sym by-holder ∙ e)
    where
      go : (b : Bool) → ltb (holder (accepted rs) c) post_count ≡ b → cond b (suc (holder (accepted rs) c)) 0 ≡ suc i → (i < post_count) × (holds (post_in (run rs) i).head c ≡ true)
      go true q d =
          let h : holder (accepted rs) c < post_count = ltb-true (holder (accepted rs) c) post_count q in
          let same : holder (accepted rs) c ≡ i = omega (arith, d) in
          rw (← same) (h, holds-in (holder (accepted rs) c) h ∙ holder_holds (accepted rs) c h)
      go false q d = absurd (let z : ⊥ = omega (arith, d) in z)

  -- and where nobody is named, nobody holds it
  pub none_named : get_or (run rs).index c 0 ≡ 0 → (i : ℕ) → i < post_count → holds (post_in (run rs) i).head c ≡ false
  none_named e i h = go (holds_in (standing i (accepted rs)) c) refl
    where
      go : (b : Bool) → holds_in (standing i (accepted rs)) c ≡ b → holds (post_in (run rs) i).head c ≡ false
      go false q = holds-in i h ∙ q
      go true q =
          let first = holder_first (accepted rs) c i h q in
          let z : entry_of (holder (accepted rs) c) ≡ suc (holder (accepted rs) c) = rw (lt-ltb (holder (accepted rs) c) post_count (omega (arith, first, h))) in
          absurd (let y : ⊥ = omega (arith, sym by-holder ∙ e, z) in y)

-- ---- any table, whatever its index says

either : {A : Type 0} (P : A → Type 0) (b : Bool) {x y : A} → (b ≡ true → P x) → P y → P (cond b x y)
either P true p q = p refl
either P false p q = q

and_second : (a b : Bool) → (a && b) ≡ true → b ≡ true
and_second true b e = e
and_second false b e = absurd (true≢false (sym e))

module _ (t : Table) (c : ℕ) where
  -- the post that an event goes to holds its channel
  pub place_holds : place_in t c < post_count → holds (post_in t (place_in t c)).head c ≡ true
  unfolding place_in
  place_holds = go (holds (post_in t (some_place t c)).head c) refl
    where
      go : (b : Bool) → holds (post_in t (some_place t c)).head c ≡ b → cond b (some_place t c) post_count < post_count
          → holds (post_in t (cond b (some_place t c) post_count)).head c ≡ true
      go true e l = e
      go false e l = absurd (let z : ⊥ = omega arith in z)

  -- no other post is touched
  pub others_stay : (time : ℕ) (a : Arriving) (j : ℕ) → holds (post_in t j).head c ≡ false → post_in (feed_of t c time a).table j ≡ post_in t j
  unfolding feed_of feed_at
  others_stay time a j free =
      either (λ (r : Fed). post_in r.table j ≡ post_in t j) (is_channel c && ltb (place_in t c) post_count)
      (λ e. get_or-set_other t.posts (place_in t c) j _ no_post (apart (ltb-true (place_in t c) post_count (and_second (is_channel c) (ltb (place_in t c) post_count) e))))
      refl
    where
      apart : place_in t c < post_count → j ≡ place_in t c → ⊥
      apart l e = true≢false (sym (place_holds l) ∙ ap (λ (i : ℕ). holds (post_in t i).head c) (sym e) ∙ free)

-- ---- on a night: post 3 is set up on channel 4 and then on 7, post 0 on 9 and released

abbrev limits : PlainLimits
limits = record { voltage = 5000; charge = 1000; discharge = 500; silence = 500; sensor = 0; interface = 0 }

abbrev night : List Request
night = release 0 ∷ setUp 3 7 limits ∷ setUp 0 9 limits ∷ setUp 3 4 limits ∷ []

computed : (get_or (run night).index 7 0 ≡ 4) × (get_or (run night).index 4 0 ≡ 0) × (get_or (run night).index 9 0 ≡ 0) × (place_of (run night).posts 7 ≡ 3)
unfolding run set_up_of release_of is_other place_of limits_fit
computed = (refl, refl, refl, refl)

pub all_places : length (run night).index ≡ 32
all_places = index_long night

pub search_7 : get_or (run night).index 7 0 ≡ entry_of (place_of (run night).posts 7)
search_7 = index_searched night 7 (omega arith)

pub holds_7 : holds (post_in (run night) 3).head 7 ≡ true
holds_7 = (named_holds night 7 (omega arith) 3 computed.0).1

-- the channel that post 3 left, and the one that was released
pub free_4 : holds (post_in (run night) 3).head 4 ≡ false
free_4 = none_named night 4 (omega arith) computed.1 3 (omega arith)

pub free_9 : holds (post_in (run night) 0).head 9 ≡ false
free_9 = none_named night 9 (omega arith) computed.2 0 (omega arith)

-- the same posts with an index that names post 0 for every channel: a tick on channel 7 goes to nobody, and one on 4 changes nobody
abbrev lying : Table
lying = record { posts = (run night).posts; index = replicate channel_count 1; refused = 0 }

pub not_believed : feed_of lying 7 100 ticking ≡ refused lying ChannelFree
unfolding run set_up_of release_of is_other place_of limits_fit feed_of place_in some_place place_named
not_believed = refl

pub untouched : (post_in (feed_of lying 4 100 ticking).table 3 ≡ post_in lying 3) × ((feed_of lying 4 100 ticking).table.index ≡ replicate channel_count 1)
untouched = (others_stay lying 4 100 ticking 3 free_4, feed_index lying 4 100 ticking)
