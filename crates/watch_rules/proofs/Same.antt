-- What comes to `some_place` is the table's step: the post that the index names hears it where it holds the channel, and else turns it away
-- and is stored as it was.
use Rattle.std.specs.Prelude.{Err}
use Prim.Native.Nat.{ℕ, ◌%◌, ◌<◌}
use native.Mathlib.Omega.{arith}
use mathlib.Core.Path.{◌≡◌, refl, ap}
use mathlib.Core.Bool.{Bool, true, false}
use lib.ListN.{get_or}
use borrow.Author.Tests.{lt-ltb}
use Rattle.refusals.specs.declared.Refusal.TheVariants.{ChannelFree}
use Rattle.watch_rules.specs.declared.Table.{Table}
use Rattle.watch_rules.specs.Answer.{Fed}
use Rattle.watch_rules.specs.Table.{post_count, channel_count, is_channel, holds, post_in, place_named, some_place, place_in, Arriving, turned_away, heard_of, refused, fed_by, feed_at, feed_of}
use Rattle.watch_rules.proofs.Refusing.{put_same}

pub named_low : (x : ℕ) → place_named x < post_count
unfolding place_named
named_low x = omega arith

pub some_low : (t : Table) (c : ℕ) → some_place t c < post_count
unfolding some_place
some_low t c = named_low (get_or t.index (c % channel_count) 0)

-- the place that is asked is the channel's exactly where its post holds it
pub place_named_lem : (t : Table) (c : ℕ) → holds (post_in t (some_place t c)).head c ≡ true → place_in t c ≡ some_place t c
unfolding place_in
place_named_lem t c f = rw f

pub place_past : (t : Table) (c : ℕ) → holds (post_in t (some_place t c)).head c ≡ false → place_in t c ≡ post_count
unfolding place_in
place_past t c f = rw f

pub feed_same : (t : Table) (c time : ℕ) (a : Arriving) → feed_at t (some_place t c) c time a ≡ feed_of t c time a
unfolding feed_of feed_at heard_of
feed_same t c time a = go (is_channel c) (holds (post_in t (some_place t c)).head c) refl refl
  where
    stays : (i : ℕ) → ◌≡◌ {A = Fed} (fed_by t i (turned_away (post_in t i).head ChannelFree)) (refused t ChannelFree)
    stays i = ap (λ (u : Table). record { table = u; answer = Err ChannelFree }) (put_same t i ChannelFree)

    go : (b d : Bool) → is_channel c ≡ b → holds (post_in t (some_place t c)).head c ≡ d → feed_at t (some_place t c) c time a ≡ feed_of t c time a
    go false d e f = rw e (stays (some_place t c))
    go true false e f = rw (e, place_past t c f, f) (stays (some_place t c))
    go true true e f = rw (e, place_named_lem t c f, lt-ltb (some_place t c) post_count (some_low t c))
