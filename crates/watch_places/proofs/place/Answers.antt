-- The search goes on, it ends at the posts' end, or it is there.
use Rattle.std.proofs.Common.{◌≡◌, sym, ◌∙◌, length, rules, arith}
use Rattle.watch_rules.specs.Table.{post_count}
use Rattle.watch_places.proofs.Search.{place_on_lem, place_here, place_end}
use Rattle.watch_places.proofs.place.Goals as goal

pub loop-i-preserved : goal.loop-i-preserved
loop-i-preserved c =
    let a = c.args in
    let n : length a.t.posts ≡ post_count = search rules in
    let at = c.loop-i in
    record {
      passed = omega arith;
      left = place_on_lem a.t.posts at.i a.channel at.invariant.left (omega arith) (sym c.holds_channel.ensures ∙ c.if-holds_channel.false);
    }

pub returns-then-i-ge-POSTS : goal.returns-then-i-ge-POSTS
returns-then-i-ge-POSTS c =
    let a = c.args in
    let n : length a.t.posts ≡ post_count = search rules in
    let at = c.loop-i in
    (sym (place_end a.t.posts at.i a.channel at.invariant.left (omega arith)), omega arith)

pub returns-then-holds_channel : goal.returns-then-holds_channel
returns-then-holds_channel c =
    let a = c.args in
    let n : length a.t.posts ≡ post_count = search rules in
    let at = c.loop-i in
    (sym (place_here a.t.posts at.i a.channel at.invariant.left (omega arith) (sym c.holds_channel.ensures ∙ c.if-holds_channel.true)), omega arith)
