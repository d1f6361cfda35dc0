use Rattle.std.proofs.Common.{rules, ◌≡◌, ◌+◌, ◌∙◌, subst, List, map, length, arith}
use lib.ListN.{set, length-map, get_or-map}
use Rattle.rules.specs.declared.Slot.{Slot}
use Rattle.rules.specs.declared.Post.{Post}
use Rattle.watch_rules.specs.Table.{post_count, no_post}
use Rattle.batch.proofs.Filled.{Filled, filled_more, filled_whole}
use Rattle.batch.proofs.latest_of.Goals as goal

abbrev part : Post → List Slot
part p = p.latest

pub loop-i-preserved : goal.loop-i-preserved
loop-i-preserved c =
    let l = c.loop-i in
    let ps = c.args.t.posts in
    let n : length ps ≡ post_count = search rules in
    subst (λ (x : List Slot). Filled post_count (map part ps) (set l.latest l.i x) (l.i + 1)) (get_or-map part ps l.i no_post)
    (filled_more post_count (map part ps) l.latest (part no_post) l.i (length-map ps part ∙ n) (omega arith) l.invariant)

pub returns : goal.returns
returns c =
    let l = c.loop-i in
    let ps = c.args.t.posts in
    let n : length ps ≡ post_count = search rules in
    filled_whole post_count (map part ps) l.latest l.i (length-map ps part ∙ n) (omega arith) l.invariant
