use Rattle.std.proofs.Common.{rules, ◌≡◌, ◌+◌, sym, ap, ◌∙◌, subst, List, length, arith}
use lib.ListN.{set}
use Rattle.rules.specs.declared.Post.{Post}
use Rattle.watch_rules.specs.Table.{post_count, no_post}
use Rattle.batch.specs.Parts.{joined}
use Rattle.batch.proofs.Filled.{Filled, filled_more, filled_whole}
use Rattle.batch.proofs.Joined.{joined_length, joined_at}
use Rattle.batch.proofs.table_of.Goals as goal

pub loop-i-preserved : goal.loop-i-preserved
loop-i-preserved c =
    let l = c.loop-i in
    let hs = c.args.heads in
    let ls = c.args.latest in
    let m : length hs ≡ post_count = search rules in
    let n : length ls ≡ post_count = search rules in
    subst (λ (x : Post). Filled post_count (joined hs ls) (set l.posts l.i x) (l.i + 1)) (joined_at hs ls l.i (omega arith) (omega arith))
    (filled_more post_count (joined hs ls) l.posts no_post l.i (joined_length hs ls (m ∙ sym n) ∙ m) (omega arith) l.invariant)

pub returns : goal.returns
returns c =
    let l = c.loop-i in
    let a = c.args in
    let m : length a.heads ≡ post_count = search rules in
    let n : length a.latest ≡ post_count = search rules in
    ap (λ (ps : List Post). record { posts = ps; index = a.index; refused = a.refused })
    (filled_whole post_count (joined a.heads a.latest) l.posts l.i (joined_length a.heads a.latest (m ∙ sym n) ∙ m) (omega arith) l.invariant)
