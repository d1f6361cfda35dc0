-- At each place stands its post's head.
use Rattle.std.proofs.Common.{rules, ◌≡◌, ◌∙◌, ℕ, get_or, length, map}
use lib.ListN.{length-map, get_or-map}
use Rattle.rules.specs.declared.Head.{Head}
use Rattle.rules.specs.declared.Post.{Post}
use Rattle.watch_rules.specs.Table.{post_count, no_post}
use Rattle.batch.proofs.Made.{made}
use Rattle.batch.proofs.heads_of.Goals as goal

abbrev part : Post → Head
part p = p.head

pub returns : goal.returns
returns c =
    let ps = c.args.t.posts in
    let n : length ps ≡ post_count = search rules in
    made _ _ (λ (i : ℕ). part (get_or ps i no_post)) (λ i y q call. search rules) (map part ps) c.from_fn.result (part no_post) post_count c.from_fn.ensures.items
    (length-map ps part ∙ n) (λ k below. get_or-map part ps k no_post)
