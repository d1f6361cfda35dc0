-- The default of each field that is not given.
use Rattle.std.proofs.Common.{rules, ◌≡◌, replicate}
use Rattle.post_times.specs.rules.specs.Record.{place_count, unknown}
use Rattle.post_times.specs.rules.specs.After.{count_count, kept_count}
use Rattle.post.proofs.Empty.{all_same}
use Rattle.post.proofs.fresh_post.Goals as goal

pub returns : goal.returns
returns c =
    let latest : c.default-2.result.latest ≡ replicate place_count unknown = all_same _ unknown (λ x p. search rules) _ place_count c.default-2.ensures.1 in
    let counts : c.default.result.counts ≡ replicate count_count 0 = all_same _ 0 (λ x p. search rules) _ count_count c.default.ensures.1.1.1.1.0 in
    let kept : c.default.result.session.kept ≡ replicate kept_count unknown = all_same _ unknown (λ x p. search rules) _ kept_count c.default.ensures.1.1.1.1.1.1.1.1.1.1.1 in
    search (rules, latest, counts, kept)
