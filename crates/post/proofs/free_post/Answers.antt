-- The default of each field.
use Rattle.std.proofs.Common.{rules, ◌≡◌, replicate}
use Rattle.post_times.specs.rules.specs.Record.{place_count, unknown}
use Rattle.post_times.specs.rules.specs.After.{count_count, kept_count}
use Rattle.post.proofs.Empty.{all_same}
use Rattle.post.proofs.free_post.Goals as goal

pub returns : goal.returns
returns c =
    let h = c.default.ensures in
    let latest : c.default.result.latest ≡ replicate place_count unknown = all_same _ unknown (λ x p. search rules) _ place_count h.1 in
    let counts : c.default.result.head.counts ≡ replicate count_count 0 = all_same _ 0 (λ x p. search rules) _ count_count h.0.1.1.1.1.0 in
    let kept : c.default.result.head.session.kept ≡ replicate kept_count unknown = all_same _ unknown (λ x p. search rules) _ kept_count h.0.1.1.1.1.1.1.1.1.1.1.1 in
    search (rules, latest, counts, kept)
