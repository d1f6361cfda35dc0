-- Without findings the first count alone changes; the last turn leaves every count with its bit.
use Rattle.std.proofs.Common.{ℕ, ◌+◌, ◌*◌, rules, refl, sym, ap, ◌∙◌}
use Rattle.rules.specs.After.{counted}
use Rattle.post_counts.proofs.Bits.{halves_next, bits_untouched, bits_next, bits_all, nothing_found}
use Rattle.post_counts.proofs.count.Goals as goal

pub returns-then-findings-eq0 : goal.returns-then-findings-eq0
returns-then-findings-eq0 c =
    nothing_found c.args.counts (search rules) ∙ ap (λ (n : ℕ). counted n c.args.counts) (sym c.if-findings-eq0.true)

pub loop-n-init : goal.loop-n-init
loop-n-init c = record { done = refl; left = ap (λ (n : ℕ). 1 + 2 * n) c.from.ensures }

pub loop-n-preserved : goal.loop-n-preserved
loop-n-preserved c = record {
  done = rw (c.with_bit.ensures, c.loop-n.invariant.done, c.loop-n.invariant.left, bits_untouched c.loop-n.n-index (1 + 2 * c.args.findings) c.args.counts) (bits_next c.loop-n.n-index _ _ (search rules));
  left = rw (halves_next, c.loop-n.invariant.left);
}

pub returns : goal.returns
unfolding counted
returns c = c.loop-n.invariant.done ∙ bits_all c.loop-n.n-index _ _ (search rules)
