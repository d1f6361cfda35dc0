-- Place k has the tally of finding k + 1.
use Rattle.std.proofs.Common.{ℕ, ◌+◌, get_or, rules}
use Rattle.rules.specs.After.{finding_count}
use Rattle.post_record.proofs.Made.{made}
use Rattle.post_record.proofs.tallies_of.Goals as goal

pub returns : goal.returns
returns c = made _ _ (λ (k : ℕ). get_or c.args.counts (k + 1) 0) (λ i y q call. search rules) c.from_fn.result 0 finding_count c.from_fn.ensures.items
