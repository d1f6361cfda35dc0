-- Each place of the array shows the latest frame of that place.
use Rattle.std.proofs.Common.{rules}
use Rattle.std.specs.Prelude.{None}
use Rattle.rules.specs.declared.Slot.{Slot}
use Rattle.rules.specs.Record.{place_count, unknown}
use Rattle.rules.specs.After.{dated_in}
use Rattle.post_record.proofs.Made.{mapped}
use Rattle.post_record.proofs.messages_of.Goals as goal

pub returns : goal.returns
returns c =
    mapped _ _ (λ (l : Slot). dated_in c.args.now l) (λ x y q call. search rules) c.args.slots c.map.result unknown None place_count c.map.ensures.items
