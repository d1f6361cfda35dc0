-- The first place is that of the search from row k on. The measure is what is left of the messages.
use Rattle.std.proofs.Common.{length, ◌-◌, ◌≡◌, drop}
use Rattle.std.specs.List.{position_from}
use Rattle.page_search.proofs.Positions.{has_key}
use Rattle.page_search.proofs.by_id.place_in.Given as goal

abbrev pub invariant-messages : goal.invariant-messages
invariant-messages l = position_from (has_key l.id l.extended) 0 l.messages ≡ position_from (has_key l.id l.extended) l.k (drop l.k l.messages)

abbrev pub decreases-messages : goal.decreases-messages
decreases-messages l = length l.messages - l.k
