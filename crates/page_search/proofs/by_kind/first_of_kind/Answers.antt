-- `page_search::by_kind::first_of_kind` meets its contract: the place that a kind's message tells, and no other number is a kind.
use Rattle.std.specs.Prelude.{Some}
use Rattle.std.proofs.Common.{sym, ap, ◌∙◌}
use Rattle.page_rows.specs.page_table.specs.declared.Message.{Message}
use Rattle.page_rows.specs.page_table.proofs.Heads.{first_place, no_kind}
use Rattle.page_search.proofs.by_kind.first_of_kind.Goals as goal

pub returns-then-kind-ge-MESSAGE_COUNT : goal.returns-then-kind-ge-MESSAGE_COUNT
returns-then-kind-ge-MESSAGE_COUNT c = sym (no_kind c.args.kind c.if-kind-ge-MESSAGE_COUNT.true)

pub returns : goal.returns
returns c = ap (λ (m : Message). Some m.4) c.message_at-at.ensures ∙ sym (first_place c.args.kind c.if-kind-ge-MESSAGE_COUNT.false)
