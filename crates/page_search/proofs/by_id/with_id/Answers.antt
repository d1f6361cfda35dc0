-- `page_search::by_id::with_id` meets its contract: what the kind that was found says of its message.
use Rattle.std.specs.Prelude.{Some}
use Rattle.std.proofs.Common.{sym, ap, ◌∙◌}
use Rattle.page_rows.specs.page_table.specs.declared.Message.{Message}
use Rattle.page_rows.specs.page_table.specs.Table.{rows, first_at, has_id}
use Rattle.page_rows.specs.page_table.proofs.Firsts.{id_kind_lem}
use Rattle.page_rows.specs.page_table.proofs.Heads.{kind_message}
use Rattle.page_search.proofs.by_id.with_id.Goals as goal

pub returns : goal.returns
returns c =
    let a = c.args in
    let kind = c.in_ok-k.k in
    ap (λ (m : Message). Some (kind, m.4, m.2, m.3)) c.message_at-bytes.ensures
    ∙ kind_message kind (first_at (has_id a.id a.extended) 0 rows) (sym c.kind_with_id.ensures ∙ c.in_ok-k.was) (id_kind_lem a.id a.extended)
