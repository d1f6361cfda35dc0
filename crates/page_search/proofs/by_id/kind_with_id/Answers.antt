-- `page_search::by_id::kind_with_id` meets its contract: each stretch of the messages stands for the kinds from its first on.
use Rattle.std.proofs.Common.{sym, ◌∙◌}
use Rattle.page_rows.specs.page_table.proofs.Scans.{newer_has, older_has, rest_has, none_have}
use Rattle.page_search.proofs.by_id.kind_with_id.Goals as goal

pub returns-in-Some : goal.returns-in-Some
returns-in-Some c = let a = c.args in newer_has a.id a.extended c.in-Some.k (sym c.place_in.ensures ∙ c.in-Some.is)

pub returns-in-Some-place_in : goal.returns-in-Some-place_in
returns-in-Some-place_in c = let a = c.args in older_has a.id a.extended c.in-Some-place_in.k (sym c.place_in-2.ensures ∙ c.in-Some-place_in.is)

pub returns-in-Some-place_in-2 : goal.returns-in-Some-place_in-2
returns-in-Some-place_in-2 c = let a = c.args in rest_has a.id a.extended c.in-Some-place_in-2.k (sym c.place_in-3.ensures ∙ c.in-Some-place_in-2.is)

pub returns : goal.returns
returns c =
    let a = c.args in
    none_have a.id a.extended (sym c.place_in.ensures ∙ c.in_default.is) (sym c.place_in-2.ensures ∙ c.in_default-place_in.is)
    (sym c.place_in-3.ensures ∙ c.in_default-place_in-2.is)
