-- `page_search::by_id::place_in` meets its contract: the walk ends at the first message that has the key, or past all.
use Rattle.std.proofs.Common.{refl, sym, ap, ◌∙◌}
use Rattle.std.specs.List.{position_from}
use Rattle.std.proofs.lemmas.List.{drop_all}
use borrow.Author.Tests.{eq-eqb, ne_eqb}
use Rattle.page_search.proofs.Positions.{has_key, here, later, whole}
use Rattle.page_search.proofs.by_id.place_in.Goals as goal

pub messages-init : goal.messages-init
messages-init c = refl

pub messages-preserved : goal.messages-preserved
messages-preserved c =
    let a = c.args in
    c.messages.invariant
    ∙ later (has_key a.id a.extended) c.messages.k a.messages.now _ c.if-messages-k.false (ne_eqb _ _ (λ e. c.if-key-wanted.false (c.key.ensures ∙ e ∙ sym c.key-wanted.ensures)))

pub returns-then-messages-k : goal.returns-then-messages-k
returns-then-messages-k c =
    let a = c.args in
    let p = has_key a.id a.extended in
    sym (sym (whole p a.messages.now) ∙ c.messages.invariant ∙ ap (position_from p c.messages.k) (drop_all c.messages.k a.messages.now c.if-messages-k.true))

pub returns-then-key-wanted : goal.returns-then-key-wanted
returns-then-key-wanted c =
    let a = c.args in
    let p = has_key a.id a.extended in
    sym (sym (whole p a.messages.now) ∙ c.messages.invariant
    ∙ here p c.messages.k a.messages.now _ c.if-messages-k.false (eq-eqb _ _ (sym c.key.ensures ∙ c.if-key-wanted.true ∙ c.key-wanted.ensures)))
