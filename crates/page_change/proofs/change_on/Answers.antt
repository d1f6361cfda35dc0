-- `page_change::change_on` meets its contract: the reader's refusal is handed on, then 13, then the row's, and the changed signal is stored.
use Rattle.std.proofs.lemmas.Result.{err_from_is_err_and}
use mathlib.Core.Path.{refl, sym, ap, ◌∙◌}
use mathlib.Core.Bool.{Bool}
use lib.ListN.{length}
use mir.Facts.{to_z-of_z}
use Rattle.payload.specs.Payload.{bytes_of}
use Rattle.refusals.specs.declared.Refusal.TheVariants.{NoSignal}
use Rattle.page_write.specs.page_table.specs.Table.{is_signal}
use Rattle.page_write.specs.page_table.proofs.Rules.{fine_at}
use Rattle.page_write.specs.page_table.proofs.Firsts.{found_in}
use Rattle.page_write.specs.page_read.proofs.Searched.{unanswered, answered}
use Rattle.page_change.specs.Change.{bytes_after}
use Rattle.page_change.proofs.Asked.{ended, unread, unfound, by_row}
use Rattle.page_change.proofs.Stored.{storing}
use Rattle.page_change.proofs.change_on.Goals as goal

pub returns-in_default : goal.returns-in_default
returns-in_default c =
    let a = c.args in
    ended a.bytes.now _ _ c.judge_on-read.result _ c.in_default.is refl (unread a.iface a.id a.extended a.bytes.now a.start a.raw _ (sym c.judge_on-read.ensures ∙ c.in_default.is))

pub returns-in_err-i : goal.returns-in_err-i
returns-in_err-i c =
    let a = c.args in
    let k = c.in-Ok in
    let p = err_from_is_err_and c.from_residual.result c.from_residual.ensures.1 in
    let w = unanswered c.signal_at.result NoSignal _ (sym c.ok_or.ensures.value ∙ c.in_err-i.was) in
    ended a.bytes.now NoSignal _ _ _ p.1 (p.2 ∙ w.1)
    (unfound a.iface a.id a.extended a.bytes.now a.start a.raw k.kind k.n (sym c.judge_on-read.ensures ∙ k.is) (sym c.signal_at.ensures ∙ w.0))

pub change_row-requires : goal.change_row-requires
change_row-requires c =
    let s = answered c.signal_at.ensures c.ok_or.ensures.ok_part c.in_ok-i.was in
    fine_at _ _ (found_in (is_signal c.in-Ok.kind c.args.start) c.in_ok-i.i s).0 c.row_at-r.ensures

pub returns-in_err-kind : goal.returns-in_err-kind
returns-in_err-kind c =
    let a = c.args in
    let k = c.in-Ok in
    let s = answered c.signal_at.ensures c.ok_or.ensures.ok_part c.in_ok-i.was in
    let whole = by_row a.iface a.id a.extended a.bytes.now a.start a.raw _ k.kind k.n c.in_ok-i.i _ (sym c.judge_on-read.ensures ∙ k.is) s c.row_at-r.ensures (to_z-of_z c.ranges.raw) in
    let p = err_from_is_err_and c.from_residual-in_err-kind.result c.from_residual-in_err-kind.ensures.1 in
    ended a.bytes.now _ _ _ _ p.1 p.2 (sym (c.change_row.ensures ∙ whole) ∙ c.in_err-kind.was)

pub store_changed-requires : goal.store_changed-requires
store_changed-requires c =
    let a = c.args in
    let k = c.in-Ok in
    let d = c.in_ok-kind in
    let j = sym c.judge_on-read.ensures ∙ k.is in
    let s = answered c.signal_at.ensures c.ok_or.ensures.ok_part c.in_ok-i.was in
    let whole = by_row a.iface a.id a.extended a.bytes.now a.start a.raw _ k.kind k.n c.in_ok-i.i _ j s c.row_at-r.ensures (to_z-of_z c.ranges.raw) in
    let t = storing a.iface a.id a.extended a.bytes.now a.start a.raw k.kind k.n c.in_ok-i.i d.kind d.number c.bits.result c.row_at-r.result
    j s c.row_at-r.ensures (sym (c.change_row.ensures ∙ whole) ∙ d.was) c.ranges.raw c.bits.ensures in
    (t.some, t.within, t.narrow, t.put)

pub returns : goal.returns
returns c =
    let a = c.args in
    let k = c.in-Ok in
    let d = c.in_ok-kind in
    let j = sym c.judge_on-read.ensures ∙ k.is in
    let s = answered c.signal_at.ensures c.ok_or.ensures.ok_part c.in_ok-i.was in
    let whole = by_row a.iface a.id a.extended a.bytes.now a.start a.raw _ k.kind k.n c.in_ok-i.i _ j s c.row_at-r.ensures (to_z-of_z c.ranges.raw) in
    let e = sym d.was ∙ c.change_row.ensures ∙ whole in
    let t = storing a.iface a.id a.extended a.bytes.now a.start a.raw k.kind k.n c.in_ok-i.i d.kind d.number c.bits.result c.row_at-r.result
    j s c.row_at-r.ensures (sym e) c.ranges.raw c.bits.ensures in
    (e, c.store_changed.ensures ∙ ap (λ (x : Bool). bytes_of x (length a.bytes.now) d.number) t.same ∙ ap (bytes_after a.bytes.now) e)
