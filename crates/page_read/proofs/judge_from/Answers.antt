-- `page_read::judge_from` meets its contract: refusals 3, 4 and 15 by the first row with the identifier, and `other` by its interface; 5 and 6 by that
-- message's rows, or 5 by its labels alone where every bit is a signal's.
use Rattle.std.specs.Prelude.{None, Err}
use Rattle.std.proofs.lemmas.Result.{err_from_is_err_and}
use mathlib.Core.Path.{sym, ap, ◌∙◌}
use mathlib.Core.List.{List}
use native.Mathlib.Omega.{arith}
use Rattle.refusals.specs.declared.Refusal.TheVariants.{UnknownIdentifier}
use Rattle.page_search.specs.page_table.specs.declared.Row.{Row}
use Rattle.page_search.specs.page_table.specs.Table.{rows, rows_of, has_id, first_at}
use Rattle.page_read.specs.Steps.{offence_of, cleared, judged_by}
use Rattle.page_read.proofs.Covered.{cleared_none}
use Rattle.page_read.proofs.Searched.{unanswered, answered, searched, none_found, answer_foreign, answer_short, answer_long, judging, answer_number}
use Rattle.page_read.proofs.judge_from.Goals as goal

pub returns-in_err-kind : goal.returns-in_err-kind
returns-in_err-kind c =
    let a = c.args in
    let p = err_from_is_err_and c.from_residual.result c.from_residual.ensures.1 in
    let w = unanswered c.with_id.result UnknownIdentifier _ (sym c.ok_or.ensures.value ∙ c.in_err-kind.was) in
    p.1
    ∙ ap Err (p.2 ∙ w.1)
    ∙ searched a.iface a.other a.id a.extended a.bytes.now None (none_found (first_at (has_id a.id a.extended) 0 rows) (sym c.with_id.ensures ∙ w.0))

pub returns-then-not-is_on : goal.returns-then-not-is_on
returns-then-not-is_on c =
    let a = c.args in
    let s = c.in_ok-kind in
    answer_foreign a.iface a.other a.id a.extended a.bytes.now s.kind s.at s.len s.big (answered c.with_id.ensures c.ok_or.ensures.ok_part s.was) (sym c.is_on.ensures ∙ c.if-not-is_on.true)

pub returns-then-bytes-len : goal.returns-then-bytes-len
returns-then-bytes-len c =
    let a = c.args in
    let s = c.in_ok-kind in
    answer_short a.iface a.other a.id a.extended a.bytes.now s.kind s.at s.len s.big (answered c.with_id.ensures c.ok_or.ensures.ok_part s.was) (sym c.is_on.ensures ∙ c.if-not-is_on.false)
    c.if-bytes-len.true

pub returns-then-len-bytes : goal.returns-then-len-bytes
returns-then-len-bytes c =
    let a = c.args in
    let s = c.in_ok-kind in
    answer_long a.iface a.other a.id a.extended a.bytes.now s.kind s.at s.len s.big (answered c.with_id.ensures c.ok_or.ensures.ok_part s.was) (sym c.is_on.ensures ∙ c.if-not-is_on.false)
    c.if-len-bytes.true

pub returns-then-has_gaps : goal.returns-then-has_gaps
returns-then-has_gaps c =
    let a = c.args in
    let s = c.in_ok-kind in
    let n = c.number-n.result in
    let found = answered c.with_id.ensures c.ok_or.ensures.ok_part s.was in
    let t = judging a.iface a.other a.id a.extended a.bytes.now s.kind s.at s.len s.big found n (λ j. omega (arith, c.type_inv.bytes j)) (omega (arith, c.if-bytes-len.false, c.if-len-bytes.false)) c.number-n.ensures in
    c.judge_number.ensures ∙ ap (λ (rs : List Row). judged_by s.kind n (offence_of n rs) (cleared rs n)) t.1
    ∙ answer_number a.iface a.other a.id a.extended a.bytes.now s.kind s.at s.len s.big found (sym c.is_on.ensures ∙ c.if-not-is_on.false) n t

pub returns : goal.returns
returns c =
    let a = c.args in
    let s = c.in_ok-kind in
    let n = c.number-n.result in
    let found = answered c.with_id.ensures c.ok_or.ensures.ok_part s.was in
    let t = judging a.iface a.other a.id a.extended a.bytes.now s.kind s.at s.len s.big found n (λ j. omega (arith, c.type_inv.bytes j)) (omega (arith, c.if-bytes-len.false, c.if-len-bytes.false)) c.number-n.ensures in
    c.judge_labels.ensures ∙ ap (judged_by s.kind n (offence_of n (rows_of s.kind))) (sym (cleared_none s.kind n t.3 (sym c.has_gaps.ensures ∙ c.if-has_gaps.false) t.2))
    ∙ answer_number a.iface a.other a.id a.extended a.bytes.now s.kind s.at s.len s.big found (sym c.is_on.ensures ∙ c.if-not-is_on.false) n t
