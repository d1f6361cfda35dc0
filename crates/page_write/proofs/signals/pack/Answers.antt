-- `page_write::signals::pack` meets its contract.
use Rattle.std.proofs.Common.{◌≡◌, ℕ, suc, ◌+◌, ◌-◌, ◌<◌, ◌≤◌, true, false, List, ◌∷◌, length, get_or, drop, ℤ, pos, sym, ap, ap₂, ◌∙◌, arith, drop_of_length-le, drop-cons, w64, to_z, of_z, rules}
use Rattle.page_read.specs.page_table.specs.declared.Row.{Row}
use Rattle.page_read.specs.page_table.specs.Table.{rows, block, signal_count}
use Rattle.page_write.specs.Raws.{row_takes, put_raw}
use Rattle.page_read.specs.page_table.proofs.Rules.{fine_at}
use Rattle.page_read.specs.page_table.proofs.Walk.{block_in, block_out, block_end}
use Rattle.page_write.proofs.AtRow.{labels_at_lem}
use Rattle.page_write.proofs.Packing.{pack_from, from_start, from_none, from_short, from_taken, from_refused}
use Rattle.page_write.proofs.signals.pack.Goals as goal

pub loop-i-init : goal.loop-i-init
loop-i-init c =
    let a = c.args in
    let none : a.at - a.at ≡ 0 = omega arith in
    ap (λ (x : ℕ). pack_from 0 (block a.kind (drop a.at rows)) (drop x a.raws)) none ∙ from_start (block a.kind (drop a.at rows)) a.raws

pub row_takes-requires : goal.row_takes-requires
row_takes-requires c = let e = c.row_at-r.ensures in (fine_at _ _ (omega arith) e, labels_at_lem _ _ (omega arith) e)

-- a row and its number, before those that are left
split : (k i j : ℕ) (r : Row) (zs : List ℤ) (n : ℕ) → block k (drop i rows) ≡ r ∷ block k (drop (i + 1) rows) → j < length zs
    → pack_from n (block k (drop i rows)) (drop j zs) ≡ pack_from n (r ∷ block k (drop (i + 1) rows)) (get_or zs j (pos 0) ∷ drop (suc j) zs)
split k i j r zs n e h = ap₂ (pack_from n) e (drop-cons zs j (pos 0) h)

pub put_raw-n-requires : goal.put_raw-n-requires
put_raw-n-requires c = (fine_at _ _ (omega arith) c.row_at-r.ensures, sym c.row_takes.ensures ∙ c.if-not-row_takes.false)

pub loop-i-preserved : goal.loop-i-preserved
loop-i-preserved c =
    let a = c.args in
    let l = c.loop-i in
    let r = c.row_at-r.result in
    let j = l.i - a.at in
    let z = get_or a.raws j (pos 0) in
    let rs = block a.kind (drop (l.i + 1) rows) in
    let full : length a.raws ≡ signal_count = search rules in
    let there : c.in_ok-z.field-0.now ≡ z = c.in_ok-z.ensures.lookup.3.1 (pos 0) in
    let same : to_z w64 (of_z w64 c.in_ok-z.field-0.now) ≡ z = rw there (search rules) in
    let taken : row_takes r z ≡ true = ap (row_takes r) (sym same) ∙ sym c.row_takes.ensures ∙ c.if-not-row_takes.false in
    let next : l.i + 1 - a.at ≡ suc j = omega arith in
    ap₂ (λ (m x : ℕ). pack_from m rs (drop x a.raws)) (c.put_raw-n.ensures ∙ ap (put_raw r l.n) same) next
    ∙ sym (from_taken l.n r rs z (drop (suc j) a.raws) taken)
    ∙ sym (split a.kind l.i j r a.raws l.n (block_in a.kind l.i r (omega arith) c.row_at-r.ensures c.if-r-kind.false) c.in_ok-z.ensures.lookup.3.0)
    ∙ l.invariant

pub returns-in_err-z : goal.returns-in_err-z
returns-in_err-z c =
    let a = c.args in
    let l = c.loop-i in
    let r = c.row_at-r.result in
    let over : length a.raws ≤ l.i - a.at = c.in_err-z.ensures.lookup.3 in
    c.from_residual.ensures
    ∙ sym
    (ap₂ (pack_from l.n) (block_in a.kind l.i r (omega arith) c.row_at-r.ensures c.if-r-kind.false) (drop_of_length-le a.raws over)
    ∙ from_short l.n r (block a.kind (drop (l.i + 1) rows)))
    ∙ l.invariant

pub returns-then-not-row_takes : goal.returns-then-not-row_takes
returns-then-not-row_takes c =
    let a = c.args in
    let l = c.loop-i in
    let r = c.row_at-r.result in
    let j = l.i - a.at in
    let z = get_or a.raws j (pos 0) in
    let full : length a.raws ≡ signal_count = search rules in
    let there : c.in_ok-z.field-0.now ≡ z = c.in_ok-z.ensures.lookup.3.1 (pos 0) in
    let same : to_z w64 (of_z w64 c.in_ok-z.field-0.now) ≡ z = rw there (search rules) in
    let not : row_takes r z ≡ false = ap (row_takes r) (sym same) ∙ sym c.row_takes.ensures ∙ c.if-not-row_takes.true in
    sym (from_refused l.n r (block a.kind (drop (l.i + 1) rows)) z (drop (suc j) a.raws) not)
    ∙ sym (split a.kind l.i j r a.raws l.n (block_in a.kind l.i r (omega arith) c.row_at-r.ensures c.if-r-kind.false) c.in_ok-z.ensures.lookup.3.0)
    ∙ l.invariant

pub returns-then-r-kind : goal.returns-then-r-kind
returns-then-r-kind c =
    let a = c.args in
    let l = c.loop-i in
    let zs = drop (l.i - a.at) a.raws in
    sym (ap (λ (rs : List Row). pack_from l.n rs zs) (block_out a.kind l.i c.row_at-r.result (omega arith) c.row_at-r.ensures c.if-r-kind.true) ∙ from_none l.n zs)
    ∙ l.invariant

pub returns : goal.returns
returns c =
    let a = c.args in
    let l = c.loop-i in
    let zs = drop (l.i - a.at) a.raws in
    sym (ap (λ (rs : List Row). pack_from l.n rs zs) (block_end a.kind l.i (omega arith)) ∙ from_none l.n zs) ∙ l.invariant
