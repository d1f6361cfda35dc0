-- `compare_logs::split::Parts::of`: a log that is broken, one of too many records, and one whose arrays hold them all.
use Rattle.std.proofs.Common.{refl, arith, Ok, Err}
use Rattle.std.proofs.lemmas.Result.{err_from_is_err_and}
use Rattle.compare_logs.proofs.Splits.{split_is}
use Rattle.compare_logs.proofs.split.Parts.of.Goals as goal

pub returns-in_err-count : goal.returns-in_err-count
returns-in_err-count c =
    let p = err_from_is_err_and c.from_residual.result c.from_residual.ensures.1 in
    rw (p.1, p.2) (split_is c.args.bytes.now (Err c.in_err-count.field-0.0) c.take_apart.ensures.0 c.in_err-count.was)

pub returns-then-count-gt-MOST : goal.returns-then-count-gt-MOST
returns-then-count-gt-MOST c =
    let q = split_is c.args.bytes.now (Ok c.in_ok-count.count) c.take_apart.ensures.0 c.in_ok-count.was in
    (q.0, omega (arith, q.1, c.if-count-gt-MOST.true))

pub invariant_of-result : goal.invariant_of-result
invariant_of-result c =
    let n = c.in_ok-count.count in
    let q = split_is c.args.bytes.now (Ok n) c.take_apart.ensures.0 c.in_ok-count.was in
    record { ready = (c.if-count-gt-MOST.false, omega (arith, q.1), c.take_apart.ensures.1 n c.in_ok-count.was c.if-count-gt-MOST.false) }

pub returns : goal.returns
returns c =
    let q = split_is c.args.bytes.now (Ok c.in_ok-count.count) c.take_apart.ensures.0 c.in_ok-count.was in
    (q.0, refl)
