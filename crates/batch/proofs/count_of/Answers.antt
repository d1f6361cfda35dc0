-- The first pass tells the case (`Judged.antt`).
use Rattle.std.proofs.Common.{arith}
use Rattle.log_read.specs.declared.Ending.TheVariants as ending
use Rattle.batch_rules.proofs.Laws.{few_records}
use Rattle.batch.proofs.Judged.{told, told_broken, why_bytes, why_record, why_answers, why_none}
use Rattle.batch.proofs.count_of.Goals as goal

pub returns-then-records-gt-MOST : goal.returns-then-records-gt-MOST
returns-then-records-gt-MOST c = why_bytes c.args.records.now c.args.places c.if-records-gt-MOST.true

pub returns-in_default : goal.returns-in_default
returns-in_default c =
    let s = c.args.records.now in
    why_record s c.args.places c.if-records-gt-MOST.false (told_broken s c.scan_log-scan.ensures c.in_default.not-Clean)

pub returns-then-places-scan : goal.returns-then-places-scan
returns-then-places-scan c =
    let s = c.args.records.now in
    let k = told s c.scan_log-scan.ensures ending.Clean c.in-Clean.is in
    why_answers s c.args.places c.if-records-gt-MOST.false k.0 (omega (arith, k.1, c.if-places-scan.true))

pub returns : goal.returns
returns c =
    let s = c.args.records.now in
    let k = told s c.scan_log-scan.ensures ending.Clean c.in-Clean.is in (
      why_none s c.args.places c.if-records-gt-MOST.false k.0 (omega (arith, k.1, c.if-places-scan.false)),
      omega (arith, k.1),
      c.if-places-scan.false,
      omega (arith, k.1, few_records s, c.if-records-gt-MOST.false),
    )
