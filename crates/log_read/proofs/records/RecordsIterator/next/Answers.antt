-- `log_read::records::Records`: a record takes a byte at least, and ends within the log.
use Rattle.std.proofs.Common.{arith, sym, ◌∙◌}
use Rattle.log_read.proofs.Scans.{read_exact}
use Rattle.log_read.proofs.records.RecordsIterator.next.Goals as goal

pub returns-clause-goes : goal.returns-clause-goes
returns-clause-goes c =
    let x = read_exact c.args.self.now.log.now c.args.self.now.at c.in_ok-e.e c.if-self.false c.record_from.ensures (sym c.ok.ensures.value ∙ c.in_ok-e.was) in
    record { on = λ h. (tt, tt, omega (arith, x.0, x.1)); keeps = tt; rests = λ h. tt }
