-- `playing_calls::read_on`: by what stands at the byte.
use Rattle.std.proofs.Common.{sym, ◌∙◌, rules}
use Rattle.log_records.proofs.Entries.{entry_lies}
use Rattle.playing_calls.proofs.read_on.Goals as goal

pub told-requires : goal.told-requires
told-requires c =
    let a = c.args in
    ((entry_lies a.log.now a.at c.in-Record.e (sym c.record_at.ensures ∙ c.in-Record.is)).0, search rules)
