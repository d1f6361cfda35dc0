-- What the writer answers is short (`log_within`).
use Rattle.std.proofs.Common.{arith}
use Rattle.log_records.specs.Record.{tick}
use Rattle.plain_log.proofs.LogWords.{log_within}
use Rattle.plain_log.proofs.rokemaipu_log_tick.Goals as goal

pub logged_word-requires : goal.logged_word-requires
logged_word-requires c = rw c.write_tick.ensures.0 (log_within (tick c.args.time c.args.channel) c.args.out.now (omega arith))
