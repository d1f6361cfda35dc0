-- What the writer answers is short (`log_within`).
use Rattle.std.proofs.Common.{arith}
use Rattle.log_records.specs.Record.{frame}
use Rattle.plain_log.proofs.LogWords.{log_within}
use Rattle.plain_log.proofs.rokemaipu_log_frame.Goals as goal

pub logged_word-requires : goal.logged_word-requires
logged_word-requires c =
    let a = c.args in
    rw c.write_frame.ensures.0 (log_within (frame a.time a.channel a.extended a.id a.payload.now) a.out.now (omega arith))
