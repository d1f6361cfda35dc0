-- `playing_calls::told`: the record is fed, counted, and told by its line.
use Rattle.std.proofs.Common.{refl}
use Rattle.playing_nights.proofs.Steps.{line_told}
use Rattle.playing_calls.proofs.told.Goals as goal

pub returns : goal.returns
returns c =
    let a = c.args in
    line_told a.r a.log.now a.e a.line.now
    c.fed-f.ensures
    refl
    c.place-post.ensures.0
    c.write-bytes.ensures
