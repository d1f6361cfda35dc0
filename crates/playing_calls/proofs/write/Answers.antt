-- `playing_calls::write`: a line fits, so that the words stand in the buffer as one text.
use Rattle.std.proofs.Common.{ap, ◌∙◌, length, arith, rules}
use Rattle.text_pen.proofs.Turns.{sheets}
use Rattle.playing_line.specs.Lines.{line_of, laid}
use Rattle.playing_line.proofs.Lengths.{line_short}
use Rattle.playing_line.proofs.Laid.{whole_line}
use Rattle.playing_calls.proofs.write.Goals as goal

pub returns : goal.returns
returns c =
    let a = c.args in
    let y = c.new-sheet in
    let w = c.words.ensures in
    let p = c.requires in
    let l = whole_line a.count a.post a.a y.result y.ensures.pen
    (omega (arith, line_short a.count a.post a.a (search rules) (omega (arith, p.1)) w.1, p.0, ap length y.ensures.text)) w.0 in
    (l.0, grind (arith, sheets) ∙ l.1 ∙ ap (laid (line_of a.count a.post a.a)) y.ensures.text)
