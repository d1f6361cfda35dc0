-- `playing_calls::next_line`: 8 first, then the course, then what stands at the byte.
use Rattle.std.proofs.Common.{refl, inl, inr}
use Rattle.playing_nights.proofs.Steps.{likewise, call_short, call_on}
use Rattle.playing_calls.proofs.next_line.Goals as goal

pub returns-then-line-lt-LINE : goal.returns-then-line-lt-LINE
returns-then-line-lt-LINE c =
    let a = c.args in
    likewise a.r a.line.now (call_short a.r a.log.now a.at _ c.if-line-lt-LINE.true) (c.unheard.ensures, refl)

pub returns-in-SetUps : goal.returns-in-SetUps
returns-in-SetUps c =
    let a = c.args in
    elim c.in-SetUps.is [
      | inl e ↦ likewise a.r a.line.now (call_on a.r a.log.now a.at _ _ c.if-line-lt-LINE.false e) c.read_on.ensures
      | inr e ↦ likewise a.r a.line.now (call_on a.r a.log.now a.at _ _ c.if-line-lt-LINE.false e) c.read_on.ensures
    ]

pub returns-in-Refused : goal.returns-in-Refused
returns-in-Refused c =
    let a = c.args in
    likewise a.r a.line.now (call_on a.r a.log.now a.at _ _ c.if-line-lt-LINE.false c.in-Refused.is) (c.unheard-in-Refused.ensures, refl)
