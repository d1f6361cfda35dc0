-- `playing_setups::set_up`, by the course.
use Rattle.std.proofs.Common.{◌∙◌}
use Rattle.playing_nights.proofs.Steps.{set_up_on_lem}
use Rattle.playing_setups.proofs.set_up.Goals as goal

pub returns-in-SetUps : goal.returns-in-SetUps
returns-in-SetUps c =
    let a = c.args in
    c.settle.ensures ∙ set_up_on_lem a.r a.post a.channel a.limits _ c.in-SetUps.is

pub returns-in-Records : goal.returns-in-Records
returns-in-Records c =
    let a = c.args in
    set_up_on_lem a.r a.post a.channel a.limits _ c.in-Records.is

pub returns-in-Refused : goal.returns-in-Refused
returns-in-Refused c =
    let a = c.args in
    set_up_on_lem a.r a.post a.channel a.limits _ c.in-Refused.is
