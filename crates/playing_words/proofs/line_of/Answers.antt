-- `playing_words::line_of`: 8 where there is no place for the next byte, else what `next_line` answers and leaves.
use Rattle.std.proofs.Common.{◌≡◌, ◌≤◌, ◌<◌, length, get_or, refl, rules}
use borrow.Author.Tests.{lt-ltb}
use Rattle.playing_words.specs.Plain.{line_by, line_left, next_after}
use Rattle.playing_words.proofs.Cases.{place_left, line_by_lem}
use Rattle.playing_words.proofs.line_of.Goals as goal

pub returns-in_default : goal.returns-in_default
unfolding line_by line_left next_after
returns-in_default c =
    let a = c.args in
    let none : length a.next.now < 1 = search rules in
    rw (lt-ltb (length a.next.now) 1 none, c.refusal_word.ensures) (refl, refl, refl)

pub returns : goal.returns
returns c =
    let a = c.args in
    let some : 1 ≤ length a.next.now = search rules in
    let first : c.in-Some.place.now ≡ get_or a.next.now 0 0 = search rules in
    line_by_lem a.r a.log.now a.at a.line.now a.next.now some c.from.ensures c.next_line-x.ensures
    (c.told.ensures.0, place_left c.next_line-x.result.answer a.next.now c.in-Some.place.now c.told.new.place some first c.told.ensures.1)
