-- One digit more, and the last one.
use Rattle.std.proofs.Common.{◌≡◌, ℕ, ◌+◌, ◌-◌, ◌/◌, ◌^◌, ◌≤◌, ◌<◌, sym, refl, subst, ◌∙◌, arith}
use lib.ListN.{length-set}
use Rattle.text_numbers.proofs.Numerals.{shorter}
use Rattle.playing_answers.proofs.Stored.{more, last}
use Rattle.playing_answers.proofs.Line.put_digits.Goals as goal

pub loop-rest-preserved : goal.loop-rest-preserved
loop-rest-preserved c =
    let at = c.self.inside.at in
    let l = c.loop-rest in
    let room = l.self-inside.room in
    let s = shorter 10 l.rest (l.i + 20 - at) (omega arith) c.loop-rest-test.true l.invariant.places in
    let two : 2 ≤ l.i + 20 - at = s.0 in
    let e : l.i + 20 - at - 1 ≡ l.i - 1 + 20 - at = omega arith in
    record {
      whole_room = length-set room (l.i - 1) _ ∙ l.invariant.whole_room;
      enough = omega arith;
      one_more = omega arith;
      below = omega arith;
      places = subst (λ (k : ℕ). l.rest / 10 < 10 ^ k) e s.1;
      text = sym (more room l.i l.rest (omega arith) (omega arith) c.loop-rest-test.true _ refl) ∙ l.invariant.text;
    }

pub returns-clause-text : goal.returns-clause-text
returns-clause-text c =
    let l = c.loop-rest in
    sym (last l.self-inside.room l.i l.rest (omega arith) (omega arith) c.loop-rest-test.false _ refl) ∙ l.invariant.text
