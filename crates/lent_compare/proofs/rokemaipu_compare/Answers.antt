-- `lent_compare::rokemaipu_compare` meets its contract: 8 where there are no two places, and else what `compare` answers, as a word.
use Rattle.std.proofs.Common.{refl, sym, length, ◌<◌, [], ◌∷◌, rules}
use lib.Seq.{sets-eq}
use borrow.Author.Tests.{lt-ltb}
use Rattle.lent_compare.proofs.Answers.{told_word}
use Rattle.lent_compare.proofs.rokemaipu_compare.Goals as goal

pub returns-in_default : goal.returns-in_default
returns-in_default c =
    let n = c.args.numbers.now in
    let few : length n < 2 = search rules in
    rw (lt-ltb (length n) 2 few) (c.refusal_word.ensures, refl, refl, refl, refl)

pub returns-in-Ok : goal.returns-in-Ok
returns-in-Ok c =
    let n = c.args.numbers.now in
    let h = rw c.in-Some.is at c.first_chunk_mut.ensures.cases in
    told_word c.args.a.now c.args.b.now c.args.first.now c.args.second.now c.args.places.now n h.enough c.in-Ok.ensures
    (refl, sym (sets-eq (c.in-Ok.listed.first ∷ c.in-Ok.listed.second ∷ []) n 0 h.enough))

pub returns-in-Err : goal.returns-in-Err
returns-in-Err c =
    let n = c.args.numbers.now in
    let h = rw c.in-Some.is at c.first_chunk_mut.ensures.cases in
    told_word c.args.a.now c.args.b.now c.args.first.now c.args.second.now c.args.places.now n h.enough c.in-Err.ensures
    (c.refusal_word-in-Err.ensures, rw c.from.ensures (sym (sets-eq (c.in-Err.unlisted.side ∷ c.in-Err.unlisted.at ∷ []) n 0 h.enough)))
