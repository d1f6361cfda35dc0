-- `messages::read` meets its contract: the message of the kind and payload number that the pages' reader answers, or its refusal.
use Rattle.std.specs.Prelude.{Ok, Err}
use Rattle.std.proofs.lemmas.Result.{err_from_is_err_and}
use mathlib.Core.Path.{◌≡◌, sym, ap, ◌∙◌}
use mathlib.Core.Bool.{Bool}
use mathlib.Core.List.{List}
use Prim.Native.Nat.{ℕ}
use Rattle.page_read.specs.Judged.{Judged}
use Rattle.page_read.specs.Judge.{judge_of}
use Rattle.messages.specs.Read.{reading_of, read_of}
use Rattle.messages.proofs.read.Goals as goal

-- the reader's answer by numbers, made the message's
read_by : (m : ℕ) (x : Bool) (bs : List ℕ) (j : Judged) → j ≡ judge_of m x bs → reading_of j ≡ read_of m x bs
unfolding read_of
read_by m x bs j e = ap reading_of e

pub returns-in_err-kind : goal.returns-in_err-kind
returns-in_err-kind c =
    let a = c.args in
    let p = err_from_is_err_and c.from_residual.result c.from_residual.ensures.1 in
    p.1 ∙ ap Err p.2 ∙ read_by a.id a.extended a.bytes.now _ (sym c.in_err-kind.was ∙ c.judge.ensures)

pub returns : goal.returns
returns c =
    let a = c.args in
    ap Ok c.message_of.ensures ∙ read_by a.id a.extended a.bytes.now _ (sym c.in_ok-kind.was ∙ c.judge.ensures)
