-- `log_write::store::store_head` meets its contract: each number is stored where the one before it ended.
use Rattle.log_write.proofs.Stores.{head_stored}
use Rattle.log_write.proofs.store.store_head.Goals as goal

pub returns : goal.returns
returns c =
    let a = c.args in
    let n₁ = c.store_number-a in
    let n₂ = c.store_number-b in
    let n₃ = c.store_number-c in
    let n₄ = c.store_number in
    head_stored a.out.now n₁.new.out n₂.new.out n₃.new.out n₄.new.out a.time a.channel a.p a.n n₁.result n₂.result n₃.result n₄.result
    n₁.ensures n₂.ensures n₃.ensures n₄.ensures
