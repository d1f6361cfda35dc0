-- A message's bytes are few, and they are stored where there is room for them.
use Rattle.std.proofs.Common.{rules, ap₂, ◌∙◌, ℕ, ◌≤◌, length, Bool, arith}
use Rattle.payload.specs.Payload.{stored_in}
use Rattle.payload.proofs.Stored.{stored_in_lem}
use Rattle.page_table.specs.Table.{length_of, big_of}
use Rattle.page_table.proofs.Rules.{short_length}
use Rattle.lent_latest.proofs.hand_out.Goals as goal

pub overflow_cast-result : goal.overflow_cast-result
overflow_cast-result c = record { fits = omega (arith, c.length_of-len.ensures, short_length c.args.l.kind) }

pub returns-clause-bytes : goal.returns-clause-bytes
returns-clause-bytes c =
    let a = c.args in
    let long : length_of a.l.kind ≤ length a.buf.now = rw c.length_of-len.ensures at c.if-buf-len.false in
    let e = c.store.ensures
    ∙ ap₂ (λ (b : Bool) (len : ℕ). stored_in b len a.l.raw a.buf.now) c.is_big.ensures c.length_of-len.ensures
    ∙ stored_in_lem (big_of a.l.kind) (length_of a.l.kind) a.l.raw a.buf.now long in
    rw e (search rules)
