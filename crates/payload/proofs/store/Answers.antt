-- `payload::store` meets its contract: where the buffer is long enough its first bytes are filled.
use Rattle.std.proofs.Common.{◌≡◌, ℕ, ◌≤◌, Bool, List, ◌++◌, length, take, drop, sym, ap, ◌∙◌, arith}
use lib.Seq.{length-take-le}
use Rattle.payload.specs.Payload.{bytes_of, stored_in}
use Rattle.payload.proofs.Stored.{stored_in_lem, stored_not}
use Rattle.payload.proofs.store.Goals as goal

pub returns-then-buf-len : goal.returns-then-buf-len
returns-then-buf-len c = let a = c.args in sym (stored_not a.big a.len a.n a.buf.now c.if-buf-len.true)

-- k is as many bytes as were asked for, however it is told
filled : (big : Bool) (len n k : ℕ) (buf part : List ℕ) → len ≤ length buf → k ≡ len → part ≡ bytes_of big (length (take k buf)) n
    → part ++ drop k buf ≡ stored_in big len n buf
filled big len n k buf part room same h =
    ap (λ (l : List ℕ). l ++ drop k buf) (h ∙ ap (λ (x : ℕ). bytes_of big x n) (ap (λ (x : ℕ). length (take x buf)) same ∙ length-take-le len buf room))
    ∙ ap (λ (x : ℕ). bytes_of big len n ++ drop x buf) same
    ∙ sym (stored_in_lem big len n buf room)

pub returns : goal.returns
returns c = let a = c.args in filled a.big a.len a.n _ a.buf.now _ c.if-buf-len.false (grind arith) c.fill.ensures
