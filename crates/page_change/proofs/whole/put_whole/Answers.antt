-- `page_change::whole::put_whole` meets its contract: `fill` fills the part of the buffer that is lent to it, and leaves the rest.
use mathlib.Core.Path.{◌≡◌, ap, ap₂, ◌∙◌}
use mathlib.Core.List.{List, ◌++◌}
use Prim.Native.Nat.{ℕ, ◌+◌, ◌-◌}
use native.Mathlib.Nat.{le-add_right}
use native.Mathlib.Omega.{arith}
use lib.ListN.{length, take, drop}
use borrow.Rule.Slice.PartMut.{mid_len, Post-is}
use Rattle.payload.specs.Payload.{bytes_of}
use Rattle.page_change.proofs.whole.put_whole.Goals as goal

pub returns : goal.returns
returns c =
    let bs = c.args.bytes.now in
    let a = c.args.at in
    let k = c.args.k in
    let size : length (take (c.args.at + c.args.k - c.args.at) (drop c.args.at c.args.bytes.now)) ≡ c.args.k
    = mid_len a (a + k) bs c.requires ∙ omega arith in
    let stored : c.fill.new.buf ≡ bytes_of c.args.big c.args.k c.args.v
    = c.fill.ensures ∙ ap (λ (x : ℕ). bytes_of c.args.big x c.args.v) size in
    ap₂ (λ (l r : List ℕ). take a bs ++ (l ++ r)) stored (Post-is a (a + k) bs (le-add_right a k))
