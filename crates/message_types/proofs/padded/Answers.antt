use Rattle.std.proofs.Common.{◌≡◌, length, ◌++◌, take, drop, ℕ, arith, subst, sym}
use Rattle.std.proofs.lemmas.Grind.{common_steps}
use Prim.Native.Nat.{min}
use Rattle.message_laws.specs.page_write.specs.Raws.{pad, signal_count}
use Rattle.message_types.proofs.Padding.{zeros, pad_is}
use Rattle.message_types.proofs.padded.Goals as goal

pub returns : goal.returns
returns g c =
    let raws = c.args.raws in
    let all : length raws ≡ g.row.N = grind (arith, common_steps) in
    let n : min (length raws) 16 ≡ c.min-n.result = subst (λ (k : ℕ). min k 16 ≡ c.min-n.result) (sym all) (sym c.min-n.ensures) in
    rw c.copy_from_slice.ensures.after
    (subst (λ (k : ℕ). take k raws ++ drop k (zeros signal_count) ≡ pad signal_count raws) n (pad_is signal_count raws))
