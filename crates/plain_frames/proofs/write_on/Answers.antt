-- A message has at most 8 bytes, and their number fits.
use Rattle.std.proofs.Common.{sym, ◌∙◌, subst, arith}
use Rattle.page_bounds.proofs.Bounds.{SmallWritten, write_small}
use Rattle.plain_frames.proofs.write_on.Goals as goal

pub overflow_cast-result : goal.overflow_cast-result
overflow_cast-result c =
    let a = c.args in
    omega (arith, subst SmallWritten (sym c.write_raws.ensures.0 ∙ c.in_ok-len.was) (write_small a.kind c.in_ok-zs.zs.now a.buf.now))
