-- `page_write::at_row::put_raw` meets its contract: the bits of a number that the row takes fit the row's signal.
use Rattle.std.proofs.Common.{ℕ, ◌-◌, ◌*◌, ◌%◌, ◌^◌, ◌∙◌, ap₂}
use lib.Bits.{bit_and, bit_or}
use Rattle.signal.specs.Raw.{bits_in}
use Rattle.signal.proofs.Masks.{put_masked}
use Rattle.signal.proofs.RawLaws.{bits_lt}
use Rattle.page_write.proofs.AtRow.{takes_fits, low_row}
use Rattle.page_write.proofs.at_row.put_raw.Goals as goal

pub returns : goal.returns
returns c =
    let r = c.args.r in
    let n = c.args.n in
    let z = c.args.z in
    let f = takes_fits r z c.requires.1 in
    ap₂ (λ (m x : ℕ). bit_or (bit_and n ((2 ^ 64 - 1) - m * 2 ^ r.low % 2 ^ 64)) (x * 2 ^ r.low % 2 ^ 64)) c.ones-most.ensures
    (low_row r c.requires.0 z c.ranges.z c.cast_unsigned.result c.ones-most.result c.cast_unsigned.ensures c.ones-most.ensures f)
    ∙ put_masked n r.low r.width (bits_in r.signed r.width z) c.ranges.n.fits c.requires.0.2
    (bits_lt r.signed r.width c.requires.0.0 z f)
