-- `page_change::change_row` meets its contract: at a fine row `fits` and `bits` answer for the row's signal.
use Rattle.std.specs.Prelude.{Ok, Err}
use mathlib.Core.Path.{◌≡◌, sym, ap, ◌∙◌}
use mathlib.Core.Bool.{true, false}
use Prim.Native.Nat.{ℕ}
use Rattle.signal.specs.Raw.{fits_in, bits_in}
use Rattle.refusals.specs.declared.Refusal.TheVariants.{NoLabel}
use Rattle.page_write.specs.page_table.specs.Table.{takes}
use Rattle.page_write.specs.page_read.proofs.Starts.{start_row}
use Rattle.page_write.proofs.AtRow.{fits_row, bits_row, put_raw_row}
use Rattle.page_change.proofs.change_row.Goals as goal

pub returns-then-not-fits : goal.returns-then-not-fits
returns-then-not-fits c =
    let f = sym (fits_row c.args.r c.requires c.args.z c.ranges.z) ∙ sym c.fits.ensures ∙ c.if-not-fits.true in
    rw f

pub returns-then-not-label_holds : goal.returns-then-not-label_holds
returns-then-not-label_holds c =
    let r = c.args.r in
    let z = c.args.z in
    let f : fits_in r.signed r.width z ≡ true = sym (fits_row r c.requires z c.ranges.z) ∙ sym c.fits.ensures ∙ c.if-not-fits.false in
    let b = c.bits-v.ensures ∙ bits_row r c.requires z c.ranges.z f in
    let l : takes r.labels (bits_in r.signed r.width z) ≡ false = sym (ap (takes r.labels) b) ∙ sym c.label_holds.ensures ∙ c.if-not-label_holds.true in
    rw (f, l) (ap (λ (s : ℕ). Err (NoLabel s)) (start_row r c.requires c.start_bit.result c.start_bit.ensures))

pub returns : goal.returns
returns c =
    let r = c.args.r in
    let z = c.args.z in
    let f : fits_in r.signed r.width z ≡ true = sym (fits_row r c.requires z c.ranges.z) ∙ sym c.fits.ensures ∙ c.if-not-fits.false in
    let b = c.bits-v.ensures ∙ bits_row r c.requires z c.ranges.z f in
    let l : takes r.labels (bits_in r.signed r.width z) ≡ true = sym (ap (takes r.labels) b) ∙ sym c.label_holds.ensures ∙ c.if-not-label_holds.false in
    rw (f, l)
    (ap (λ (v : ℕ). Ok (c.args.kind, v)) (c.put.ensures ∙ put_raw_row r c.requires z c.ranges.z c.args.n c.bits-v.result c.bits-v.ensures (rw (f, l))))
