-- `page_change::whole::store_changed` meets its contract: a signal of whole bytes by the law `whole-stored`, any other by filling all.
use mathlib.Core.Path.{◌≡◌, sym, ap, ◌∙◌}
use mathlib.Core.Bool.{Bool, true, ◌&&◌}
use Prim.Native.Nat.{◌%◌}
use native.Mathlib.Omega.{arith}
use lib.Dec.{eqb}
use lib.ListN.{length}
use borrow.Author.Tests.{eqb-true}
use Rattle.payload.specs.Payload.{bytes_of}
use Rattle.payload.specs.Order.{edge}
use Rattle.payload.proofs.WholeBytes.{WholeFacts, whole_facts, whole_stored}
use Rattle.page_write.specs.page_table.specs.declared.Row.{Row}
use Rattle.page_write.specs.page_table.proofs.Rules.{both_true}
use Rattle.page_change.proofs.whole.store_changed.Goals as goal

-- what the test says
edges : (r : Row) (b : Bool) → b ≡ (eqb (r.width % 8) 0 && eqb (r.start % 8) (edge r.big)) → b ≡ true → (r.width % 8 ≡ 0) × (r.start % 8 ≡ edge r.big)
edges r b e t =
    let p = both_true (eqb (r.width % 8) 0) (eqb (r.start % 8) (edge r.big)) (sym e ∙ t) in
    (eqb-true (r.width % 8) 0 p.0, eqb-true (r.start % 8) (edge r.big) p.1)

pub put_whole-requires : goal.put_whole-requires
put_whole-requires c =
    let a = c.args in
    let r = a.r in
    let w = edges r c.is_whole.result c.is_whole.ensures c.if-is_whole.true in
    let f : WholeFacts r.big (length a.bytes.now) r.start r.width = whole_facts r.big (length a.bytes.now) r.start r.width w.1 w.0 c.requires.1 in
    omega (arith, f.fits)

pub returns-then-is_whole : goal.returns-then-is_whole
returns-then-is_whole c =
    let r = c.args.r in
    let bs = c.args.bytes.now in
    let w = edges r c.is_whole.result c.is_whole.ensures c.if-is_whole.true in
    c.put_whole.ensures
    ∙ sym (whole_stored r.big bs r.start r.width c.args.v (λ i. omega (arith, c.slice_known-1.given i)) c.requires.1 w.1 w.0 c.requires.0 c.requires.2)
    ∙ ap (bytes_of r.big (length bs)) (sym c.requires.3)
