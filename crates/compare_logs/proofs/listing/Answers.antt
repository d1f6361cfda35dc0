-- `compare_logs::listing`: a list that is too short, and else what was paired off, what was left over, and the places.
use Rattle.std.proofs.Common.{◌∙◌, ◌≤◌, length, sym, ap, arith, Err}
use Rattle.std.proofs.lemmas.Result.{err_from_is_err_and}
use Rattle.refusals.specs.declared.Refusal.TheVariants.{CompareRoom, ShortBuffer}
use Rattle.compare_rules.specs.Surplus.{surplus_of}
use Rattle.compare_rules.specs.Places.{channels, places_of}
use Rattle.compare_rules.specs.Compare.{most, records_of, listed_of}
use Rattle.compare_rules.proofs.Lists.{few_listed}
use Rattle.compare_logs.proofs.Channels.{places_long}
use Rattle.compare_logs.proofs.Ends.{refusing, short_second, few_places, taken, listed, lent_back, lent_first, refused_with}
use Rattle.compare_logs.proofs.listing.Goals as goal

pub returns-in_err-second : goal.returns-in_err-second
returns-in_err-second c =
    let a = c.args.a.now in
    let b = c.args.b.now in
    let x = c.args.first.now in
    let y = c.args.second.now in
    let z = c.args.places.now in
    let p = err_from_is_err_and c.from_residual-in_err-second.result c.from_residual-in_err-second.ensures.1 in
    let w = refused_with c.first_chunk_mut-2.result c.unlisted-2.result c.in_err-second.field-0.0 (sym c.in_err-second.ensures.value) in
    let f = rw c.in_ok-first.ensures.ok_part at c.first_chunk_mut.ensures.cases in
    let few = rw w.0 at c.first_chunk_mut-2.ensures.cases in
    let r = refusing (records_of a.bytes.now) (records_of b.bytes.now) x y z CompareRoom 2 0 (p.1 ∙ ap Err (p.2 ∙ w.1 ∙ c.unlisted-2.ensures))
    (short_second a.count b.count (length x) (length y) (length z) (listed_of (records_of a.bytes.now) (records_of b.bytes.now)) a.ready.0 b.ready.0 f.enough few) in
    (r.0, lent_back x c.in_ok-first.first.now most f.same ∙ r.1, r.2, r.3)

pub returns-in_err-places : goal.returns-in_err-places
returns-in_err-places c =
    let a = c.args.a.now in
    let b = c.args.b.now in
    let x = c.args.first.now in
    let y = c.args.second.now in
    let z = c.args.places.now in
    let p = err_from_is_err_and c.from_residual-in_err-places.result c.from_residual-in_err-places.ensures.1 in
    let w = refused_with c.first_chunk_mut-3.result c.unlisted-3.result c.in_err-places.field-0.0 (sym c.in_err-places.ensures.value) in
    let f = rw c.in_ok-first.ensures.ok_part at c.first_chunk_mut.ensures.cases in
    let g = rw c.in_ok-second.ensures.ok_part at c.first_chunk_mut-2.ensures.cases in
    let few = rw w.0 at c.first_chunk_mut-3.ensures.cases in
    let r = refusing (records_of a.bytes.now) (records_of b.bytes.now) x y z ShortBuffer 0 0 (p.1 ∙ ap Err (p.2 ∙ w.1 ∙ c.unlisted-3.ensures))
    (few_places a.count b.count (length x) (length y) (length z) (listed_of (records_of a.bytes.now) (records_of b.bytes.now)) a.ready.0 b.ready.0 f.enough g.enough few) in
    (r.0, lent_back x c.in_ok-first.first.now most f.same ∙ r.1, lent_back y c.in_ok-second.second.now most g.same ∙ r.2, r.3)

pub returns : goal.returns
returns c =
    let a = records_of c.args.a.now.bytes.now in
    let b = records_of c.args.b.now.bytes.now in
    let n = c.args.a.now.ready in
    let m = c.args.b.now.ready in
    let x = c.args.first.now in
    let y = c.args.second.now in
    let z = c.args.places.now in
    let f = rw c.in_ok-first.ensures.ok_part at c.first_chunk_mut.ensures.cases in
    let g = rw c.in_ok-second.ensures.ok_part at c.first_chunk_mut-2.ensures.cases in
    let h = rw c.in_ok-places.ensures.ok_part at c.first_chunk_mut-3.ensures.cases in
    let few-a : length (surplus_of a b) ≤ most = omega (arith, few_listed a b, n.0, n.1) in
    let few-b : length (surplus_of b a) ≤ most = omega (arith, few_listed b a, m.0, m.1) in
    let few-c : length (places_of a b) ≤ channels = omega (arith, places_long a b 0 channels) in
    let w = listed a b c.in_ok-first.first.now c.in_ok-second.second.now c.in_ok-places.places.now _ c.args.b.now.count c.pair_off-surplus.result c.list_free-left.result m.1
    c.pair_off-surplus.ensures c.list_free-left.ensures c.all_places.ensures in (
      w.0 ∙ sym (taken c.args.a.now.count c.args.b.now.count (length x) (length y) (length z) (listed_of a b) n.0 m.0 f.enough g.enough h.enough),
      lent_first (surplus_of a b) x c.in_ok-first.first.now _ most f.enough few-a f.same w.1,
      lent_first (surplus_of b a) y c.in_ok-second.second.now _ most g.enough few-b g.same w.2,
      lent_first (places_of a b) z c.in_ok-places.places.now _ channels h.enough few-c h.same w.3,
    )
