-- `compare_logs::place::place_of` meets its contract.
use mathlib.Core.Path.{refl, sym, ◌∙◌}
use native.Mathlib.Omega.{arith}
use Rattle.compare_logs.proofs.Channels.{place_none, place_second, place_first, place_here, place_more}
use Rattle.compare_logs.proofs.place.place_of.Goals as goal

pub loop-i-init : goal.loop-i-init
loop-i-init c = (omega arith, omega arith, omega arith, refl)

pub next_on-i-requires : goal.next_on-i-requires
next_on-i-requires c = c.loop-i.invariant.0

pub next_on-j-requires : goal.next_on-j-requires
next_on-j-requires c = c.loop-i.invariant.1

pub returns-in-None-None : goal.returns-in-None-None
returns-in-None-None c =
    let a = c.args.a.now in
    let b = c.args.b.now in
    let l = c.loop-i in
    let f = rw c.in-None-None.is-0 at c.next_on-i.ensures in
    let g = rw c.in-None-None.is-1 at c.next_on-j.ensures in
    place_none c.args.c a.bytes.now a.starts.now a.keys.now a.count l.x a.count a.ready f
    b.bytes.now b.starts.now b.keys.now b.count l.y b.count b.ready g l.k l.invariant.3 (omega arith) (omega arith)

pub returns-in-Some-None : goal.returns-in-Some-None
returns-in-Some-None c =
    let a = c.args.a.now in
    let b = c.args.b.now in
    let l = c.loop-i in
    let f = rw c.in-Some-None.is-0 at c.next_on-i.ensures in
    let g = rw c.in-Some-None.is-1 at c.next_on-j.ensures in
    place_second c.args.c a.bytes.now a.starts.now a.keys.now a.count l.x a.count a.ready f
    b.bytes.now b.starts.now b.keys.now b.count l.y c.in-Some-None.field-0-1 b.ready g.1 l.k l.invariant.3 (omega arith) g.0

pub returns-in-Some-None-2 : goal.returns-in-Some-None-2
returns-in-Some-None-2 c =
    let a = c.args.a.now in
    let b = c.args.b.now in
    let l = c.loop-i in
    let f = rw c.in-Some-None.is-0 at c.next_on-i.ensures in
    let g = rw c.in-Some-None.is-1 at c.next_on-j.ensures in
    place_first c.args.c a.bytes.now a.starts.now a.keys.now a.count l.x c.in-Some-None.field-0-0 a.ready f.1
    b.bytes.now b.starts.now b.keys.now b.count l.y b.count b.ready g l.k l.invariant.3 f.0 (omega arith)

pub returns-then-not-equal : goal.returns-then-not-equal
returns-then-not-equal c =
    let a = c.args.a.now in
    let b = c.args.b.now in
    let l = c.loop-i in
    let f = rw c.in-Some-Some.is-0 at c.next_on-i.ensures in
    let g = rw c.in-Some-Some.is-1 at c.next_on-j.ensures in
    place_here c.args.c a.bytes.now a.starts.now a.keys.now a.count l.x c.in-Some-Some.i a.ready f.1
    b.bytes.now b.starts.now b.keys.now b.count l.y c.in-Some-Some.j b.ready g.1 l.k l.invariant.3 f.0 g.0 (sym c.equal.ensures ∙ c.if-not-equal.true)

pub loop-i-preserved : goal.loop-i-preserved
loop-i-preserved c =
    let a = c.args.a.now in
    let b = c.args.b.now in
    let l = c.loop-i in
    let f = rw c.in-Some-Some.is-0 at c.next_on-i.ensures in
    let g = rw c.in-Some-Some.is-1 at c.next_on-j.ensures in
    let more = place_more c.args.c a.bytes.now a.starts.now a.keys.now a.count l.x c.in-Some-Some.i a.ready f.1
    b.bytes.now b.starts.now b.keys.now b.count l.y c.in-Some-Some.j b.ready g.1 l.k l.invariant.3 f.0 g.0 (sym c.equal.ensures ∙ c.if-not-equal.false) in (omega (arith, f.0), omega (arith, g.0), omega (arith, l.invariant.2, f.1.0), more)
