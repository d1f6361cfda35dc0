-- `compare_logs::pair::pair_off` meets its contract.
use mathlib.Core.Path.{subst}
use Prim.Native.Nat.{ℕ}
use Rattle.compare_rules.specs.Compare.{records_of}
use Rattle.compare_logs.specs.Held.{FirstFree}
use Rattle.compare_logs.proofs.Pairs.{pair_start, pair_found, pair_none, pair_end}
use native.Mathlib.Omega.{arith}
use Rattle.compare_logs.proofs.pair.pair_off.Goals.{in-Some, in-None}
use Rattle.compare_logs.proofs.pair.pair_off.Goals as goal

pub loop-i-init : goal.loop-i-init
loop-i-init c = pair_start (records_of c.args.a.now.bytes.now) (records_of c.args.b.now.bytes.now) c.args.list.now c.args.used.now (omega (arith, c.args.b.now.ready.0, c.args.b.now.ready.1)) c.requires

pub past_used-low-requires : goal.past_used-low-requires
past_used-low-requires c = (c.loop-i.invariant.4, omega (arith, c.loop-i.invariant.2, c.args.b.now.ready.1))

pub first_free-requires : goal.first_free-requires
first_free-requires c = (c.loop-i-test.true, c.past_used-low.ensures.1)

pub loop-i-preserved : goal.loop-i-preserved
loop-i-preserved c =
    let a = records_of c.args.a.now.bytes.now in
    let b = records_of c.args.b.now.bytes.now in
    let l = c.loop-i in
    let low = c.past_used-low in
    let n = c.args.b.now.ready.1 in
    elim c.match-first_free.branch [
      | in-Some w ↦ rw (w.used-is, w.list-is, w.k-is)
          (pair_found a b c.args.list.now l.used l.list l.i l.k l.low low.result w.in-Some.j (omega (arith, c.args.a.now.ready.1)) (omega (arith, c.args.b.now.ready.0, n)) l.invariant low.ensures.0
          (omega (arith, low.ensures.1, n)) (subst (λ (x : ℕ). FirstFree a b l.used l.i low.result x w.in-Some.j) n w.in-Some.ensures.1) (omega (arith, n, w.in-Some.ensures.0)))
      | in-None w ↦ rw (w.used-is, w.list-is, w.k-is)
          (pair_none a b c.args.list.now l.used l.list l.i l.k l.low low.result c.args.b.now.count (omega (arith, c.args.a.now.ready.1)) (omega (arith, c.args.b.now.ready.0, n)) l.invariant low.ensures.0
          (omega (arith, low.ensures.1, n)) (subst (λ (x : ℕ). FirstFree a b l.used l.i low.result x c.args.b.now.count) n w.in-None.ensures) (omega (arith, n)))
    ]

pub bounds-used-j : goal.bounds-used-j
bounds-used-j c = omega (arith, c.args.b.now.ready.0, c.in-Some.ensures.0)

pub overflow_cast-list : goal.overflow_cast-list
overflow_cast-list c = omega (arith, c.args.a.now.ready.0)

pub bounds-list-k : goal.bounds-list-k
bounds-list-k c = omega (arith, c.args.a.now.ready.0, c.loop-i.invariant.1, c.loop-i.invariant.6.2)

pub overflow_add-k : goal.overflow_add-k
overflow_add-k c = omega (arith, c.args.a.now.ready.0, c.loop-i.invariant.1)

pub returns : goal.returns
returns c = let e = pair_end (records_of c.args.a.now.bytes.now) (records_of c.args.b.now.bytes.now) c.args.list.now c.loop-i.used c.loop-i.list c.loop-i.i c.loop-i.k c.loop-i.low (omega (arith, c.args.a.now.ready.1)) c.loop-i.invariant in
    (e.0, e.1, λ j h. e.2 j (omega (arith, c.args.b.now.ready.1)))
