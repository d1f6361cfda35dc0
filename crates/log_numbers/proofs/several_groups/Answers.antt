-- `log_numbers::several_groups`: what a turn answers, and what it leaves to the next.
use Rattle.std.proofs.Common.{◌≡◌, ◌∙◌, subst, rules, arith}
use Rattle.log_numbers.proofs.Groups.{Turn, turn_start, turn_cut, turn_fits, turn_last, turn_ill, turn_high, turn_more}
use Rattle.log_numbers.proofs.several_groups.Goals as goal

pub loop-i-init : goal.loop-i-init
loop-i-init c = rw c.from-n.ensures (turn_start c.args.s.now (omega (arith, c.type_inv.s 0)) c.requires.0 c.requires.1)

pub returns-then-s-i : goal.returns-then-s-i
returns-then-s-i c = turn_cut c.loop-i.invariant c.if-s-i.true

pub last_group-requires : goal.last_group-requires
last_group-requires c = (turn_fits c.loop-i.invariant c.if-b-lt128.true (λ e. absurd (omega arith)), c.loop-i.invariant.most)

pub returns-then-b-lt128 : goal.returns-then-b-lt128
returns-then-b-lt128 c = c.last_group.ensures ∙ turn_last c.loop-i.invariant c.if-b-lt128.true (λ e. absurd (omega arith)) (omega arith)

pub overflow_mul-n : goal.overflow_mul-n
overflow_mul-n c =
    let h = turn_high c.loop-i.invariant (omega arith) (omega (arith, c.type_inv.s c.loop-i.i)) c.if-b-lt128.false in
    search (rules, h)

pub overflow_add-n : goal.overflow_add-n
overflow_add-n c =
    let h = turn_high c.loop-i.invariant (omega arith) (omega (arith, c.type_inv.s c.loop-i.i)) c.if-b-lt128.false in
    search (rules, h)

pub overflow_mul-weight : goal.overflow_mul-weight
overflow_mul-weight c =
    let h = turn_high c.loop-i.invariant (omega arith) (omega (arith, c.type_inv.s c.loop-i.i)) c.if-b-lt128.false in
    search (rules, h)

pub loop-i-preserved : goal.loop-i-preserved
loop-i-preserved c =
    let h = turn_high c.loop-i.invariant (omega arith) (omega (arith, c.type_inv.s c.loop-i.i)) c.if-b-lt128.false in
    rw c.from.ensures (turn_more c.loop-i.invariant h (omega arith) (omega arith))

-- the turn of the fifth group
pub returns-then-s-le4 : goal.returns-then-s-le4
returns-then-s-le4 c = turn_cut c.loop-i.invariant (omega arith)

pub returns-then-b-ge16 : goal.returns-then-b-ge16
returns-then-b-ge16 c =
    let four : c.loop-i.i ≡ 4 = omega arith in
    turn_ill (subst (Turn c.args.s.now c.loop-i.n c.loop-i.weight) four c.loop-i.invariant) (omega arith) c.if-b-ge16.true

pub last_group-requires-2 : goal.last_group-requires-2
last_group-requires-2 c =
    let four : c.loop-i.i ≡ 4 = omega arith in
    let t = subst (Turn c.args.s.now c.loop-i.n c.loop-i.weight) four c.loop-i.invariant in
    (turn_fits t (omega arith) (λ e. c.if-b-ge16.false), t.most)

pub returns : goal.returns
returns c =
    let four : c.loop-i.i ≡ 4 = omega arith in
    let t = subst (Turn c.args.s.now c.loop-i.n c.loop-i.weight) four c.loop-i.invariant in
    c.last_group-2.ensures ∙ turn_last t (omega arith) (λ e. c.if-b-ge16.false) (omega arith)
