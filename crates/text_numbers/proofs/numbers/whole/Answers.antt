-- Each exit of `whole`, by what `after` says of what is left.
use Rattle.std.proofs.Common.{◌≡◌, ℕ, ◌+◌, ◌*◌, ◌<◌, List, None, length, get_or, sym, ap, ◌∙◌, drop, arith}
use Rattle.text_numbers.specs.Numbers.{digit_of, number_of}
use Rattle.text_numbers.proofs.Values.{after, at_first, not_shortest, next, no_digit, too_large, at_last}
use Rattle.text_numbers.proofs.numbers.whole.Goals as goal

pub returns-then-not-is_shortest-clause-value : goal.returns-then-not-is_shortest-clause-value
returns-then-not-is_shortest-clause-value c = sym (not_shortest c.args.base c.args.most c.args.s.now (cc))

pub loop-c-init : goal.loop-c-init
loop-c-init c = record { within = omega arith; value = at_first c.args.base c.args.most c.args.s.now (cc) }

pub returns-then-d-base-clause-value : goal.returns-then-d-base-clause-value
returns-then-d-base-clause-value c =
    let l = c.loop-c in
    sym (l.invariant.value ∙ no_digit c.args.base c.args.most c.args.s.now l.v l.c-index c.digit-d.result c.loop-c-test.true c.digit-d.ensures c.if-d-base.true)

-- more than most: what is left after it makes it no less
module _ (b most v d : ℕ) (s : List ℕ) (i : ℕ) (h : i < length s) (e : d ≡ digit_of (get_or s i 0)) (k : d < b) (w : number_of b most s ≡ after b most v (drop i s)) where
  past : most < v * b + d → None ≡ number_of b most s
  past l = sym (w ∙ next b most s v i d h e k ∙ too_large b most (v * b + d) (drop (i + 1) s) (omega arith) l)

pub returns-in_err-checked_mul-clause-value : goal.returns-in_err-checked_mul-clause-value
returns-in_err-checked_mul-clause-value c =
    let l = c.loop-c in
    let m = c.in_err-checked_mul.ensures in
    c.from_residual.ensures
    ∙ past c.args.base c.args.most l.v c.digit-d.result c.args.s.now l.c-index c.loop-c-test.true c.digit-d.ensures c.if-d-base.false l.invariant.value (grind arith)

pub returns-in_err-v-clause-value : goal.returns-in_err-v-clause-value
returns-in_err-v-clause-value c =
    let l = c.loop-c in
    let m = c.in_err-v.ensures in
    let n = c.in_ok-checked_mul.ensures in
    c.from_residual-in_err-v.ensures
    ∙ past c.args.base c.args.most l.v c.digit-d.result c.args.s.now l.c-index c.loop-c-test.true c.digit-d.ensures c.if-d-base.false l.invariant.value (grind arith)

pub returns-then-v-most-clause-value : goal.returns-then-v-most-clause-value
returns-then-v-most-clause-value c =
    let l = c.loop-c in
    let m = c.in_ok-v.ensures in
    let n = c.in_ok-checked_mul.ensures in
    past c.args.base c.args.most l.v c.digit-d.result c.args.s.now l.c-index c.loop-c-test.true c.digit-d.ensures c.if-d-base.false l.invariant.value (grind arith)

pub loop-c-preserved : goal.loop-c-preserved
loop-c-preserved c =
    let l = c.loop-c in
    let a = c.args in
    let d = c.digit-d.result in
    let m = c.in_ok-v.ensures in
    let n = c.in_ok-checked_mul.ensures in
    let v : l.v * a.base + d ≡ c.in_ok-v.v = grind arith in
    record {
      within = omega arith;
      value = l.invariant.value ∙ next a.base a.most a.s.now l.v l.c-index d c.loop-c-test.true c.digit-d.ensures c.if-d-base.false
          ∙ ap (λ (x : ℕ). after a.base a.most x (drop (l.c-index + 1) a.s.now)) v;
    }

pub returns-clause-value : goal.returns-clause-value
returns-clause-value c =
    let l = c.loop-c in
    sym (l.invariant.value ∙ at_last c.args.base c.args.most c.args.s.now l.v l.c-index (omega arith) l.invariant.within)
