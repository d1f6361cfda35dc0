-- `payload::le_store` meets its contract.
use Rattle.std.proofs.Common.{◌≡◌, ℕ, ◌+◌, ◌*◌, ◌/◌, ◌%◌, ◌^◌, List, ◌++◌, drop, set, refl, sym, ap, ap₂, ◌∙◌, add-one, arith, bit_and}
use native.Mathlib.Nat.{div-one}
use lib.Bits.{and_mask}
use lib.Pow.{shr-shr}
use Rattle.payload.specs.Payload.{le_bytes}
use Rattle.payload.proofs.Bytes.{stored_more}
use Rattle.payload.proofs.le_store.Goals as goal

pub loop-b-init : goal.loop-b-init
unfolding le_bytes
loop-b-init c = record { rest = sym (div-one c.args.n); stored = refl }

pub loop-b-preserved : goal.loop-b-preserved
loop-b-preserved c =
    let buf = c.args.buf.now in
    let n = c.args.n in
    let l = c.loop-b in
    let i = l.b-index in
    let byte : bit_and l.rest 255 ≡ n / 2 ^ (8 * i) % 256 = and_mask l.rest 8 ∙ ap (λ (x : ℕ). x % 256) l.invariant.rest in
    let place : 8 * i + 8 ≡ 8 * (i + 1) = omega arith in
    record {
      rest = ap (λ (x : ℕ). x / 256) l.invariant.rest ∙ shr-shr n (8 * i) 8 ∙ ap (λ (x : ℕ). n / 2 ^ x) place;
      stored =
          ap₂ (λ (b : List ℕ) (x : ℕ). set b i x) l.invariant.stored byte
          ∙ stored_more buf n i (omega arith)
          ∙ ap (λ (x : ℕ). le_bytes x n ++ drop x buf) (sym (add-one i));
    }
