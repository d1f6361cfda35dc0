-- `payload::be_store` meets its contract.
use Rattle.std.proofs.Common.{◌≡◌, ℕ, suc, ◌+◌, ◌-◌, ◌*◌, ◌/◌, ◌%◌, ◌^◌, ◌<◌, List, [], ◌++◌, length, take, set, sym, ap, ap₂, ◌∙◌, arith, bit_and}
use native.Mathlib.Nat.{div-one}
use lib.Bits.{and_mask}
use lib.Pow.{shr-shr}
use Rattle.std.proofs.lemmas.List.{append-nil, take_all}
use Rattle.payload.specs.Payload.{be_bytes}
use Rattle.payload.proofs.BigBytes.{stored_before}
use Rattle.payload.proofs.be_store.Goals as goal

-- one byte more before those that stand at the end
before : (buf : List ℕ) (n j m : ℕ) → j < length buf → set (take (suc j) buf ++ be_bytes m n) j (n / 2 ^ (8 * m) % 256) ≡ take j buf ++ be_bytes (suc m) n
before buf n j m h =
    ap (λ (l : List ℕ). set (take (suc j) buf ++ l) j (n / 2 ^ (8 * m) % 256)) (sym (append-nil (be_bytes m n)))
    ∙ stored_before buf [] n j m h
    ∙ ap (λ (l : List ℕ). take j buf ++ l) (append-nil (be_bytes (suc m) n))

pub loop-i-init : goal.loop-i-init
unfolding be_bytes
loop-i-init c =
    let buf = c.args.buf.now in
    let n = c.args.n in
    let none : 0 ≡ length buf - length buf = omega arith in
    record {
      rest = sym (div-one n) ∙ ap (λ (x : ℕ). n / 2 ^ (8 * x)) none;
      stored =
          sym (append-nil (take (length buf) buf) ∙ take_all (length buf) buf (omega arith)) ∙ ap (λ (x : ℕ). take (length buf) buf ++ be_bytes x n) none;
    }

pub loop-i-preserved : goal.loop-i-preserved
loop-i-preserved c =
    let buf = c.args.buf.now in
    let n = c.args.n in
    let l = c.loop-i in
    let m = length buf - l.i in
    let last : l.i ≡ suc (l.i - 1) = omega arith in
    let more : suc (length buf - l.i) ≡ length buf - (l.i - 1) = omega arith in
    let byte : bit_and l.rest 255 ≡ n / 2 ^ (8 * (length buf - l.i)) % 256 = and_mask l.rest 8 ∙ ap (λ (x : ℕ). x % 256) l.invariant.rest in
    let place : 8 * (length buf - l.i) + 8 ≡ 8 * (length buf - (l.i - 1)) = omega arith in
    record {
      rest = ap (λ (x : ℕ). x / 256) l.invariant.rest ∙ shr-shr n (8 * m) 8 ∙ ap (λ (x : ℕ). n / 2 ^ x) place;
      stored =
          ap₂ (λ (b : List ℕ) (x : ℕ). set b (l.i - 1) x) (l.invariant.stored ∙ ap (λ (x : ℕ). take x buf ++ be_bytes m n) last) byte
          ∙ before buf n (l.i - 1) m (omega arith)
          ∙ ap (λ (x : ℕ). take (l.i - 1) buf ++ be_bytes x n) more;
    }
