-- Each exit of `hex_bytes`: the bytes are taken, or the text is refused and nothing is stored.
use Rattle.std.proofs.Common.{◌≡◌, ◌++◌, ◌/◌, Some, true, false, sym, ap, ap₂, ◌∙◌, length, drop, arith}
use lib.Seq.{length-take-le}
use Rattle.text_bytes.specs.Hex.{is_dash, is_hex, bytes_of}
use Rattle.text_bytes.proofs.Pairs.{length_bytes, refused, taken, not_hex, no_room, has_hex, a_dash, has_dash, hex_told}
use Rattle.text_bytes.proofs.hex_bytes.Goals as goal

pub returns-then-is_dash : goal.returns-then-is_dash
returns-then-is_dash c =
    let s = c.args.s.now in
    let out = c.args.out.now in
    let d : is_dash s ≡ true = cc in
    let e = a_dash s d in
    let t = taken s out (has_dash s (length out) d) in
    record { value = ap (λ l. Some (length l)) (sym e) ∙ t.0; out_after = ap (λ l. l ++ drop (length l) out) (sym e) ∙ t.1 }

pub returns-then-not-is_hex : goal.returns-then-not-is_hex
returns-then-not-is_hex c =
    let s = c.args.s.now in
    let d : is_dash s ≡ false = cc in
    let h : is_hex s ≡ false = cc in
    let r = refused s c.args.out.now (not_hex s _ d h) in
    record { value = r.0; out_after = r.1 }

pub returns-then-n-out : goal.returns-then-n-out
returns-then-n-out c =
    let s = c.args.s.now in
    let r = refused s c.args.out.now (no_room s _ c.if-n-out.true) in
    record { value = r.0; out_after = r.1 }

pub store-requires : goal.store-requires
store-requires c =
    let s = c.args.s.now in
    let h : is_hex s ≡ true = cc in
    let t = hex_told s h in
    (omega (arith, t.0, length-take-le (length s / 2) c.args.out.now c.if-n-out.false), t.1)

pub returns : goal.returns
returns c =
    let s = c.args.s.now in
    let out = c.args.out.now in
    let d : is_dash s ≡ false = cc in
    let h : is_hex s ≡ true = cc in
    let t = taken s out (has_hex s (length out) d h (omega arith)) in
    let e : length s / 2 ≡ length (bytes_of s) = sym (length_bytes s) in
    record { value = ap Some e ∙ t.0; out_after = ap₂ (λ l n. l ++ drop n out) c.store.ensures e ∙ t.1 }
