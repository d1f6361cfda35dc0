-- 01: "Signed signals are two's complement."
use Rattle.std.specs.Prelude.{ℕ, suc, ◌-◌, ◌^◌, ◌<◌, ℤ, pos, negsuc, ltb, cond}
use Rattle.std.proofs.Math.IntN.{sub_ℕ}
use Rattle.std.specs.Int.Signed.{mag}

-- the number that w bits stand for: v itself below 2 ^ (w - 1), and v less 2 ^ w from there on
unfoldable pub to_signed : ℕ → ℕ → ℤ
to_signed w v = cond (ltb v (2 ^ (w - 1))) (pos v) (sub_ℕ v (2 ^ w))

-- the w bits of z: z itself where it is not negative, and z more 2 ^ w where it is (`negsuc n` is -(n + 1))
unfoldable pub of_signed : ℕ → ℤ → ℕ
of_signed w (pos n) = n
of_signed w (negsuc n) = 2 ^ w - suc n

-- z is from -2 ^ (w - 1) to 2 ^ (w - 1) - 1: `mag` is n both of n and of -(n + 1)
abbrev pub InSigned : ℕ → ℤ → Type 0
InSigned w z = mag z < 2 ^ (w - 1)
