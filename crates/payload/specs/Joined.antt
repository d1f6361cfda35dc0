-- One byte more below a number of 64 bits.
use Rattle.std.specs.Prelude.{ℕ, ◌*◌, ◌%◌, ◌^◌, bit_or}

abbrev pub joined : ℕ → ℕ → ℕ
joined n b = bit_or (n * 2 ^ 8 % 2 ^ 64) b
