-- 02, Req 04: "A duty above 100.0 % keeps its raw number, so that writing returns the bytes; the limited number is worked out apart."
use Rattle.std.specs.Prelude.{ℕ, min}

-- 100.0 %, in whole tenths
abbrev pub full_duty : ℕ
full_duty = 1000

abbrev pub limited_duty : ℕ → ℕ
limited_duty n = min n full_duty
