-- The characters that the desk's words are made of, as ASCII codes them.
use Rattle.std.specs.Prelude.{ℕ}

abbrev pub space : ℕ
space = 32

abbrev pub dash : ℕ
dash = 45

abbrev pub zero_sign : ℕ
zero_sign = 48

abbrev pub nine_sign : ℕ
nine_sign = 57

abbrev pub letter_a : ℕ
letter_a = 97

abbrev pub letter_f : ℕ
letter_f = 102

abbrev pub letter_s : ℕ
letter_s = 115

abbrev pub letter_x : ℕ
letter_x = 120
