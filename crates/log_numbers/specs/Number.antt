-- 02, Req 01: "numbers in groups of seven bits, low group first, high bit set on all but the last, shortest form only, at most five groups and
-- 32 bits".
use Rattle.std.specs.Prelude.{ℕ, zero, suc, ◌+◌, ◌*◌, ◌/◌, ◌%◌, ◌<◌, cond, List, [], ◌∷◌, length, ltb, eqb, Result, Ok, Err}
use Rattle.log_numbers.specs.declared.NumberError.{NumberError}
use Rattle.log_numbers.specs.declared.NumberError.TheVariants.{Cut, Ill}

-- ---- writing

-- the groups of n, of which k more may follow the first
unfoldable pub groups : ℕ → ℕ → List ℕ
groups zero n = n ∷ []
groups (suc k) n = cond (ltb n 128) (n ∷ []) ((n % 128 + 128) ∷ groups k (n / 128))

abbrev pub number_bytes : ℕ → List ℕ
number_bytes n = groups 4 n

abbrev pub size_of : ℕ → ℕ
size_of n = length (number_bytes n)

-- 32 bits
abbrev pub InWord : ℕ → Type 0
InWord n = n < 4294967296

-- ---- reading

-- a number and how many bytes it takes, or why there is none
abbrev pub Num : Type 0
Num = Result (ℕ × ℕ) NumberError

-- a group with its high bit set, in front of what was read after it; a highest group of 0 is not the shortest form
abbrev pub more_of : ℕ → Num → Num
more_of b (Ok (n, j)) = cond (eqb n 0) (Err Ill) (Ok (n * 128 + b % 128, j + 1))
more_of b (Err e) = Err e

-- k more groups may follow the first; the last that may come holds four bits, so that five hold 32, and it has no high bit
unfoldable pub read_groups : ℕ → List ℕ → Num
read_groups k [] = Err Cut
read_groups zero (b ∷ bs) = cond (ltb b 16) (Ok (b, 1)) (Err Ill)
read_groups (suc k) (b ∷ bs) = cond (ltb b 128) (Ok (b, 1)) (more_of b (read_groups k bs))

abbrev pub read_number : List ℕ → Num
read_number s = read_groups 4 s

-- what k + 1 groups can hold lies below
unfoldable pub top : ℕ → ℕ
top zero = 16
top (suc k) = top k * 128
