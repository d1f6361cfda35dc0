-- The one 32-bit word that a C entry answers: of what the call comes to, and what the header's functions take out of it again.
use Rattle.std.specs.Prelude.{ℕ, ◌+◌, ◌-◌, ◌*◌, ◌/◌, ◌%◌, ◌≤◌, ◌<◌, ◌≡◌, Bool, true, false, cond, ltb, Result, Ok, Err}
use Rattle.refusals.specs.declared.Refusal.{Refusal}
use Rattle.refusals.specs.Refusals.{number_of, start_of}
use Rattle.plain_words.specs.declared.Refused.{Refused}

-- what a call comes to: accepted, with a number, or refused
pub data Outcome : Type 0 where
  answers : ℕ → Outcome
  refuses : Refusal → Outcome

-- of what a function answers
abbrev pub outcome_of : Result ℕ Refusal → Outcome
outcome_of (Ok n) = answers n
outcome_of (Err w) = refuses w

-- 65,536 plus the refusal's number plus 256 times the start bit that 5 carries (02, Req 02: "Every caller that hands a refusal on now hands the
-- start bit on too")
abbrev pub refusal_word : Refusal → ℕ
refusal_word w = 65536 + number_of w + 256 * start_of w

abbrev pub outcome_word : Outcome → ℕ
outcome_word (answers n) = n
outcome_word (refuses w) = refusal_word w

-- ---- what the word is taken apart into again

-- a refusal by its two numbers
abbrev pub refused_by : Refusal → Refused
refused_by w = record { number = number_of w; start = start_of w }

-- an answer word below 65,536 is accepted, and any other is 65,536, the refusal's number and 256 times the start bit
abbrev pub answer_in : ℕ → Result ℕ Refused
answer_in a = cond (ltb a 65536) (Ok a) (Err (record { number = (a - 65536) % 256; start = (a - 65536) / 256 }))

-- ---- what a caller asks of the word: `rokemaipu_refusal` and `rokemaipu_start_bit` of the header

abbrev pub number_in : ℕ → ℕ
number_in a = cond (ltb a 65536) 0 (a % 256)

abbrev pub start_in : ℕ → ℕ
start_in a = cond (ltb a 65536) 0 (a / 256 % 256)

-- ---- and of the outcome

abbrev pub is_accepted : Outcome → Bool
is_accepted (answers n) = true
is_accepted (refuses w) = false

-- 0 where it was accepted
abbrev pub number_given : Outcome → ℕ
number_given (answers n) = 0
number_given (refuses w) = number_of w

abbrev pub start_given : Outcome → ℕ
start_given (answers n) = 0
start_given (refuses w) = start_of w

-- an accepted number is at most `most`, and a refusal's start is one of a payload's 64 bits: so of every outcome of an entry (its law `..-within`)
abbrev pub Within : ℕ → Outcome → Type 0
Within most (answers n) = n ≤ most
Within most (refuses w) = start_of w < 64

-- ---- what the word a tells of a call of outcome o

pub record Told (most : ℕ) (o : Outcome) (a : ℕ) : Type 0 where
  -- an accepted answer is at most `most`
  pub bounded : is_accepted o ≡ true → a ≤ most
  -- a word is below 65,536 exactly where the call was accepted
  pub told : ltb a 65536 ≡ is_accepted o
  -- of a refusal the header's functions take number and start out of it, and 0 where the call was accepted
  pub number : number_in a ≡ number_given o
  pub start : start_in a ≡ start_given o
  -- and that start is one of a payload's bits
  pub low : start_in a < 64
