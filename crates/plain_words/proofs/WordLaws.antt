-- What the word of a call tells. `NoLabel s` is a refusal for every number s, and a start of 256 or more could not be taken out of the word again: but no
-- entry hands such a start on (`Within`, which each entry's law `..-within` shows), and so its word tells all (`word-tells`).
-- Assumes nothing.
use mathlib.Core.Path.{◌≡◌, refl, sym}
use mathlib.Core.Bool.{Bool, true, false, cond, true≢false}
use Prim.Native.Nat.{ℕ, ◌-◌, ◌/◌, ◌%◌, ◌≤◌, ◌<◌}
use native.Mathlib.Omega.{arith}
use borrow.Author.Tests.{lt-ltb, le-ltb, ltb-true}
use Rattle.refusals.specs.declared.Refusal.{Refusal}
use Rattle.refusals.specs.declared.Refusal.TheVariants.{ChannelFree, Earlier, UnknownIdentifier, TooShort, NoLabel, UncoveredBit, NoRawNumber, ShortBuffer, NoSuchPost, NoSuchChannel, ChannelTaken, LimitOutside, NoSignal, NotSetUp, TooLong, IllNumber, LogChannel, LogStandard, LogExtended, LogLength, LogTick, BatchBytes, BatchRecord, BatchAnswers, CountFull, CompareLog, CompareRecords, CompareRoom, OtherInterface}
use Rattle.refusals.specs.Refusals.{number_of, start_of}
use Rattle.std.specs.Prelude.{ltb, Ok, Err}
use Rattle.plain_words.specs.declared.Refused.{Refused}
use Rattle.plain_words.specs.Words.{Outcome, answers, refuses, refusal_word, outcome_word, refused_by, answer_in, is_accepted, Within, Told}

-- what holds of both holds of either
pub either : {A : Type 0} (P : A → Type 0) (b : Bool) {x y : A} → P x → P y → P (cond b x y)
either P true p q = p
either P false p q = q

pub number_small : (w : Refusal) → number_of w < 256
number_small ChannelFree = omega arith
number_small Earlier = omega arith
number_small UnknownIdentifier = omega arith
number_small TooShort = omega arith
number_small (NoLabel s) = omega arith
number_small UncoveredBit = omega arith
number_small NoRawNumber = omega arith
number_small ShortBuffer = omega arith
number_small NoSuchPost = omega arith
number_small NoSuchChannel = omega arith
number_small ChannelTaken = omega arith
number_small LimitOutside = omega arith
number_small NoSignal = omega arith
number_small NotSetUp = omega arith
number_small TooLong = omega arith
number_small IllNumber = omega arith
number_small LogChannel = omega arith
number_small LogStandard = omega arith
number_small LogExtended = omega arith
number_small LogLength = omega arith
number_small LogTick = omega arith
number_small BatchBytes = omega arith
number_small BatchRecord = omega arith
number_small BatchAnswers = omega arith
number_small CountFull = omega arith
number_small CompareLog = omega arith
number_small CompareRecords = omega arith
number_small CompareRoom = omega arith
number_small OtherInterface = omega arith

pub word_tells : (most : ℕ) (o : Outcome) → most < 65536 → Within most o → Told most o (outcome_word o)
word_tells most (answers n) l h =
    let t = lt-ltb n 65536 (omega arith) in
    record { bounded = λ e. h; told = t; number = rw t; start = rw t; low = rw t (omega arith) }
word_tells most (refuses w) l h =
    let t = le-ltb (refusal_word w) 65536 (omega arith) in
    record {
      bounded = λ e. absurd (true≢false (sym e));
      told = t;
      number = rw t (omega (arith, number_small w));
      start = rw t (omega (arith, number_small w));
      low = rw t (omega (arith, number_small w));
    }

-- from 65,536 on it was refused
pub not_accepted : (most : ℕ) (o : Outcome) → most < 65536 → Within most o → 65536 ≤ outcome_word o → is_accepted o ≡ false
not_accepted most (answers n) l h m = absurd (let z : ⊥ = omega arith in z)
not_accepted most (refuses w) l h m = refl

-- ---- the word taken apart again is what it was made of

pub answer_back : (n : ℕ) → n < 65536 → answer_in (outcome_word (answers n)) ≡ Ok n
answer_back n h = rw (lt-ltb n 65536 h)

-- of every refusal, whatever its start
pub refusal_back : (w : Refusal) → answer_in (outcome_word (refuses w)) ≡ Err (refused_by w)
refusal_back w =
    let n : (refusal_word w - 65536) % 256 ≡ number_of w = omega (arith, number_small w) in
    let s : (refusal_word w - 65536) / 256 ≡ start_of w = omega (arith, number_small w) in
    rw (le-ltb (refusal_word w) 65536 (omega arith)) (λ i. Err (record { number = n i; start = s i }))

-- a word that an answer comes from is that answer
pub answer_is : (a n : ℕ) → answer_in a ≡ Ok n → (a < 65536) × (a ≡ n)
answer_is a n e = go (ltb a 65536) refl _ e
  where
    go : (b : Bool) → ltb a 65536 ≡ b → (r : Refused) → cond b (Ok a) (Err r) ≡ Ok n → (a < 65536) × (a ≡ n)
    go true l r h = (ltb-true a 65536 l, cc)
    go false l r h = cc

-- 69,637 is 65,536, 5, and 256 times the start 16
night_back : answer_in 69637 ≡ Err (record { number = 5; start = 16 })
night_back = refusal_back (NoLabel 16)
