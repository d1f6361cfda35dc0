-- The laws of a comparison on logs as bytes: the records of Nights.antt, 600 ticks and a piece of another, and 513 ticks.
use Prim.Native.Nat.{ℕ, ◌≤◌, ◌<◌}
use native.Mathlib.Omega.{arith}
use mathlib.Core.Path.{◌≡◌, refl, ap, ap₂, ◌∙◌}
use mathlib.Core.Logic.{inl, inr}
use mathlib.Core.Bool.{true}
use mathlib.Core.Option.{none}
use mathlib.Core.List.{List, [], ◌∷◌, ◌++◌}
use lib.ListN.{length, take, drop, replicate, length-replicate}
use lib.Dec.{ltb}
use Rattle.refusals.specs.declared.Refusal.TheVariants.{CompareLog, CompareRecords, CompareRoom}
use Rattle.plain_words.specs.Words.{is_accepted}
use Rattle.log_numbers.specs.Number.{groups, read_groups}
use Rattle.log_records.specs.Record.{Rec, AllLoggable, record_bytes, log_bytes}
use Rattle.log_records.specs.Reading.{records_in, read_from, record_at, time_part, channel_part, identifier_part, length_part, log_of}
use Rattle.compare_rules.specs.Records.{same, same_bytes}
use Rattle.compare_rules.specs.Surplus.{count_of, surplus_from, surplus_of}
use Rattle.compare_rules.specs.Places.{places_of}
use Rattle.compare_rules.specs.Compare.{Compared, listed_in, refused_for, records_of, broken_at, listed_of, compared_of, first_after, second_after, places_after}
use Rattle.compare_rules.specs.Cases.{Taken}
use Rattle.compare_rules.specs.Words.{compared_for, compared_outcome, compared_word, with_numbers}
use Rattle.compare_rules.proofs.Cases.{refused_26, refused_27, refused_28, accepted, taken_is, refused_nothing}
use Rattle.compare_rules.proofs.Written.{written_sound, written_records, piece_broken, all_alike}
use Rattle.compare_rules.proofs.Stays.{first_holds, second_holds, places_hold}
use Rattle.compare_rules.proofs.Swaps.{swap_answer, swap_first, swap_second, swap_places}
use Rattle.compare_rules.proofs.CompareWords.{compare_told, compare_refused}
use Rattle.compare_rules.proofs.Nights.{t, own, other}

abbrev one : List ℕ
one = 172 ∷ 2 ∷ 1 ∷ 129 ∷ 192 ∷ 53 ∷ 1 ∷ 1 ∷ 172 ∷ 2 ∷ 0 ∷ 0 ∷ 9 ∷ 172 ∷ 2 ∷ 0 ∷ 0 ∷ 9 ∷ 172 ∷ 2 ∷ 0 ∷ 0 ∷ 9 ∷ []

abbrev two : List ℕ
two = 172 ∷ 2 ∷ 0 ∷ 0 ∷ 9 ∷ 172 ∷ 2 ∷ 1 ∷ 129 ∷ 192 ∷ 53 ∷ 1 ∷ 2 ∷ []

sound : (broken_at (log_of one) ≡ none) × (broken_at (log_of two) ≡ none) × (records_of one ≡ own) × (records_of two ≡ other)
unfolding broken_at records_in read_from record_at time_part channel_part identifier_part length_part read_groups
sound = (refl, refl, refl, refl)

few : (length (records_of one) ≡ 4) × (length (records_of two) ≡ 2)
few = (ap length sound.2, ap length sound.3)

taken : (x y z : ℕ) → 512 ≤ x → 512 ≤ y → 32 ≤ z → Taken one two x y z
taken x y z hx hy hz = ((((sound.0, sound.1), omega (arith, few.0), omega (arith, few.1)), hx, hy), hz)

counts : (length (surplus_of own other) ≡ 3) × (length (surplus_of other own) ≡ 1)
unfolding surplus_from count_of same same_bytes
counts = (refl, refl)

-- the frame and two ticks against the other frame
pub night_answer : compared_of one two 512 512 32 ≡ listed_in 3 1
night_answer =
    taken_is one two 512 512 32 (taken 512 512 32 (omega arith) (omega arith) (omega arith))
    ∙ ap₂ (λ (a b : List Rec). listed_of a b) sound.2 sound.3 ∙ ap₂ listed_in counts.0 counts.1

pub night_taken : Taken one two 512 512 32
night_taken = (accepted one two 512 512 32).0 (3, 1, night_answer)

pub night_swapped : compared_of two one 512 512 32 ≡ listed_in 1 3
night_swapped = swap_answer one two 512 512 32 3 1 night_answer

abbrev held : List ℕ
held = replicate 512 7

pub night_lists : first_after two one (compared_of two one 512 512 32) held ≡ second_after one two (compared_of one two 512 512 32) held
night_lists = swap_first one two 512 512 32 3 1 night_answer held

pub night_others : second_after two one (compared_of two one 512 512 32) held ≡ first_after one two (compared_of one two 512 512 32) held
night_others = swap_second one two 512 512 32 3 1 night_answer held

pub night_channels : places_after two one (compared_of two one 512 512 32) held ≡ places_after one two (compared_of one two 512 512 32) held
night_channels = swap_places one two 512 512 32 3 1 night_answer held

lent : Taken one two (length held) (length held) (length held)
lent = taken (length held) (length held) (length held) (omega (arith, many)) (omega (arith, many)) (omega (arith, many)) where
  many : length held ≡ 512
  many = length-replicate {A = ℕ} 512 7

pub night_first : first_after one two (compared_for one two held held held) held ≡ surplus_of own other ++ drop 3 held
night_first =
    first_holds one two held held held lent
    ∙ ap₂ (λ (a b : List Rec). surplus_of a b ++ drop (length (surplus_of a b)) held) sound.2 sound.3
    ∙ ap (λ (k : ℕ). surplus_of own other ++ drop k held) counts.0

pub night_second : second_after one two (compared_for one two held held held) held ≡ surplus_of other own ++ drop 1 held
night_second =
    second_holds one two held held held lent
    ∙ ap₂ (λ (a b : List Rec). surplus_of a b ++ drop (length (surplus_of a b)) held) sound.3 sound.2
    ∙ ap (λ (k : ℕ). surplus_of other own ++ drop k held) counts.1

pub night_third : places_after one two (compared_for one two held held held) held ≡ places_of own other ++ drop 32 held
night_third = places_hold one two held held held lent ∙ ap₂ (λ (a b : List Rec). places_of a b ++ drop 32 held) sound.2 sound.3

-- ---- refused

-- 600 ticks, and then the first two bytes of another: 26, however many records there are and whatever is lent
abbrev long : List ℕ
long = log_bytes (replicate 600 t) ++ take 2 (record_bytes t)

two_bytes : 2 < length (record_bytes t)
unfolding record_bytes groups
two_bytes = omega arith

pub night_26 : compared_of long two 0 0 0 ≡ refused_for CompareLog 1 (length (log_bytes (replicate 600 t)))
night_26 =
    (refused_26 long two 0 0 0 1 (length (log_bytes (replicate 600 t)))).1
    (inl (refl, piece_broken t 2 (omega arith) two_bytes (replicate 600 t) (all_alike t (omega arith, omega arith) 600) (omega arith, omega arith)))

-- 513 ticks: 27, before the lists
abbrev full : List ℕ
full = log_bytes (replicate 513 t)

ticks : AllLoggable (replicate 513 t)
ticks = all_alike t (omega arith, omega arith) 513

pub night_27 : compared_of full two 0 0 0 ≡ refused_for CompareRecords 1 0
night_27 =
    (refused_27 full two 0 0 0 1).1
    ((written_sound (replicate 513 t) ticks, sound.1), inl (refl, omega (arith, ap length (written_records (replicate 513 t) ticks), length-replicate {A = Rec} 513 t)))

pub night_28 : compared_of one two 512 511 32 ≡ refused_for CompareRoom 2 0
night_28 = (refused_28 one two 512 511 32 2).1 (((sound.0, sound.1), omega (arith, few.0), omega (arith, few.1)), inr (refl, omega arith, omega arith))

pub night_stays : first_after one two (compared_of one two 512 511 32) held ≡ held
night_stays = (refused_nothing one two CompareRoom 2 0 night_28 held).0

-- ---- the word of the C entry, and what a refusal leaves
pub night_told : ltb (compared_word 2 (compared_for one two held held held)) 65536 ≡ true
night_told =
    (compare_told one two held held held 2).told
    ∙ ap (λ (r : Compared). is_accepted (compared_outcome 2 r)) (taken_is one two (length held) (length held) (length held) lent)

pub night_refused : with_numbers 1 (first_after one two (compared_for one two held held held) held) held ≡ held
night_refused = (compare_refused one two held held held 1 (omega arith)).0
