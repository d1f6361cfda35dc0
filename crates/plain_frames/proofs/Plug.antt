-- The laws of FrameWords on a New_Charge_Session with plug 5, a number to which the page gives no label: refusal 5 with start 8, by its word alone, and the
-- lent numbers as they were; and on a change to plug 5 and a write of too few numbers, which leave the lent bytes.
use Rattle.std.specs.Prelude.{Err}
use mathlib.Core.Path.{◌≡◌, refl, sym, ap, subst}
use mathlib.Core.Bool.{true}
use mathlib.Core.List.{List, [], ◌∷◌}
use Prim.Native.Nat.{ℕ, ◌≤◌}
use native.Mathlib.Omega.{arith}
use lib.IntN.{ℤ, pos}
use lib.ListN.{length}
use Rattle.refusals.specs.declared.Refusal.TheVariants.{NoLabel}
use Rattle.signal.specs.Signal.{get_bits}
use Rattle.payload.specs.Payload.{le_number}
use Rattle.page_table.specs.Table.{rows, of_kind, first_at, big_of, covered}
use Rattle.page_read.specs.Judged.{Judged}
use Rattle.page_read.specs.Judge.{unlabelled, offender, stray_below, judged_number, judge_of}
use Rattle.page_change.specs.Change.{change_of, bytes_after}
use Rattle.plain_words.specs.Words.{outcome_word, number_in, start_in}
use Rattle.plain_frames.specs.Plain.{read_outcome, read_word, raws_after, write_word, buffer_left, change_word}
use Rattle.plain_frames.proofs.FrameWords.{read_told, read_refused, write_refused, change_refused}

abbrev plug : List ℕ
plug = 2 ∷ 5 ∷ []

unlabelled_plug : judge_of 0x6b001 true plug ≡ Err (NoLabel 8)
unfolding judge_of judged_number unlabelled offender stray_below rows first_at of_kind le_number get_bits
unlabelled_plug = refl

module _ (raws : List ℤ) where
  word-is : read_word 0x6b001 true plug raws ≡ 67589
  unfolding read_word
  word-is = ap (λ (j : Judged). outcome_word (read_outcome j (length raws))) unlabelled_plug

  pub plug_told : (number_in (read_word 0x6b001 true plug raws) ≡ 5) × (start_in (read_word 0x6b001 true plug raws) ≡ 8)
  plug_told =
      let t = rw unlabelled_plug at (read_told 0x6b001 true plug raws) in
      (t.number, t.start)

  pub plug_kept : raws_after 0x6b001 true plug raws ≡ raws
  plug_kept = read_refused 0x6b001 true plug raws (subst (λ (a : ℕ). 65536 ≤ a) (sym word-is) (omega arith))

-- ---- a change to it, and a write of two numbers, where a message is written of sixteen

abbrev session : List ℕ
session = 2 ∷ 1 ∷ []

words : (change_word 0x6b001 true session 8 (pos 5) ≡ 67589) × (write_word 3 (pos 2 ∷ pos 1 ∷ []) session ≡ 65543)
unfolding change_word change_of write_word judge_of judged_number unlabelled offender stray_below rows first_at of_kind big_of covered le_number get_bits
words = (refl, refl)

pub session_kept : bytes_after session (change_of 0x6b001 true session 8 (pos 5)) ≡ session
session_kept = change_refused 0x6b001 true session 8 (pos 5) (omega (arith, words.0))

pub buffer_kept : buffer_left 3 (pos 2 ∷ pos 1 ∷ []) session ≡ session
buffer_kept = write_refused 3 (pos 2 ∷ pos 1 ∷ []) session (omega (arith, words.1))
