-- Reading a message refuses as reading the frame does (`read_gives`), and writing one gives 7 and 8 each exactly in its case (`write_7`, `write_8`).
-- Assumes nothing.
use Rattle.std.specs.Prelude.{Ok, Err}
use mathlib.Core.Path.{◌≡◌, refl, ap, ap₂, ◌∙◌, subst}
use mathlib.Core.Bool.{Bool, true, false, ◌&&◌}
use mathlib.Core.Logic.{inl, inr, ◌↔◌}
use mathlib.Core.List.{List}
use Prim.Native.Nat.{ℕ}
use native.Mathlib.Omega.{arith}
use lib.Dec.{leb}
use lib.IntN.{pos}
use lib.ListN.{length, get_or}
use borrow.Author.Tests.{leb-false, lt-leb}
use Rattle.refusals.specs.declared.Refusal.TheVariants.{NoRawNumber, ShortBuffer}
use Rattle.page_table.specs.Table.{no_row, rows_of, length_of}
use Rattle.page_table.proofs.Rules.{both_true, not_both}
use Rattle.page_read.specs.Judged.{Judged}
use Rattle.page_read.specs.Judge.{judge_of}
use Rattle.page_read.specs.Refusing as reading
use Rattle.page_write.specs.Refusing.{Gives}
use Rattle.page_write.proofs.Trips.{by_at, not_by}
use Rattle.page_write.proofs.Refusing.{seven, eight}
use Rattle.message_laws.specs.Fits.{row_fits, all_fit}
use Rattle.message_types.specs.declared.Message.{Message}
use Rattle.message_types.specs.KindNumbers.{kind_of}
use Rattle.message_take.specs.Take.{raws_of, has_raws}
use Rattle.messages.specs.Read.{reading_of, read_of}
use Rattle.messages.specs.Write.{write_of}
use Rattle.messages.specs.Writable.{writable, answer_of}
use Rattle.messages.specs.Refusing.{ReadGives, Unwritable, NoRoom}
use Rattle.messages.proofs.Each.{counted}
use Rattle.messages.proofs.Trips.{write_answer}

-- THEOREM: reading a message gives the numbers that reading its frame gives, each in the case that page_read's theorems tell
pub read_gives : (m : ℕ) (x : Bool) (bs : List ℕ) (c : ℕ) → ReadGives c (read_of m x bs) ↔ reading.Gives c (judge_of m x bs)
unfolding read_of
read_gives m x bs c = (λ g. there (judge_of m x bs) g, λ g. (g.0, ap reading_of g.1, g.2))
  where
    there : (j : Judged) → ReadGives c (reading_of j) → reading.Gives c j
    there (Ok (k, n)) (w, e, q) = absurd (let z : ◌≡◌ {A = ℕ} 0 1 = cc in omega arith)
    there (Err v) (w, e, q) = (w, ap Err (cc), q)

-- ---- a message that cannot be written

cannot : (x : Message) → writable x ≡ false → Unwritable x
cannot x e = go (has_raws x) refl e
  where
    go : (b : Bool) → has_raws x ≡ b → b && all_fit (rows_of (kind_of x)) (raws_of x) ≡ false → Unwritable x
    go true h e = inr (not_by row_fits (rows_of (kind_of x)) (raws_of x) (omega (arith, counted x)) e)
    go false h e = inl h

unwritten : (x : Message) → Unwritable x → writable x ≡ false
unwritten x u = go (writable x) refl u
  where
    go : (b : Bool) → writable x ≡ b → Unwritable x → b ≡ false
    go true e (inl n) = absurd (not_both (has_raws x) (both_true (has_raws x) (all_fit (rows_of (kind_of x)) (raws_of x)) e).0 n)
    go true e (inr (j, l, n)) =
        let fits = (both_true (has_raws x) (all_fit (rows_of (kind_of x)) (raws_of x)) e).1 in
        absurd (not_both (row_fits (get_or (rows_of (kind_of x)) j no_row) (get_or (raws_of x) j (pos 0))) (by_at row_fits (rows_of (kind_of x)) (raws_of x) fits j l) n)
    go false e u = refl

-- THEOREM: 7
pub write_7 : (x : Message) (buf : List ℕ) → Gives 7 (write_of x buf) ↔ Unwritable x
write_7 x buf = (
  λ g. cannot x (seven (kind_of x) (writable x) (leb (length_of (kind_of x)) (length buf)) (subst (Gives 7) (write_answer x buf) g)),
  λ u. (NoRawNumber, write_answer x buf ∙ ap (λ (a : Bool). answer_of x a (leb (length_of (kind_of x)) (length buf))) (unwritten x u), refl),
)

-- THEOREM: then 8
pub write_8 : (x : Message) (buf : List ℕ) → Gives 8 (write_of x buf) ↔ NoRoom x buf
write_8 x buf = (
  λ g. let p = eight (kind_of x) (writable x) (leb (length_of (kind_of x)) (length buf)) (subst (Gives 8) (write_answer x buf) g) in
      (p.0, leb-false (length_of (kind_of x)) (length buf) p.1),
  λ n. (ShortBuffer, write_answer x buf ∙ ap₂ (answer_of x) n.0 (lt-leb (length_of (kind_of x)) (length buf) n.1), refl),
)
