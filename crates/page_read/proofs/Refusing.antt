-- 01, "Numbers given back", each exactly in its case: reading gives 3, 4, 15, 5 or 6 where, and only where, the lists of messages and rows say so.
-- Assumes nothing.
use Rattle.std.specs.Prelude.{Some, None, Ok, Err, Option}
use mathlib.Core.Path.{◌≡◌, refl, sym, ap, ◌∙◌}
use mathlib.Core.Bool.{Bool, true, false, cond}
use mathlib.Core.Logic.{◌⊎◌, inl, inr, ◌↔◌}
use mathlib.Core.List.{List}
use Prim.Native.Nat.{ℕ, ◌*◌, ◌≤◌, ◌<◌}
use native.Mathlib.Omega.{arith}
use lib.Dec.{eqb, ltb}
use lib.ListN.{length}
use borrow.Author.Tests.{eqb-false, ltb-true, ltb-false}
use Rattle.refusals.specs.declared.Refusal.{Refusal}
use Rattle.refusals.specs.declared.Refusal.TheVariants.{UnknownIdentifier, TooShort, TooLong, NoLabel, UncoveredBit}
use Rattle.refusals.specs.Refusals as refusals
use Rattle.payload.specs.Payload.{number_of, Bytes}
use Rattle.page_search.specs.page_table.specs.declared.Interface.{Interface}
use Rattle.page_search.specs.page_table.specs.Messages.{message_of}
use Rattle.page_search.specs.page_table.specs.Table.{row_at, rows_of}
use Rattle.page_search.specs.page_table.specs.Interfaces.{with_id, Has}
use Rattle.page_search.specs.page_table.proofs.Interfaces.{found_has, has_found, on_none}
use Rattle.page_read.specs.Judged.{Judged}
use Rattle.page_read.specs.Judge.{unlabelled, offender, stray_below, judged_number, judged_row, judged_at, judge_on}
use Rattle.page_read.specs.Refusing.{Gives, number_in, SomeOffence, Uncovered}
use Rattle.page_read.proofs.Answers.{row_short, row_long, beyond}
use Rattle.page_read.proofs.Offenders.{first_offence, offence_answer}
use Rattle.page_read.proofs.Strays.{uncovered, uncovered_given}

-- ---- which refusal has which number

-- the test that gave the refusal with the number c
data Told (iface : Interface) (m : ℕ) (x : Bool) (bs : List ℕ) (c : ℕ) : Type 0 where
  nowhere : c ≡ 3 → with_id iface m x ≡ None → Told iface m x bs c
  short : c ≡ 4 → (i : ℕ) → with_id iface m x ≡ Some i → length bs < (row_at i).bytes → Told iface m x bs c
  long : c ≡ 15 → (i : ℕ) → with_id iface m x ≡ Some i → (row_at i).bytes < length bs → Told iface m x bs c
  offending : c ≡ 5 → (s : ℕ) → judge_on iface m x bs ≡ Err (NoLabel s) → Told iface m x bs c
  stray : c ≡ 6 → judge_on iface m x bs ≡ Err UncoveredBit → Told iface m x bs c

-- the refusal that was given has this number
is_number : (a : Judged) (v w : Refusal) (c : ℕ) → a ≡ Err v → a ≡ Err w → refusals.number_of w ≡ c → c ≡ refusals.number_of v
is_number a v w c e f n = let s : w ≡ v = cc in sym n ∙ ap refusals.number_of s

told : (iface : Interface) (m : ℕ) (x : Bool) (bs : List ℕ) (c : ℕ) → Gives c (judge_on iface m x bs) → Told iface m x bs c
unfolding judge_on judged_number
told iface m x bs c (w, e, n) = at (with_id iface m x) refl
  where
    sized : (i : ℕ) (u s : Bool) → judge_on iface m x bs ≡ cond u (Err (NoLabel (offender (number_of (row_at i).big bs) (rows_of (row_at i).kind)))) (cond s (Err UncoveredBit) (Ok ((row_at i).kind, number_of (row_at i).big bs)))
        → Told iface m x bs c
    sized i true s q = offending (is_number (judge_on iface m x bs) (NoLabel (offender (number_of (row_at i).big bs) (rows_of (row_at i).kind))) w c q e n) (offender (number_of (row_at i).big bs) (rows_of (row_at i).kind)) q
    sized i false true q = stray (is_number (judge_on iface m x bs) UncoveredBit w c q e n) q
    sized i false false q = absurd (let z : ◌≡◌ {A = ℕ} 0 1 = cc in omega arith)

    row : (i : ℕ) (l s : Bool) → with_id iface m x ≡ Some i → eqb (length bs) (row_at i).bytes ≡ l → ltb (length bs) (row_at i).bytes ≡ s
        → judge_on iface m x bs ≡ judged_row (row_at i) bs → Told iface m x bs c
    row i true s f p o q =
        sized i (unlabelled (number_of (row_at i).big bs) (rows_of (row_at i).kind)) (stray_below (8 * length bs) (number_of (row_at i).big bs) (rows_of (row_at i).kind))
        (q ∙ rw p)
    row i false true f p o q =
        let l = ltb-true (length bs) (row_at i).bytes o in
        short (is_number (judge_on iface m x bs) TooShort w c (q ∙ row_short bs (row_at i) l) e n) i f l
    row i false false f p o q =
        let l : (row_at i).bytes < length bs = beyond (length bs) (row_at i).bytes (ltb-false (length bs) (row_at i).bytes o) (eqb-false (length bs) (row_at i).bytes p) in
        long (is_number (judge_on iface m x bs) TooLong w c (q ∙ row_long bs (row_at i) l) e n) i f l

    at : (f : Option ℕ) → with_id iface m x ≡ f → Told iface m x bs c
    at (Some i) f = row i (eqb (length bs) (row_at i).bytes) (ltb (length bs) (row_at i).bytes) f refl refl (ap (judged_at bs) f)
    at None f = nowhere (is_number (judge_on iface m x bs) UnknownIdentifier w c (ap (judged_at bs) f) e n) f

-- THEOREM: 01, "Reading gives 3 to 6", and 15 by 02, Req 02
pub reading_gives : (iface : Interface) (m : ℕ) (x : Bool) (bs : List ℕ) (c : ℕ) → Gives c (judge_on iface m x bs) → ((3 ≤ c) × (c ≤ 6)) ⊎ (c ≡ 15)
reading_gives iface m x bs c g = go (told iface m x bs c g)
  where
    go : Told iface m x bs c → ((3 ≤ c) × (c ≤ 6)) ⊎ (c ≡ 15)
    go (nowhere q f) = inl (omega arith)
    go (short q i f l) = inl (omega arith)
    go (long q i f l) = inr q
    go (offending q s o) = inl (omega arith)
    go (stray q o) = inl (omega arith)

-- the row that is found for a message of the list
module _ (iface : Interface) (m : ℕ) (x : Bool) (bs : List ℕ) where
  at_row : (i : ℕ) → with_id iface m x ≡ Some i → judge_on iface m x bs ≡ judged_row (row_at i) bs
  unfolding judge_on
  at_row i f = ap (judged_at bs) f

  bytes_of_lem : (k : ℕ) → Has iface m x k → (i : ℕ) × (with_id iface m x ≡ Some i) × ((row_at i).bytes ≡ (message_of k).2)
  bytes_of_lem k l =
      let p = has_found iface m x k l in
      (p.0, p.1, sym (found_has iface m x p.0 p.1).bytes ∙ ap (λ (j : ℕ). (message_of j).2) p.2)

-- ---- the theorems

-- THEOREM: 3, "identifier not in the table", in the frame's form
pub gives_3 : (iface : Interface) (m : ℕ) (x : Bool) (bs : List ℕ) → Gives 3 (judge_on iface m x bs) ↔ ((k : ℕ) → Has iface m x k → ⊥)
unfolding judge_on
gives_3 iface m x bs =
    (λ g k l. there (told iface m x bs 3 g) (has_found iface m x k l).0 (has_found iface m x k l).1, λ n. (UnknownIdentifier, ap (judged_at bs) (on_none iface m x n), refl))
  where
    there : Told iface m x bs 3 → (i : ℕ) → with_id iface m x ≡ Some i → ⊥
    there (nowhere q f) i p = let z : ◌≡◌ {A = ℕ} 0 1 = cc in omega arith
    there (short q j f l) i p = omega arith
    there (long q j f l) i p = omega arith
    there (offending q s o) i p = omega arith
    there (stray q o) i p = omega arith

-- THEOREM: 4, where the frame is shorter than the message of the table with its identifier
pub gives_4 : (iface : Interface) (m : ℕ) (x : Bool) (bs : List ℕ) → Gives 4 (judge_on iface m x bs) ↔ ((k : ℕ) × Has iface m x k × (length bs < (message_of k).2))
gives_4 iface m x bs = (λ g. there (told iface m x bs 4 g), back)
  where
    there : Told iface m x bs 4 → (k : ℕ) × Has iface m x k × (length bs < (message_of k).2)
    there (short q i f l) =
        let t = found_has iface m x i f in
        ((row_at i).kind, t.has, omega (arith, t.bytes))
    there (nowhere q f) = absurd (omega arith)
    there (long q j f l) = absurd (omega arith)
    there (offending q s o) = absurd (omega arith)
    there (stray q o) = absurd (omega arith)

    back : (k : ℕ) × Has iface m x k × (length bs < (message_of k).2) → Gives 4 (judge_on iface m x bs)
    back (k, l, h) =
        let p = bytes_of_lem iface m x bs k l in
        (TooShort, at_row iface m x bs p.0 p.1 ∙ row_short bs (row_at p.0) (omega (arith, p.2)), refl)

-- THEOREM: 15, where it is longer
pub gives_15 : (iface : Interface) (m : ℕ) (x : Bool) (bs : List ℕ) → Gives 15 (judge_on iface m x bs) ↔ ((k : ℕ) × Has iface m x k × ((message_of k).2 < length bs))
gives_15 iface m x bs = (λ g. there (told iface m x bs 15 g), back)
  where
    there : Told iface m x bs 15 → (k : ℕ) × Has iface m x k × ((message_of k).2 < length bs)
    there (long q i f l) =
        let t = found_has iface m x i f in
        ((row_at i).kind, t.has, omega (arith, t.bytes))
    there (nowhere q f) = absurd (omega arith)
    there (short q j f l) = absurd (omega arith)
    there (offending q s o) = absurd (omega arith)
    there (stray q o) = absurd (omega arith)

    back : (k : ℕ) × Has iface m x k × ((message_of k).2 < length bs) → Gives 15 (judge_on iface m x bs)
    back (k, l, h) =
        let p = bytes_of_lem iface m x bs k l in
        (TooLong, at_row iface m x bs p.0 p.1 ∙ row_long bs (row_at p.0) (omega (arith, p.2)), refl)

-- THEOREM: 5, where a frame of its message's length has a label signal that holds a number without a label; which start it carries is `first-offence`'s
pub gives_5 : (iface : Interface) (m : ℕ) (x : Bool) (bs : List ℕ) → Gives 5 (judge_on iface m x bs) ↔ SomeOffence iface m x bs
gives_5 iface m x bs = (λ g. there (told iface m x bs 5 g), λ o. (NoLabel (offender (number_in o.kind bs) (rows_of o.kind)), offence_answer iface m x bs o, refl))
  where
    there : Told iface m x bs 5 → SomeOffence iface m x bs
    there (offending q s e) =
        let f = first_offence iface m x bs s e in
        record { kind = f.kind; frame = f.frame; signal = f.signal; is_signal = f.is_signal.is_signal; offending = f.offending }
    there (nowhere q f) = absurd (omega arith)
    there (short q j f l) = absurd (omega arith)
    there (long q j f l) = absurd (omega arith)
    there (stray q o) = absurd (omega arith)

-- THEOREM: 6, where its labels are in order and a bit that no signal covers is 1
pub gives_6 : (iface : Interface) (m : ℕ) (x : Bool) (bs : List ℕ) → Bytes bs → Gives 6 (judge_on iface m x bs) ↔ Uncovered iface m x bs
gives_6 iface m x bs hb = (λ g. there (told iface m x bs 6 g), λ u. (UncoveredBit, uncovered_given iface m x bs hb u, refl))
  where
    there : Told iface m x bs 6 → Uncovered iface m x bs
    there (stray q e) = uncovered iface m x bs hb e
    there (nowhere q f) = absurd (omega arith)
    there (short q j f l) = absurd (omega arith)
    there (long q j f l) = absurd (omega arith)
    there (offending q s o) = absurd (omega arith)
