-- From the message that a search by identifier found to the reader's answer: 3, 4 and 15 by its first row, 5 and 6 by the message's rows. On any interface.
-- Assumes nothing.
use Rattle.std.specs.Prelude.{true, false, Some, None, Result, Ok, Err, Option, ok_or}
use Rattle.std.specs.Result.{result_ok}
use borrow.Author.Tests.{eq-eqb}
use mathlib.Core.Path.{◌≡◌, refl, sym, ap, ◌∙◌, subst}
use mathlib.Core.Bool.{Bool, cond}
use mathlib.Core.List.{List}
use native.Mathlib.Omega.{arith}
use Prim.Native.Nat.{ℕ, ◌*◌, ◌^◌, ◌<◌, ◌≤◌}
use lib.ListN.{length, drop, take}
use Rattle.payload.specs.Payload.{number_of, Bytes}
use Rattle.payload.proofs.Orders.{number_bound}
use Rattle.payload.proofs.Stored.{number_in}
use Rattle.refusals.specs.declared.Refusal.{Refusal}
use Rattle.refusals.specs.declared.Refusal.TheVariants.{TooShort, TooLong}
use Rattle.page_search.specs.page_table.specs.declared.Interface.{Interface}
use Rattle.page_search.specs.page_table.specs.declared.Row.{Row}
use Rattle.page_search.specs.page_table.specs.Messages.{message_count}
use Rattle.page_search.specs.page_table.specs.Table.{rows, row_at, rows_of, has_id, first_at, block, length_of, with_message}
use Rattle.page_read.specs.Judge.{judged_number, wrong_length, judged_row, judged_for, judge_from}
use Rattle.page_read.specs.Steps.{offence_of, cleared, judged_by}
use Rattle.page_search.specs.page_table.proofs.Rules.{short_length}
use Rattle.page_search.specs.page_table.proofs.Interfaces.{found_says}
use Rattle.page_search.specs.page_table.proofs.Firsts.{first_id}
use Rattle.page_search.specs.page_table.proofs.Listed.{found_listed}
use Rattle.page_search.specs.page_table.specs.Interfaces.{is_on}
use Rattle.page_read.proofs.Answers.{row_short, row_long}
use Rattle.page_read.proofs.Offenders.{judged_by_lem}

-- an answer that was asked for with a refusal in its place: there is none, and the refusal is that one
pub unanswered : {A : Type 0} (o : Option A) (w v : Refusal) → ok_or o w ≡ Err v → (o ≡ None) × (v ≡ w)
unanswered None w v e = (refl, cc)
unanswered (Some x) w v e = absurd (let z : ◌≡◌ {A = ℕ} 0 1 = cc in omega arith)

-- or there is one
pub answered : {A : Type 0} {o f : Option A} {r : Result A Refusal} {x : A} → o ≡ f → o ≡ result_ok r → r ≡ Ok x → f ≡ Some x
answered e k w = sym e ∙ k ∙ ap result_ok w

-- what the search for the identifier decides
pub searched : (iface : Interface) (other : Refusal) (m : ℕ) (x : Bool) (bs : List ℕ) (f : Option ℕ) → first_at (has_id m x) 0 rows ≡ f
    → judged_for iface other bs f ≡ judge_from iface other m x bs
unfolding judge_from
searched iface other m x bs f g = ap (judged_for iface other bs) (sym g)

-- the message that was found is that of the row at i
pub record Of (k i len : ℕ) (big : Bool) (f : Option ℕ) : Type 0 where
  pub place : f ≡ Some i
  pub kind : k ≡ (row_at i).kind
  pub bytes : len ≡ (row_at i).bytes
  pub order : big ≡ (row_at i).big

pub of : (k i len : ℕ) (big : Bool) (f : Option ℕ) → with_message f ≡ Some (k, i, len, big) → Of k i len big f
of k i len big (Some j) e =
    let s = found_says j k i len big e in
    let p = s.1 in
    record {
      place = ap Some p;
      kind = sym s.0 ∙ ap (λ (x : ℕ). (row_at x).kind) p;
      bytes = sym s.2 ∙ ap (λ (x : ℕ). (row_at x).bytes) p;
      order = sym s.3 ∙ ap (λ (x : ℕ). (row_at x).big) p;
    }
of k i len big None e = absurd (let z : ◌≡◌ {A = ℕ} 0 1 = cc in omega arith)

pub none_found : (f : Option ℕ) → with_message f ≡ None → f ≡ None
none_found (Some j) e = absurd (let z : ◌≡◌ {A = ℕ} 0 1 = cc in omega arith)
none_found None e = refl

-- what is judged of a number by the rows of kind k
abbrev pub Judging : ℕ → List ℕ → ℕ → ℕ → Type 0
Judging i bs n k =
    (judged_by k n (offence_of n (rows_of k)) (cleared (rows_of k) n) ≡ judged_row (row_at i) bs)
    × (block k (drop i rows) ≡ rows_of k) × (n < 2 ^ (8 * length_of k)) × (k < message_count)

-- 5 and 6, where the length is the row's: the message's rows stand together from the one that was found, and the number has no bit above the message
pub of_length : (m : ℕ) (x : Bool) (i : ℕ) (bs : List ℕ) (n : ℕ) → Bytes bs → first_at (has_id m x) 0 rows ≡ Some i → length bs ≡ (row_at i).bytes
    → n ≡ number_of (row_at i).big (take 8 bs) → Judging i bs n (row_at i).kind
unfolding length_of
of_length m x i bs n hb g l e =
    let r = row_at i in
    let f = first_id m x i g in
    let size : length_of r.kind ≡ length bs = ap (λ (x : Row). x.bytes) f.3 ∙ sym l in
    let few : length bs ≤ 8 = omega (arith, short_length r.kind) in
    let whole = number_of r.big bs in
    let is : n ≡ number_of r.big bs = e ∙ number_in r.big bs few in
    let below : number_of r.big bs < 2 ^ (8 * length_of r.kind)
    = subst (λ (y : ℕ). number_of r.big bs < 2 ^ (8 * y)) (sym size) (number_bound r.big bs hb) in (
      ap (λ (y : ℕ). judged_by r.kind y (offence_of y (rows_of r.kind)) (cleared (rows_of r.kind) y)) is
          ∙ judged_by_lem r.kind whole below
          ∙ ap (λ (y : ℕ). judged_number r.kind (8 * y) whole) size
          ∙ sym (ap (λ (b : Bool). cond b (judged_number r.kind (8 * length bs) whole) (Err (wrong_length r bs))) (eq-eqb (length bs) r.bytes l)),
      f.2,
      subst (λ (y : ℕ). y < 2 ^ (8 * length_of r.kind)) (sym is) below,
      (found_listed m x i g).listed.in_table,
    )

-- ---- the reader's answer, by what the search told of the message

module _ (iface : Interface) (other : Refusal) (m : ℕ) (x : Bool) (bs : List ℕ) (k i len : ℕ) (big : Bool)
    (found : with_message (first_at (has_id m x) 0 rows) ≡ Some (k, i, len, big)) where
  says : Of k i len big (first_at (has_id m x) 0 rows)
  says = of k i len big (first_at (has_id m x) 0 rows) found

  by_interface : (b : Bool) → is_on iface k ≡ b → cond b (judged_row (row_at i) bs) (Err other) ≡ judge_from iface other m x bs
  by_interface b o =
      sym (ap (λ (y : Bool). cond y (judged_row (row_at i) bs) (Err other)) (ap (is_on iface) (sym says.kind) ∙ o))
      ∙ searched iface other m x bs (Some i) says.place

  pub answer_foreign : is_on iface k ≡ false → Err other ≡ judge_from iface other m x bs
  answer_foreign o = by_interface false o

  pub answer_short : is_on iface k ≡ true → length bs < len → Err TooShort ≡ judge_from iface other m x bs
  answer_short o l = sym (row_short bs (row_at i) (omega (arith, says.bytes))) ∙ by_interface true o

  pub answer_long : is_on iface k ≡ true → len < length bs → Err TooLong ≡ judge_from iface other m x bs
  answer_long o l = sym (row_long bs (row_at i) (omega (arith, says.bytes))) ∙ by_interface true o

  -- what is judged of the number, where the length is the message's
  pub judging : (n : ℕ) → Bytes bs → length bs ≡ len → n ≡ number_of big (take 8 bs) → Judging i bs n k
  judging n hb l e =
      subst (Judging i bs n) (sym says.kind)
      (of_length m x i bs n hb says.place (l ∙ says.bytes) (e ∙ ap (λ (b : Bool). number_of b (take 8 bs)) says.order))

  pub answer_number : is_on iface k ≡ true → (n : ℕ) → Judging i bs n k → judged_by k n (offence_of n (rows_of k)) (cleared (rows_of k) n) ≡ judge_from iface other m x bs
  answer_number o n t = t.0 ∙ by_interface true o
