-- 02, Req 11: what an interface accepts is a frame of one of its own kinds (`on-own`), and a frame of a kind that it has is accepted there with the same answer
-- as on any other (`on-other`); no frame of a kind that it does not have is ever a message on it. `judgeOf` is the newer one (`newer`).
-- Assumes nothing.
use Rattle.std.specs.Prelude.{Some, None, Ok, Err, Option}
use mathlib.Core.Path.{◌≡◌, refl, sym, ap, ◌∙◌, subst}
use mathlib.Core.Bool.{Bool, true, false, cond}
use mathlib.Core.List.{List}
use Prim.Native.Nat.{ℕ, ◌*◌, ◌<◌}
use lib.ListN.{length}
use Rattle.payload.specs.Payload.{number_of}
use Rattle.refusals.specs.declared.Refusal.TheVariants.{UnknownIdentifier}
use Rattle.page_search.specs.page_table.specs.declared.Interface.{Interface}
use Rattle.page_search.specs.page_table.specs.declared.Interface.TheVariants.{Newer}
use Rattle.page_search.specs.page_table.specs.Messages.{message_count}
use Rattle.page_search.specs.page_table.specs.Table.{rows, row_at, first_at, has_id}
use Rattle.page_search.specs.page_table.specs.Interfaces.{is_on, found_on, with_id}
use Rattle.page_search.specs.page_table.proofs.Interfaces.{found_own, found_has}
use Rattle.page_read.specs.Judge.{judged_row, judged_at, judged_for, judge_on, judge_of, judge_from}
use Rattle.page_read.proofs.Answers.{reached_frame, taken}

pub newer : (m : ℕ) (x : Bool) (bs : List ℕ) → judge_of m x bs ≡ judge_on Newer m x bs
unfolding judge_of judge_on
newer m x bs = refl

-- a reader without a post gives 3 for the other's identifiers
pub from_on : (iface : Interface) (m : ℕ) (x : Bool) (bs : List ℕ) → judge_from iface UnknownIdentifier m x bs ≡ judge_on iface m x bs
unfolding judge_from judge_on
from_on iface m x bs = go (first_at (has_id m x) 0 rows)
  where
    by : (i : ℕ) (b : Bool) → cond b (judged_row (row_at i) bs) (Err UnknownIdentifier) ≡ judged_at bs (cond b (Some i) None)
    by i true = refl
    by i false = refl

    go : (f : Option ℕ) → judged_for iface UnknownIdentifier bs f ≡ judged_at bs (found_on iface f)
    go (Some i) = by i (is_on iface (row_at i).kind)
    go None = refl

-- THEOREM: an accepted frame is of a kind that the interface has
pub on_own : (iface : Interface) (m : ℕ) (x : Bool) (bs : List ℕ) (k n : ℕ) → judge_on iface m x bs ≡ Ok (k, n) → is_on iface k ≡ true
on_own iface m x bs k n e =
    let c = reached_frame iface m x bs k n e in
    let i = c.place in
    let t = taken (row_at i).kind (8 * length bs) (number_of (row_at i).big bs) k n c.judged in
    ap (is_on iface) (sym t.0) ∙ (found_has iface m x i c.found).has.own

-- and one of the table's
pub on_table : (iface : Interface) (m : ℕ) (x : Bool) (bs : List ℕ) (k n : ℕ) → judge_on iface m x bs ≡ Ok (k, n) → k < message_count
on_table iface m x bs k n e =
    let c = reached_frame iface m x bs k n e in
    let i = c.place in
    let t = taken (row_at i).kind (8 * length bs) (number_of (row_at i).big bs) k n c.judged in
    subst (λ (j : ℕ). j < message_count) t.0 (found_has iface m x i c.found).has.listed.in_table

-- where two interfaces find the same row they answer the same
same_found : (iface other : Interface) (m : ℕ) (x : Bool) (bs : List ℕ) → with_id other m x ≡ with_id iface m x → judge_on other m x bs ≡ judge_on iface m x bs
unfolding judge_on
same_found iface other m x bs e = ap (judged_at bs) e

-- THEOREM: an interface that has the kind answers as the other does
pub on_other : (iface other : Interface) (m : ℕ) (x : Bool) (bs : List ℕ) (k n : ℕ) → judge_on iface m x bs ≡ Ok (k, n) → is_on other k ≡ true
    → judge_on other m x bs ≡ Ok (k, n)
on_other iface other m x bs k n e o =
    let c = reached_frame iface m x bs k n e in
    let i = c.place in
    let t = taken (row_at i).kind (8 * length bs) (number_of (row_at i).big bs) k n c.judged in
    let first = (found_has iface m x i c.found).first in
    let there = found_own other (first_at (has_id m x) 0 rows) i first (ap (is_on other) t.0 ∙ o) in
    same_found iface other m x bs (there ∙ sym c.found) ∙ e
