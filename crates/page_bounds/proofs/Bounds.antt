-- What reading, changing and writing hand on is small: a kind is one of the interface's, a message has at most 8 bytes, and the start that refusal 5 carries
-- is that of a row, one of a payload's 64 bits. A bare `NoLabel s` is a value for every s; these laws say which are ever answered.
-- Assumes nothing.
use Rattle.std.specs.Prelude.{Some, None, Ok, Err, Option}
use mathlib.Core.Path.{◌≡◌, refl, sym, subst}
use mathlib.Core.Bool.{Bool, true, false, cond, ◌||◌, true≢false}
use mathlib.Core.List.{List, [], ◌∷◌}
use Prim.Native.Nat.{ℕ, suc, ◌*◌, ◌<◌, ◌≤◌, min}
use native.Mathlib.Omega.{arith}
use lib.Dec.{eqb, ltb, leb}
use lib.IntN.{ℤ}
use lib.ListN.{length, get_or}
use Rattle.refusals.specs.declared.Refusal.{Refusal}
use Rattle.refusals.specs.declared.Refusal.TheVariants.{NoLabel, UncoveredBit}
use Rattle.refusals.specs.Refusals.{start_of}
use Rattle.signal.specs.Raw.{fits_in, bits_in}
use Rattle.payload.specs.Payload.{number_of}
use borrow.Author.Tests.{ltb-true}
use Rattle.page_table.specs.declared.Interface.{Interface}
use Rattle.page_table.specs.declared.Interface.TheVariants.{Newer, Older}
use Rattle.page_table.specs.declared.Row.{Row}
use Rattle.page_table.specs.Messages.{message_count, rest_kind}
use Rattle.page_table.specs.Table.{rows, no_row, rows_of, is_signal, first_at, takes, length_of}
use Rattle.page_table.specs.Interfaces.{safety_kind, with_id}
use Rattle.page_table.proofs.Rules.{both_true, Ordered, ordered, row_fine_lem, short_length}
use Rattle.page_table.proofs.Firsts.{found_in}
use Rattle.page_table.proofs.Interfaces.{found_has}
use Rattle.page_read.specs.Judged.{Judged}
use Rattle.page_read.specs.Judge.{unlabelled, offends, offender, stray_below, judged_number, judged_at, judge_on, judge_of}
use Rattle.page_read.proofs.Interfaces.{newer}
use Rattle.page_write.specs.Written.{Written}
use Rattle.page_write.specs.Raws.{can_write, write_raws_of}
use Rattle.page_change.specs.Change.{changed_at, changed_in, change_on, change_of}
use Rattle.page_change.proofs.Changes.{newer_change}

either : {A : Type 0} (P : A → Type 0) (b : Bool) {x y : A} → P x → P y → P (cond b x y)
either P true p q = p
either P false p q = q

abbrev pub Small : Refusal → Type 0
Small w = start_of w < 64

-- a kind below b
abbrev pub SmallBelow : ℕ → Judged → Type 0
SmallBelow b (Ok (k, n)) = k < b
SmallBelow b (Err w) = Small w

-- the kinds of an interface are below this
abbrev pub kinds_on : Interface → ℕ
kinds_on Newer = message_count
kinds_on Older = rest_kind

abbrev pub SmallJudged : Judged → Type 0
SmallJudged a = SmallBelow message_count a

abbrev pub SmallWritten : Written → Type 0
SmallWritten (Ok (i, n)) = n ≤ 8
SmallWritten (Err w) = Small w

-- ---- reading

-- a row that has an identifier is of one of the interface's kinds
kind_small : (iface : Interface) (m : ℕ) (x : Bool) (i : ℕ) → with_id iface m x ≡ Some i → (get_or rows i no_row).kind < kinds_on iface
kind_small Newer m x i f = (found_has Newer m x i f).has.listed.in_table
kind_small Older m x i f =
    let k = (get_or rows i no_row).kind in
    ltb-true k rest_kind (both_true (leb safety_kind k) (ltb k rest_kind) (found_has Older m x i f).has.own).1

-- where a row offends, the least start of those that do is below 64
offender_small : (b p n : ℕ) (rs : List Row) → Ordered b p rs → unlabelled n rs ≡ true → offender n rs < 64
unfolding offender unlabelled
offender_small b p n [] o u = absurd (true≢false (sym u))
offender_small b p n (r ∷ rs) o u = go (offends n r) u (λ v. offender_small b (suc r.start) n rs o.3 v)
  where
    go : (x : Bool) → x || unlabelled n rs ≡ true → (unlabelled n rs ≡ true → offender n rs < 64)
        → cond x (min r.start (offender n rs)) (offender n rs) < 64
    go true e f = omega (arith, o.2.3)
    go false e f = f e

number_judged : (b k bits n : ℕ) → k < b → SmallBelow b (judged_number k bits n)
unfolding judged_number
number_judged b k bits n l = go (unlabelled n (rows_of k)) refl
  where
    go : (u : Bool) → unlabelled n (rows_of k) ≡ u
        → SmallBelow b (cond u (Err (NoLabel (offender n (rows_of k)))) (cond (stray_below bits n (rows_of k)) (Err UncoveredBit) (Ok (k, n))))
    go true e = offender_small (8 * length_of k) 0 n (rows_of k) (ordered k) e
    go false e = either (SmallBelow b) (stray_below bits n (rows_of k)) (omega arith) l

pub judge_small_on : (iface : Interface) (m : ℕ) (x : Bool) (bs : List ℕ) → SmallBelow (kinds_on iface) (judge_on iface m x bs)
unfolding judge_on
judge_small_on iface m x bs = go (with_id iface m x) refl
  where
    go : (f : Option ℕ) → with_id iface m x ≡ f → SmallBelow (kinds_on iface) (judged_at bs f)
    go (Some i) e =
        let r = get_or rows i no_row in
        either (SmallBelow (kinds_on iface)) (eqb (length bs) r.bytes) (number_judged (kinds_on iface) r.kind (8 * length bs) (number_of r.big bs) (kind_small iface m x i e))
        (either Small (ltb (length bs) r.bytes) (omega arith) (omega arith))
    go None e = omega arith

pub judge_small : (m : ℕ) (x : Bool) (bs : List ℕ) → SmallJudged (judge_of m x bs)
judge_small m x bs = subst SmallJudged (sym (newer m x bs)) (judge_small_on Newer m x bs)

-- ---- changing: the frame's own refusals, then 13, 7, and 5 with the start of the changed signal

pub change_small_on : (iface : Interface) (m : ℕ) (x : Bool) (bs : List ℕ) (s : ℕ) (z : ℤ) → SmallBelow (kinds_on iface) (change_on iface m x bs s z)
unfolding change_on
change_small_on iface m x bs s z = go (judge_on iface m x bs) (judge_small_on iface m x bs)
  where
    at : (k n : ℕ) → k < kinds_on iface → (f : Option ℕ) → first_at (is_signal k s) 0 rows ≡ f → SmallBelow (kinds_on iface) (changed_at k n z f)
    at k n l (Some i) e =
        let r = get_or rows i no_row in
        either (SmallBelow (kinds_on iface)) (fits_in r.signed r.width z)
        (either (SmallBelow (kinds_on iface)) (takes r.labels (bits_in r.signed r.width z)) l (row_fine_lem i (found_in (is_signal k s) i e).0).3)
        (omega arith)
    at k n l None e = omega arith

    go : (j : Judged) → SmallBelow (kinds_on iface) j → SmallBelow (kinds_on iface) (changed_in s z j)
    go (Ok (k, n)) l = at k n l (first_at (is_signal k s) 0 rows) refl
    go (Err w) l = l

pub change_small : (m : ℕ) (x : Bool) (bs : List ℕ) (s : ℕ) (z : ℤ) → SmallJudged (change_of m x bs s z)
change_small m x bs s z = subst SmallJudged (sym (newer_change m x bs s z)) (change_small_on Newer m x bs s z)

-- ---- writing

pub write_small : (k : ℕ) (zs : List ℤ) (buf : List ℕ) → SmallWritten (write_raws_of k zs buf)
unfolding write_raws_of
write_small k zs buf =
    either SmallWritten (can_write k zs) (either SmallWritten (leb (length_of k) (length buf)) (short_length k) (omega arith)) (omega arith)
