-- 02, Req 02. Refusal 5 is given where "a label signal holds a number without a label" and carries "the start bit of the first offending signal,
-- lowest start first" (`first-offence`, `offence-given`): a message's rows stand in order by start, so that the loop's first offence is the lowest.
-- Assumes nothing.
use Rattle.std.specs.Prelude.{Ok, Err}
use mathlib.Core.Path.{◌≡◌, refl, sym, ap, ◌∙◌}
use mathlib.Core.Bool.{Bool, true, false, cond, not, ◌||◌}
use mathlib.Core.Logic.{inl, inr}
use mathlib.Core.List.{List, [], ◌∷◌}
use Prim.Native.Nat.{ℕ, suc, ◌*◌, ◌^◌, ◌<◌, ◌≤◌, min}
use native.Mathlib.Omega.{arith}
use lib.Dec.{eqb}
use lib.ListN.{length}
use Rattle.payload.specs.Payload.{number_of}
use Rattle.page_search.specs.page_table.specs.declared.Interface.{Interface}
use Rattle.page_search.specs.page_table.specs.declared.Row.{Row}
use Rattle.std.proofs.Common.{Option, Some, None}
use Rattle.refusals.specs.declared.Refusal.TheVariants.{NoLabel, UncoveredBit}
use Rattle.page_search.specs.page_table.specs.Table.{row_at, rows_of, length_of, bits_at, takes}
use Rattle.page_search.specs.page_table.specs.Listed.{Among}
use Rattle.page_read.specs.Judged.{Judged}
use Rattle.page_read.specs.Judge.{unlabelled, offends, offender, stray_below, judged_number, judge_on}
use Rattle.page_read.specs.Refusing.{number_in, SomeOffence, FirstOffence}
use Rattle.page_read.specs.Steps.{offence_of, cleared, judged_by}
use Rattle.page_search.specs.page_table.proofs.Rules.{not_both, Ordered, ordered}
use Rattle.page_read.proofs.Gaps.{cleared_test}
use Rattle.page_read.proofs.Answers.{Reached, reached, fifth, reached_kind, reached_number, of_kind_lem}

-- ---- the least start of the rows that offend

-- of rows that start at p or above it is not below p
offender_from : (b p n : ℕ) (rs : List Row) → Ordered b p rs → p ≤ 64 → p ≤ offender n rs
unfolding offender
offender_from b p n [] o h = h
offender_from b p n (r ∷ rs) o h = go (offends n r) (offender_from b (suc r.start) n rs o.3 o.2.3)
  where
    go : (x : Bool) → suc r.start ≤ offender n rs → p ≤ cond x (min r.start (offender n rs)) (offender n rs)
    go true i = omega (arith, o.0)
    go false i = omega (arith, o.0)

-- so that an offending row that stands first starts lowest
offender_head : (b p n : ℕ) (r : Row) (rs : List Row) → Ordered b p (r ∷ rs) → min r.start (offender n rs) ≡ r.start
offender_head b p n r rs o = omega (arith, offender_from b (suc r.start) n rs o.3 o.2.3)

-- no row that offends starts below it
offender_least : (n : ℕ) (q : Row) (rs : List Row) → Among q rs → offends n q ≡ true → offender n rs ≤ q.start
unfolding offender
offender_least n q [] a h = absurd a
offender_least n q (r ∷ rs) (inl e) h =
    let t : offends n r ≡ true = ap (offends n) (sym e) ∙ h in
    let s : q.start ≡ r.start = ap (λ (x : Row). x.start) e in
    rw t (omega arith)
offender_least n q (r ∷ rs) (inr a) h = go (offends n r) (offender_least n q rs a h)
  where
    go : (x : Bool) → offender n rs ≤ q.start → cond x (min r.start (offender n rs)) (offender n rs) ≤ q.start
    go true i = omega arith
    go false i = i

-- one of them starts there
offender_is : (b p n : ℕ) (rs : List Row) → Ordered b p rs → unlabelled n rs ≡ true → (q : Row) × Among q rs × (q.start ≡ offender n rs) × (offends n q ≡ true)
unfolding offender unlabelled
offender_is b p n [] o u = absurd (not_both false u refl)
offender_is b p n (r ∷ rs) o u = go (offends n r) refl u (λ v. offender_is b (suc r.start) n rs o.3 v)
  where
    Told : List Row → ℕ → Type 0
    Told l s = (q : Row) × Among q l × (q.start ≡ s) × (offends n q ≡ true)

    go : (x : Bool) → offends n r ≡ x → x || unlabelled n rs ≡ true → (unlabelled n rs ≡ true → Told rs (offender n rs))
        → Told (r ∷ rs) (cond x (min r.start (offender n rs)) (offender n rs))
    go true t e f = (r, inl refl, sym (offender_head b p n r rs o), t)
    go false t e f = let c = f e in (c.0, inr c.1, c.2, c.3)

-- a row that offends is enough for 5
unlabelled_by : (n : ℕ) (q : Row) (rs : List Row) → Among q rs → offends n q ≡ true → unlabelled n rs ≡ true
unfolding unlabelled
unlabelled_by n q [] a h = absurd a
unlabelled_by n q (r ∷ rs) (inl e) h = let t : offends n r ≡ true = ap (offends n) (sym e) ∙ h in rw t
unlabelled_by n q (r ∷ rs) (inr a) h = go (offends n r) (unlabelled_by n q rs a h)
  where
    go : (x : Bool) → unlabelled n rs ≡ true → x || unlabelled n rs ≡ true
    go true i = refl
    go false i = i

-- ---- the loop over a message's rows

-- the first row that offends is the one that starts lowest
pub offence_is : (b p n : ℕ) (rs : List Row) → Ordered b p rs → offence_of n rs ≡ cond (unlabelled n rs) (Some (offender n rs)) None
unfolding offence_of unlabelled offender
offence_is b p n [] o = refl
offence_is b p n (r ∷ rs) o = go (takes r.labels (bits_at n r)) (offence_is b (suc r.start) n rs o.3)
  where
    go : (x : Bool) → offence_of n rs ≡ cond (unlabelled n rs) (Some (offender n rs)) None
        → cond x (offence_of n rs) (Some r.start)
        ≡ cond (not x || unlabelled n rs) (Some (cond (not x) (min r.start (offender n rs)) (offender n rs))) None
    go true i = i
    go false i = ap Some (sym (offender_head b p n r rs o))

pub judged_by_lem : (k n : ℕ) → n < 2 ^ (8 * length_of k)
    → judged_by k n (offence_of n (rows_of k)) (cleared (rows_of k) n) ≡ judged_number k (8 * length_of k) n
unfolding judged_number
judged_by_lem k n h =
    ap (λ (o : Option ℕ). judged_by k n o (cleared (rows_of k) n)) (offence_is (8 * length_of k) 0 n (rows_of k) (ordered k))
    ∙ go (unlabelled n (rows_of k)) (stray_below (8 * length_of k) n (rows_of k)) (cleared_test (8 * length_of k) (rows_of k) n (ordered k) h)
  where
    go : (u s : Bool) → eqb (cleared (rows_of k) n) 0 ≡ not s
        → judged_by k n (cond u (Some (offender n (rows_of k))) None) (cleared (rows_of k) n)
        ≡ cond {A = Judged} u (Err (NoLabel (offender n (rows_of k)))) (cond s (Err UncoveredBit) (Ok (k, n)))
    go true s e = refl
    go false true e = rw e
    go false false e = rw e

-- ---- 02's words, over what reading answers

-- THEOREM: refusal 5 carries the start bit of the first offending signal
pub first_offence : (iface : Interface) (m : ℕ) (x : Bool) (bs : List ℕ) (s : ℕ) → judge_on iface m x bs ≡ Err (NoLabel s) → FirstOffence iface m x bs s
first_offence iface m x bs s e =
    go (reached iface m x bs (Err (NoLabel s)) e (λ q. let z : ◌≡◌ {A = ℕ} 0 1 = cc in omega arith) (λ q. let z : ◌≡◌ {A = ℕ} 0 1 = cc in omega arith)
    (λ q. let z : ◌≡◌ {A = ℕ} 0 1 = cc in omega arith))
  where
    go : Reached iface m x bs (Err (NoLabel s)) → FirstOffence iface m x bs s
    go c =
        let k = (row_at c.place).kind in
        let n = number_of (row_at c.place).big bs in
        let same : number_in k bs ≡ n = reached_number iface m x bs (Err (NoLabel s)) c in
        let f = fifth k (8 * length bs) n s c.judged in
        let o = offender_is (8 * length_of k) 0 n (rows_of k) (ordered k) f.0 in
        record {
          kind = k;
          frame = reached_kind iface m x bs (Err (NoLabel s)) c;
          signal = o.0;
          is_signal = record { is_signal = o.1; start = o.2 ∙ f.1 };
          offending = ap (λ (y : ℕ). offends y o.0) same ∙ o.3;
          lowest = λ q a h. omega (arith, offender_least n q (rows_of k) a (ap (λ (y : ℕ). offends y q) (sym same) ∙ h), f.1);
        }

-- a frame of a kind with a signal that offends gets 5, with the lowest start
pub offence_answer : (iface : Interface) (m : ℕ) (x : Bool) (bs : List ℕ) (o : SomeOffence iface m x bs) → judge_on iface m x bs ≡ Err (NoLabel (offender (number_in o.kind bs) (rows_of o.kind)))
unfolding judged_number
offence_answer iface m x bs o =
    of_kind_lem iface m x bs o.kind o.frame ∙ rw (unlabelled_by (number_in o.kind bs) o.signal (rows_of o.kind) o.is_signal o.offending)

-- THEOREM: and is given there
pub offence_given : (iface : Interface) (m : ℕ) (x : Bool) (bs : List ℕ) (s : ℕ) → FirstOffence iface m x bs s → judge_on iface m x bs ≡ Err (NoLabel s)
offence_given iface m x bs s f =
    let k = f.kind in
    let n = number_in k bs in
    let a = f.is_signal.is_signal in
    let o = offender_is (8 * length_of k) 0 n (rows_of k) (ordered k) (unlabelled_by n f.signal (rows_of k) a f.offending) in
    let e : offender n (rows_of k) ≡ s
    = omega (arith, offender_least n f.signal (rows_of k) a f.offending, f.is_signal.start, f.lowest o.0 o.1 o.3, o.2) in
    offence_answer iface m x bs (record { kind = k; frame = f.frame; signal = f.signal; is_signal = a; offending = f.offending })
    ∙ ap (λ (y : ℕ). Err (NoLabel y)) e
