-- `compare_logs::compare`: a log that is broken is refused, the first before the second, then one of too many records, and else they are listed.
use Rattle.std.proofs.Common.{◌≡◌, ◌∙◌, ◌<◌, ℕ, length, sym, ap, subst, rules, arith, List, Ok, Err, Option}
use Rattle.std.specs.Prelude.{Result, MatchOption, MatchResult}
use Rattle.std.proofs.lemmas.Result.{err_from_is_err_and}
use Rattle.std.proofs.Math.Option.{none, some}
use Rattle.refusals.specs.declared.Refusal.TheVariants.{CompareLog, CompareRecords}
use Rattle.log_records.specs.Reading.{log_of}
use Rattle.compare_rules.specs.declared.Unlisted.{Unlisted}
use Rattle.compare_rules.specs.Compare.{Compared, most, records_of, broken_at, judged, listed_of, compared_of}
use Rattle.compare_logs.specs.declared.split.Parts.{Parts}
use Rattle.compare_logs.proofs.Ends.{refusing, none_broken, some_broken, many_first, many_second, refused_with}
use Rattle.compare_logs.proofs.compare.Goals as goal

-- what the parts of a log say of it
abbrev Whole : List ℕ → Option Parts → Type 0
Whole s parts = (broken_at (log_of s) ≡ none) × MatchOption parts (most < length (records_of s)) (λ p. p.bytes.now ≡ s)

abbrev Broken : List ℕ → ℕ → Type 0
Broken s byte = broken_at (log_of s) ≡ some byte

-- the parts, or what a refusal was made of
whole : (s : List ℕ) (o : Result (Option Parts) ℕ) (x : Option Parts) → MatchResult o (Whole s) (Broken s)
    → MatchResult o (λ z. ◌≡◌ {A = Result (Option Parts) Unlisted} (Ok x) (Ok z)) (λ e. ⊥) → Whole s x
whole s (Ok z) x h m = subst (Whole s) (let e : z ≡ x = cc in e) h
whole s (Err d) x h m = absurd m

broken : (s : List ℕ) (Q : ℕ → Type 0) (o : Result (Option Parts) ℕ) (u : Unlisted) → MatchResult o (Whole s) (Broken s)
    → MatchResult o (λ z. ◌≡◌ {A = Result (Option Parts) Unlisted} (Err u) (Ok z)) Q → (byte : ℕ) × Broken s byte × Q byte
broken s Q (Ok z) u h m = absurd (let e : ◌≡◌ {A = ℕ} 0 1 = cc in omega arith)
broken s Q (Err d) u h m = (d, h, m)

pub returns-in_err-a : goal.returns-in_err-a
unfolding compared_of
returns-in_err-a c =
    let a = c.args.a.now in
    let p = err_from_is_err_and c.from_residual.result c.from_residual.ensures.1 in
    let w = broken a _ c.of.result c.in_err-a.field-0.0 c.of.ensures c.in_err-a.ensures.cases in
    let u : c.in_err-a.field-0.0 ≡ record { why = CompareLog; side = 1; at = w.0 } = search (rules, w.2) in
    refusing (records_of a) (records_of c.args.b.now) c.args.first.now c.args.second.now c.args.places.now CompareLog 1 w.0 (p.1 ∙ ap Err (p.2 ∙ u)) (some_broken 1 w.0 _ w.1)

pub returns-in_err-b : goal.returns-in_err-b
unfolding compared_of
returns-in_err-b c =
    let a = c.args.a.now in
    let b = c.args.b.now in
    let p = err_from_is_err_and c.from_residual-in_err-b.result c.from_residual-in_err-b.ensures.1 in
    let v = whole a c.of.result c.in_ok-a.a c.of.ensures c.in_ok-a.ensures.cases in
    let w = broken b _ c.of-2.result c.in_err-b.field-0.0 c.of-2.ensures c.in_err-b.ensures.cases in
    let u : c.in_err-b.field-0.0 ≡ record { why = CompareLog; side = 2; at = w.0 } = search (rules, w.2) in
    refusing (records_of a) (records_of b) c.args.first.now c.args.second.now c.args.places.now CompareLog 2 w.0 (p.1 ∙ ap Err (p.2 ∙ u))
    (none_broken 1 _ v.0 ∙ some_broken 2 w.0 _ w.1)

pub returns-in_err-a-2 : goal.returns-in_err-a-2
unfolding compared_of
returns-in_err-a-2 c =
    let a = c.args.a.now in
    let b = c.args.b.now in
    let x = length c.args.first.now in
    let y = length c.args.second.now in
    let z = length c.args.places.now in
    let p = err_from_is_err_and c.from_residual-in_err-a-2.result c.from_residual-in_err-a-2.ensures.1 in
    let v = whole a c.of.result c.in_ok-a.a c.of.ensures c.in_ok-a.ensures.cases in
    let w = whole b c.of-2.result c.in_ok-b.b c.of-2.ensures c.in_ok-b.ensures.cases in
    let r = refused_with c.in_ok-a.a c.unlisted.result c.in_err-a-2.field-0.0 (sym c.in_err-a-2.ensures.value) in
    let many = rw r.0 at v.1 in
    refusing (records_of a) (records_of b) c.args.first.now c.args.second.now c.args.places.now CompareRecords 1 0 (p.1 ∙ ap Err (p.2 ∙ r.1 ∙ c.unlisted.ensures))
    (none_broken 1 _ v.0 ∙ none_broken 2 _ w.0 ∙ many_first (length (records_of a)) (length (records_of b)) x y z (listed_of (records_of a) (records_of b)) many)

pub returns-in_err-b-2 : goal.returns-in_err-b-2
unfolding compared_of
returns-in_err-b-2 c =
    let a = c.args.a.now in
    let b = c.args.b.now in
    let x = length c.args.first.now in
    let y = length c.args.second.now in
    let z = length c.args.places.now in
    let p = err_from_is_err_and c.from_residual-in_err-b-2.result c.from_residual-in_err-b-2.ensures.1 in
    let v = whole a c.of.result c.in_ok-a.a c.of.ensures c.in_ok-a.ensures.cases in
    let w = whole b c.of-2.result c.in_ok-b.b c.of-2.ensures c.in_ok-b.ensures.cases in
    let r = refused_with c.in_ok-b.b c.unlisted-2.result c.in_err-b-2.field-0.0 (sym c.in_err-b-2.ensures.value) in
    let q = c.in_ok-a-2.a in
    let few = rw c.in_ok-a-2.ensures.ok_part at v.1 in
    let n : q.count ≡ length (records_of a) = q.ready.1 ∙ ap (λ (s : List ℕ). length (records_of s)) few in
    let many = rw r.0 at w.1 in
    refusing (records_of a) (records_of b) c.args.first.now c.args.second.now c.args.places.now CompareRecords 2 0 (p.1 ∙ ap Err (p.2 ∙ r.1 ∙ c.unlisted-2.ensures))
    (none_broken 1 _ v.0 ∙ none_broken 2 _ w.0 ∙ many_second (length (records_of a)) (length (records_of b)) x y z (listed_of (records_of a) (records_of b)) (omega (arith, n, q.ready.0)) many)

pub returns : goal.returns
unfolding compared_of
returns c =
    let a = c.args.a.now in
    let b = c.args.b.now in
    let v = whole a c.of.result c.in_ok-a.a c.of.ensures c.in_ok-a.ensures.cases in
    let w = whole b c.of-2.result c.in_ok-b.b c.of-2.ensures c.in_ok-b.ensures.cases in
    let q = c.in_ok-a-2.a in
    let t = c.in_ok-b-2.b in
    let e = rw c.in_ok-a-2.ensures.ok_part at v.1 in
    let f = rw c.in_ok-b-2.ensures.ok_part at w.1 in
    let n : q.count ≡ length (records_of a) = q.ready.1 ∙ ap (λ (s : List ℕ). length (records_of s)) e in
    let m : t.count ≡ length (records_of b) = t.ready.1 ∙ ap (λ (s : List ℕ). length (records_of s)) f in
    let go : ℕ → ℕ → Compared = λ (i : ℕ) (j : ℕ). judged i j (length c.args.first.now) (length c.args.second.now) (length c.args.places.now) (listed_of (records_of a) (records_of b)) in
    let r = rw (e, f) at c.listing.ensures in (
      r.0 ∙ ap (λ (k : ℕ). go k t.count) n ∙ ap (go (length (records_of a))) m ∙ sym (none_broken 1 _ v.0 ∙ none_broken 2 _ w.0),
      r.1,
      r.2,
      r.3,
    )
