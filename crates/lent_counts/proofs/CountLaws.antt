-- What looking up a post's counts promises: its word tells the answer (`Told` of `plain_words`), a refusal leaves the lent places as they were, and behind
-- the counts nothing changes. Over accepted steps the counts are those of the post's history, and over requests what was refused is their own count.
use Rattle.std.specs.Prelude.{Ok}
use Prim.Native.Nat.{ℕ, ◌+◌, ◌<◌, ◌≤◌, min}
use native.Mathlib.Omega.{arith}
use mathlib.Core.Path.{◌≡◌, refl, ◌∙◌}
use mathlib.Core.Bool.{Bool, true, false, cond}
use mathlib.Core.List.{List, ◌++◌}
use lib.ListN.{length, drop}
use borrow.Author.Tests.{lt-ltb, le-leb}
use Rattle.refusals.specs.declared.Refusal.TheVariants.{NoSuchPost, NotSetUp}
use Rattle.rule_limits.specs.declared.PlainLimits.{PlainLimits}
use Rattle.rules.specs.History.{History}
use Rattle.rules.specs.Counts.{largest, counts_of}
use Rattle.rules.specs.Record.{is_set, record_as_of, record_of}
use Rattle.rules.specs.After.{count_count, post_record}
use Rattle.watch_rules.specs.declared.Table.{Table}
use Rattle.watch_rules.specs.Table.{post_count, post_in, is_post, not_found, look_up_of}
use Rattle.watch_rules.specs.Steps.{Steps, held, standing, look_up01, Kept}
use Rattle.watch_rules.specs.Run.{Request, run, accepted, handed_in, refused_ever, accepted_ever}
use Rattle.watch_rules.proofs.Right.{look_up_right}
use Rattle.watch_rules.proofs.Demand.{run_kept}
use Rattle.watch_rules.proofs.Handed.{refused_counted, handed_in_lem}
use Rattle.plain_words.specs.Words.{Within, Told}
use Rattle.lent_numbers.specs.LookUp.{handed_outcome}
use Rattle.lent_numbers.proofs.LookLaws.{handed_within, handed_told, handed_refused, handed_kept}
use Rattle.lent_counts.specs.Counts.{counts_shown, counts_word, counts_after, refused_in}

-- ---- of every table

module _ (t : Table) (i : ℕ) (cs : List ℕ) where
  pub counts_within : Within 0 (handed_outcome count_count (look_up_of t i).answer (length cs))
  counts_within = handed_within count_count t i (length cs)

  pub counts_told : Told 0 (handed_outcome count_count (look_up_of t i).answer (length cs)) (counts_word t i cs)
  unfolding counts_word
  counts_told = handed_told count_count t i (length cs)

  pub counts_refused : 65536 ≤ counts_word t i cs → counts_after t i cs ≡ cs
  unfolding counts_word counts_after
  counts_refused l = handed_refused count_count t i (counts_shown (look_up_of t i).shown) cs l

-- a record has as many counts as there are places for
as_many : (t : Table) (i : ℕ) → length (counts_shown (look_up_of t i).shown) ≡ count_count
unfolding look_up_of post_record
as_many t i = go (is_post i) (is_set (post_in t i).head.used)
  where
    go : (a b : Bool) → length (counts_shown (cond a (cond b (record { answer = Ok tt; shown = post_record (post_in t i) }) (not_found NotSetUp)) (not_found NoSuchPost)).shown) ≡ count_count
    go true true = refl
    go true false = refl
    go false b = refl

pub counts_kept : (t : Table) (i : ℕ) (cs : List ℕ) → drop count_count (counts_after t i cs) ≡ drop count_count cs
unfolding counts_after
counts_kept t i cs = handed_kept count_count (look_up_of t i).answer (counts_shown (look_up_of t i).shown) cs (as_many t i)

-- ---- over accepted steps

module _ (t : Table) (s : Steps) (kept : Kept t s) (i c : ℕ) (lim : PlainLimits) (h : History) (low : i < post_count) (own : standing i s ≡ held c lim h) where
  shown : look_up_of t i ≡ record { answer = Ok tt; shown = record_of c lim h }
  unfolding look_up01
  shown = look_up_right t s i kept ∙ rw (lt-ltb i post_count low, own)

  -- "equal to the count over that post's history": its events, and those of which each rule finds something
  pub counts_right : (cs : List ℕ) → count_count ≤ length cs → (counts_word t i cs ≡ 0) × (counts_after t i cs ≡ counts_of lim h ++ drop count_count cs)
  unfolding counts_word counts_after record_as_of
  counts_right cs room = (rw (shown, le-leb count_count (length cs) room), rw (shown, le-leb count_count (length cs) room))

-- ---- over any requests

pub counts_of_run : (rs : List Request) (i c : ℕ) (lim : PlainLimits) (h : History) → i < post_count → standing i (accepted rs) ≡ held c lim h
    → (cs : List ℕ) → count_count ≤ length cs → (counts_word (run rs) i cs ≡ 0) × (counts_after (run rs) i cs ≡ counts_of lim h ++ drop count_count cs)
counts_of_run rs = counts_right (run rs) (accepted rs) (run_kept rs)

pub refused_of_run : (rs : List Request) → refused_in (run rs) ≡ min (refused_ever rs) largest
refused_of_run rs = omega (arith, refused_counted rs)

-- until it is at its largest, what is refused is what was handed in and not accepted
pub accounted : (rs : List Request) → refused_ever rs ≤ largest → accepted_ever rs + refused_in (run rs) ≡ handed_in rs
accounted rs few = omega (arith, handed_in_lem rs few, refused_counted rs)
