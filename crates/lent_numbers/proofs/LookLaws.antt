-- What looking up a post's numbers promises: its word tells the answer (`Told` of `plain_words`), a refusal leaves the lent numbers as they were, and
-- behind the places named nothing changes. First of any n numbers, for every look-up that hands out some.
use Rattle.std.specs.Prelude.{Some, None, Ok, Err}
use Prim.Native.Nat.{ℕ, ◌≤◌}
use native.Mathlib.Omega.{arith}
use mathlib.Core.Path.{◌≡◌, refl}
use mathlib.Core.Bool.{Bool, true, false, cond, true≢false}
use mathlib.Core.List.{List, ◌++◌}
use lib.Dec.{leb}
use lib.ListN.{length, drop}
use lib.Seq.{drop_at}
use Rattle.refusals.specs.declared.Refusal.TheVariants.{ShortBuffer}
use Rattle.rules.specs.LastTime.{LastTime}
use Rattle.rules.specs.SessionPart.{SessionPart}
use Rattle.rules.specs.declared.Record.{Record}
use Rattle.watch_rules.specs.declared.Table.{Table}
use Rattle.watch_rules.specs.Setting.{Setting}
use Rattle.watch_rules.specs.Table.{look_up_of}
use Rattle.plain_words.specs.Words.{Outcome, answers, refuses, outcome_word, is_accepted, Within, Told}
use Rattle.plain_words.proofs.WordLaws.{either, word_tells, not_accepted}
use Rattle.lent_look.proofs.Asked.{any_look}
use Rattle.lent_numbers.specs.LookUp.{number_count, numbers_of, handed_outcome, handed_left, look_up_word, numbers_after}

-- ---- n numbers

-- by the places that are lent
module _ (n : ℕ) (t : Table) (i : ℕ) (places : ℕ) where
  abbrev outcome : Outcome
  outcome = handed_outcome n (look_up_of t i).answer places

  pub handed_within : Within 0 outcome
  handed_within =
      any_look t i (λ (s : Setting). Within 0 (handed_outcome n s places))
      (either (Within 0) (leb n places) (omega arith) (omega arith)) (omega arith) (omega arith)

  pub handed_told : Told 0 outcome (outcome_word outcome)
  handed_told = word_tells 0 outcome (omega arith) handed_within

module _ (n : ℕ) (t : Table) (i : ℕ) (xs ns : List ℕ) where
  pub handed_refused : 65536 ≤ outcome_word (handed_outcome n (look_up_of t i).answer (length ns)) → handed_left n (look_up_of t i).answer xs ns ≡ ns
  handed_refused l = go (look_up_of t i).answer (not_accepted 0 (handed_outcome n (look_up_of t i).answer (length ns)) (omega arith) (handed_within n t i (length ns)) l)
    where
      room : (b : Bool) → is_accepted (cond b (answers 0) (refuses ShortBuffer)) ≡ false → cond b (xs ++ drop n ns) ns ≡ ns
      room true e = absurd (true≢false e)
      room false e = refl

      go : (s : Setting) → is_accepted (handed_outcome n s (length ns)) ≡ false → handed_left n s xs ns ≡ ns
      go (Ok tt) e = room (leb n (length ns)) e
      go (Err w) e = refl

pub handed_kept : (n : ℕ) (s : Setting) (xs ns : List ℕ) → length xs ≡ n → drop n (handed_left n s xs ns) ≡ drop n ns
handed_kept n (Ok tt) xs ns e = room (leb n (length ns))
  where
    room : (b : Bool) → drop n (cond b (xs ++ drop n ns) ns) ≡ drop n ns
    room true = drop_at xs (drop n ns) n e
    room false = refl
handed_kept n (Err w) xs ns e = refl

-- ---- the post's numbers

module _ (t : Table) (i : ℕ) (ns : List ℕ) where
  pub look_up_within : Within 0 (handed_outcome number_count (look_up_of t i).answer (length ns))
  look_up_within = handed_within number_count t i (length ns)

  pub look_up_told : Told 0 (handed_outcome number_count (look_up_of t i).answer (length ns)) (look_up_word t i ns)
  unfolding look_up_word
  look_up_told = handed_told number_count t i (length ns)

  pub look_up_refused : 65536 ≤ look_up_word t i ns → numbers_after t i ns ≡ ns
  unfolding look_up_word numbers_after
  look_up_refused l = handed_refused number_count t i (numbers_of (look_up_of t i).shown) ns l

as_many : (r : Record) → length (numbers_of r) ≡ number_count
unfolding numbers_of
as_many r = go r.last r.session refl refl
  where
    go : (a : LastTime) (b : SessionPart) → r.last ≡ a → r.session ≡ b → length (numbers_of r) ≡ number_count
    go None None e f = rw (e, f)
    go None (Some s) e f = rw (e, f)
    go (Some x) None e f = rw (e, f)
    go (Some x) (Some s) e f = rw (e, f)

pub look_up_kept : (t : Table) (i : ℕ) (ns : List ℕ) → drop number_count (numbers_after t i ns) ≡ drop number_count ns
unfolding numbers_after
look_up_kept t i ns = handed_kept number_count (look_up_of t i).answer (numbers_of (look_up_of t i).shown) ns (as_many (look_up_of t i).shown)
